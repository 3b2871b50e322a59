use Rattle.std.proofs.Common.{ap, arith, length, refl, sym}
use Rattle.bptree_propagation.proofs.Borrowed.{none_if_absent}
use Rattle.bptree_invariant.proofs.Low.{low_tree}
use Rattle.bptree_insertion.proofs.Upserted.{absent, as_many, due, replaced}
use Rattle.bptree_insertion.proofs.insertion.upsert.Goals as goal

pub find_path-leaf-requires-clause-room : goal.find_path-leaf-requires-clause-room
find_path-leaf-requires-clause-room g c =
    let tree = c.tree.inside in
    omega (arith, low_tree g.S.K.Ord.cmp g.S.Argument.Argument.is_summary (g.S.NodeStore.slots tree.store) tree.height tree.root c.tree.invariant.0 (omega (arith, c.tree.invariant.1)), ap length c.clear.ensures)

pub invariant_of-tree : goal.invariant_of-tree
invariant_of-tree g c =
    let total = g.met.S.K.Ord.total in
    let slots = g.S.NodeStore.slots in
    let tree = c.tree.inside in
    let node = c.get_leaf.result.now in
    let r = replaced total g.S.Argument.Argument.is_summary (slots tree.store) tree.height tree.root c.args.k c.find_path-leaf.result node c.tree.invariant.0 c.find_path-leaf.ensures.leaf c.get_leaf.ensures c.in-Ok.slot c.in-Ok.ensures.found c.args.v c.replace_at.result
    (rw c.get_leaf.ensures at c.replace_at.ensures.old) (slots c.replace_at.new.store) (c.replace_at.ensures.sets node c.get_leaf.ensures) in
    as_many total tree.len c.tree.invariant.1 r c.tree.invariant.2

pub returns-in-Some : goal.returns-in-Some
returns-in-Some g c = c.put_cached.ensures

pub returns-in-Ok : goal.returns-in-Ok
returns-in-Ok g c =
    let total = g.met.S.K.Ord.total in
    let slots = g.S.NodeStore.slots in
    let tree = c.tree.inside in
    let node = c.get_leaf.result.now in
    let r = replaced total g.S.Argument.Argument.is_summary (slots tree.store) tree.height tree.root c.args.k c.find_path-leaf.result node c.tree.invariant.0 c.find_path-leaf.ensures.leaf c.get_leaf.ensures c.in-Ok.slot c.in-Ok.ensures.found c.args.v c.replace_at.result
    (rw c.get_leaf.ensures at c.replace_at.ensures.old) (slots c.replace_at.new.store) (c.replace_at.ensures.sets node c.get_leaf.ensures) in
    let i = as_many total tree.len c.tree.invariant.1 r c.tree.invariant.2 in
    record {
      put = rw (← c.tree.view_is) (sym r.there, r.pairs);
      whole = record { shape = i.0; contents = refl; summary = i.2 };
      unchanged = tt;
      returned = tt;
      absent = tt;
    }

pub insert_new-requires-clause-due : goal.insert_new-requires-clause-due
insert_new-requires-clause-due g c =
    let tree = c.tree.inside in
    rw (← c.tree.view_is)
    (due g.met.S.K.Ord.total g.S.Argument.Argument.is_summary (g.S.NodeStore.slots tree.store) tree.height tree.root c.args.k c.find_path-leaf.result c.get_leaf.result.now c.tree.invariant.0 c.find_path-leaf.ensures.leaf c.get_leaf.ensures c.in-Err.slot c.in-Err.ensures.index (rw (← c.tree.view_is) at c.requires)
    c.find_path-leaf.new.path (c.find_path-leaf.ensures.way tree.height tree.root (rw c.clear.ensures (refl, refl))))

pub insert_new-requires-clause-absent : goal.insert_new-requires-clause-absent
insert_new-requires-clause-absent g c =
    let tree = c.tree.inside in
    rw (← c.tree.view_is) (absent g.met.S.K.Ord.total g.S.Argument.Argument.is_summary (g.S.NodeStore.slots tree.store) tree.height tree.root c.args.k c.find_path-leaf.result c.get_leaf.result.now c.tree.invariant.0 c.find_path-leaf.ensures.leaf c.get_leaf.ensures c.in-Err.slot c.in-Err.ensures.index)

pub returns-in-Err-insert_new : goal.returns-in-Err-insert_new
returns-in-Err-insert_new g c =
    let tree = c.tree.inside in
    record {
      put = tt;
      whole = c.in-Err-insert_new.ensures.whole;
      unchanged = c.in-Err-insert_new.ensures.unchanged;
      returned = c.in-Err-insert_new.ensures.returned;
      absent = rw (← c.tree.view_is) (absent g.met.S.K.Ord.total g.S.Argument.Argument.is_summary (g.S.NodeStore.slots tree.store) tree.height tree.root c.args.k c.find_path-leaf.result c.get_leaf.result.now c.tree.invariant.0 c.find_path-leaf.ensures.leaf c.get_leaf.ensures c.in-Err.slot c.in-Err.ensures.index);
    }

pub returns-in-Ok-insert_new : goal.returns-in-Ok-insert_new
returns-in-Ok-insert_new g c =
    let tree = c.tree.inside in
    let none = absent g.met.S.K.Ord.total g.S.Argument.Argument.is_summary (g.S.NodeStore.slots tree.store) tree.height tree.root c.args.k c.find_path-leaf.result c.get_leaf.result.now c.tree.invariant.0 c.find_path-leaf.ensures.leaf c.get_leaf.ensures c.in-Err.slot c.in-Err.ensures.index in
    record {
      put = (rw (← c.tree.view_is) (sym (none_if_absent g.S.K.Ord.cmp _ c.args.k none)), c.in-Ok-insert_new.ensures.put);
      whole = c.in-Ok-insert_new.ensures.whole;
      unchanged = tt;
      returned = tt;
      absent = tt;
    }
