use Rattle.std.proofs.Common.{arith, None, refl, rules, sym}
use Rattle.bptree_invariant.specs.Shape.{root_least}
use Rattle.bptree_invariant.proofs.Walk.{tree_ascends}
use Rattle.bptree_insertion.proofs.Cached.{cached_leaf_with_room, absent_in_cached, added_to_cached}
use Rattle.bptree_insertion.proofs.Upserted.{as_many, one_more, replaced}
use Rattle.bptree_insertion.proofs.insertion.put_cached.Goals as goal

pub invariant_of-tree : goal.invariant_of-tree
invariant_of-tree g c =
    let total = g.met.S.K.Ord.total in
    let sum = g.S.Argument.Argument.is_summary in
    let slots = g.S.NodeStore.slots in
    let tree = c.tree.inside in
    let shape = c.tree.invariant.0 in
    let cached = rw (← c.tree.view_is) at c.requires.cached in
    let node = c.get_leaf.result.now in
    let leads = cached_leaf_with_room total sum (slots tree.store) tree.height tree.root c.args.k c.args.leaf node shape cached.holds c.get_leaf.ensures in
    let r = replaced total sum (slots tree.store) tree.height tree.root c.args.k c.args.leaf node shape leads c.get_leaf.ensures c.in-Ok.slot c.in-Ok.ensures.found c.args.v c.replace_at.result
    (rw c.get_leaf.ensures at c.replace_at.ensures.old) (slots c.replace_at.new.store) (c.replace_at.ensures.sets node c.get_leaf.ensures) in
    as_many total tree.len c.tree.invariant.1 r c.tree.invariant.2

pub returns-in-Ok : goal.returns-in-Ok
returns-in-Ok g c =
    let total = g.met.S.K.Ord.total in
    let sum = g.S.Argument.Argument.is_summary in
    let slots = g.S.NodeStore.slots in
    let tree = c.tree.inside in
    let shape = c.tree.invariant.0 in
    let cached = rw (← c.tree.view_is) at c.requires.cached in
    let node = c.get_leaf.result.now in
    let leads = cached_leaf_with_room total sum (slots tree.store) tree.height tree.root c.args.k c.args.leaf node shape cached.holds c.get_leaf.ensures in
    let r = replaced total sum (slots tree.store) tree.height tree.root c.args.k c.args.leaf node shape leads c.get_leaf.ensures c.in-Ok.slot c.in-Ok.ensures.found c.args.v c.replace_at.result
    (rw c.get_leaf.ensures at c.replace_at.ensures.old) (slots c.replace_at.new.store) (c.replace_at.ensures.sets node c.get_leaf.ensures) in
    let i = as_many total tree.len c.tree.invariant.1 r c.tree.invariant.2 in
    record {
      put = rw (← c.tree.view_is) (sym r.there, r.pairs);
      whole = record { shape = i.0; contents = refl; summary = i.2 };
      unchanged = tt;
      returned = tt;
      absent = tt;
    }

pub overflow_add-tree : goal.overflow_add-tree
overflow_add-tree g c =
    let tree = c.tree.inside in
    let cached = rw (← c.tree.view_is) at c.requires.cached in
    let absent = absent_in_cached g.met.S.K.Ord.total g.S.Argument.Argument.is_summary (g.S.NodeStore.slots tree.store) tree.height tree.root c.args.k c.args.leaf c.get_leaf.result.now c.tree.invariant.0 cached.holds c.get_leaf.ensures c.in-Err.slot c.in-Err.ensures.index in
    omega (arith, (rw (← c.tree.view_is) at c.requires.room) absent, c.tree.invariant.1)

pub returns-in-Err-add_at : goal.returns-in-Err-add_at
returns-in-Err-add_at g c =
    let tree = c.tree.inside in
    let cached = rw (← c.tree.view_is) at c.requires.cached in
    record {
      put = tt;
      whole = search rules;
      unchanged = search rules;
      returned = c.in-Err-add_at.ensures.returned;
      absent = rw (← c.tree.view_is) (absent_in_cached g.met.S.K.Ord.total g.S.Argument.Argument.is_summary (g.S.NodeStore.slots tree.store) tree.height tree.root c.args.k c.args.leaf c.get_leaf.result.now c.tree.invariant.0 cached.holds c.get_leaf.ensures c.in-Err.slot c.in-Err.ensures.index);
    }

pub invariant_of-tree-in-Ok-add_at : goal.invariant_of-tree-in-Ok-add_at
invariant_of-tree-in-Ok-add_at g c =
    let total = g.met.S.K.Ord.total in
    let sum = g.S.Argument.Argument.is_summary in
    let slots = g.S.NodeStore.slots in
    let tree = c.tree.inside in
    let shape = c.tree.invariant.0 in
    let cached = rw (← c.tree.view_is) at c.requires.cached in
    let node = c.get_leaf.result.now in
    let absent = absent_in_cached total sum (slots tree.store) tree.height tree.root c.args.k c.args.leaf node shape cached.holds c.get_leaf.ensures c.in-Err.slot c.in-Err.ensures.index in
    let p = added_to_cached total sum (slots tree.store) tree.height tree.root c.args.k c.args.leaf node shape cached.holds c.get_leaf.ensures c.in-Err.slot c.in-Err.ensures.index (rw (← c.tree.view_is) at c.requires.room)
    c.args.v (slots c.add_at.new.store) cached.any c.in-Ok-add_at.ensures.adds cached.few c.in-Ok-add_at.summary c.in-Ok-add_at.ensures.sums in
    one_more total tree.len c.tree.invariant.1 p.1 absent (tree_ascends total (slots tree.store) (root_least tree.height) tree.height tree.root None None shape.tree)

pub returns-in-Ok-add_at : goal.returns-in-Ok-add_at
returns-in-Ok-add_at g c =
    let slots = g.S.NodeStore.slots in
    let tree = c.tree.inside in
    let cached = rw (← c.tree.view_is) at c.requires.cached in
    let p = added_to_cached g.met.S.K.Ord.total g.S.Argument.Argument.is_summary (slots tree.store) tree.height tree.root c.args.k c.args.leaf c.get_leaf.result.now c.tree.invariant.0 cached.holds c.get_leaf.ensures c.in-Err.slot c.in-Err.ensures.index (rw (← c.tree.view_is) at c.requires.room)
    c.args.v (slots c.add_at.new.store) cached.any c.in-Ok-add_at.ensures.adds cached.few c.in-Ok-add_at.summary c.in-Ok-add_at.ensures.sums in
    record {
      put = rw (← c.tree.view_is) (sym p.0, p.1.pairs);
      whole = record { shape = p.1.shape; contents = refl; summary = p.1.reported };
      unchanged = tt;
      returned = tt;
      absent = tt;
    }
