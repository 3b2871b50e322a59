use Rattle.std.proofs.Common.{Err, Ok, refl}
use Rattle.bptree_search.proofs.Beside.{lacks_key, present_there, slot_there}
use Rattle.bptree_tree.proofs.EntryLemmas.{entry_there}
use Rattle.bptree_tree.proofs.tree.BPlusTree.find.Goals as goal

pub get_leaf-requires : goal.get_leaf-requires
get_leaf-requires g c =
    let tree = c.nodes.inside in
    present_there g.met.S.K.Ord.total g.S.Argument.Argument.is_summary (g.S.NodeStore.slots tree.store) tree.height tree.root c.nodes.invariant.0 c.args.k.now c.in-Ok.at.leaf (Ok c.in-Ok.at.slot) (rw (← c.nodes.view_is) at c.in-Ok.ensures)

pub data_at-requires : goal.data_at-requires
data_at-requires g c =
    let tree = c.nodes.inside in
    slot_there g.met.S.K.Ord.total g.S.Argument.Argument.is_summary (g.S.NodeStore.slots tree.store) tree.height tree.root c.nodes.invariant.0 c.args.k.now c.in-Ok.at.leaf (Ok c.in-Ok.at.slot) (rw (← c.nodes.view_is) at c.in-Ok.ensures) c.get_leaf.result.now c.get_leaf.ensures c.in-Ok.at.slot refl

pub returns-in-Ok : goal.returns-in-Ok
returns-in-Ok g c =
    let tree = c.nodes.inside in
    let at = rw (← c.nodes.view_is) at c.in-Ok.ensures in
    record {
      found = rw (← c.self.view_is, ← c.nodes.view_is) (entry_there g.met.S.K.Ord.total g.S.Argument.Argument.is_summary (g.S.NodeStore.slots tree.store) tree.height tree.root c.nodes.invariant.0 c.args.k.now c.in-Ok.at.leaf c.get_leaf.result.now at.for_key c.get_leaf.ensures c.in-Ok.at.slot _ (rw c.get_leaf.ensures at at.index_is) c.data_at.ensures.value);
      absent = tt;
    }

pub returns-in-Err : goal.returns-in-Err
returns-in-Err g c =
    let tree = c.nodes.inside in
    record { found = tt; absent = rw (← c.self.view_is, ← c.nodes.view_is) (lacks_key g.met.S.K.Ord.total g.S.Argument.Argument.is_summary (g.S.NodeStore.slots tree.store) tree.height tree.root c.nodes.invariant.0 c.args.k.now c.in-Err.at.leaf (Err c.in-Err.at.slot) (rw (← c.nodes.view_is) at c.in-Err.ensures) c.in-Err.at.slot refl) }
