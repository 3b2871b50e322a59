use Rattle.std.proofs.Common.{Err, Ok, refl}
use Rattle.bptree_search.proofs.Beside.{slot_there, value_found, value_missing}
use Rattle.bptree_search.proofs.neighbours.value_at.Goals as goal

pub data_at-requires : goal.data_at-requires
data_at-requires g c =
    let tree = c.args.tree.now in
    slot_there g.met.S.K.Ord.total g.S.Argument.Argument.is_summary (g.S.NodeStore.slots tree.store) tree.height tree.root c.recall.ensures.whole.shape c.args.key.now c.in-Ok.at.leaf (Ok c.in-Ok.at.slot) (rw c.in-Ok.is at c.index_of-index.ensures.index) c.index_of-index.result.0.now (rw c.in-Ok.is at c.index_of-index.ensures.leaf) c.in-Ok.at.slot refl

pub returns-in-Ok : goal.returns-in-Ok
returns-in-Ok g c =
    let tree = c.args.tree.now in
    rw c.recall.ensures.whole.contents
    (value_found g.met.S.K.Ord.total g.S.Argument.Argument.is_summary (g.S.NodeStore.slots tree.store) tree.height tree.root c.recall.ensures.whole.shape c.args.key.now c.in-Ok.at.leaf (Ok c.in-Ok.at.slot) (rw c.in-Ok.is at c.index_of-index.ensures.index) c.index_of-index.result.0.now (rw c.in-Ok.is at c.index_of-index.ensures.leaf) c.in-Ok.at.slot (c.data_at.result.0.now, c.data_at.result.1.now) refl c.data_at.ensures.value)

pub returns-in-Err : goal.returns-in-Err
returns-in-Err g c =
    let tree = c.args.tree.now in
    rw c.recall.ensures.whole.contents
    (value_missing g.met.S.K.Ord.total g.S.Argument.Argument.is_summary (g.S.NodeStore.slots tree.store) tree.height tree.root c.recall.ensures.whole.shape c.args.key.now c.in-Err.field-0.leaf (Err c.in-Err.field-0.slot) (rw c.in-Err.is at c.index_of-index.ensures.index) c.in-Err.field-0.slot refl)
