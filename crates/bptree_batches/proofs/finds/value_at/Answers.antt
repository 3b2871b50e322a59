use Rattle.std.proofs.Common.{◌≡◌, ◌<◌, length, IfOk, subst}
use Rattle.bptree_nodes.proofs.LeafContents.{shown_at}
use Rattle.bptree_batches.proofs.finds.value_at.Goals as goal

pub data_at-requires : goal.data_at-requires
data_at-requires g c =
    let node = c.get_leaf-leaf.result.now in
    subst (λ s. IfOk s (λ i. i < length node.pairs)) c.in-Ok.is (c.requires.within c.leaf_id_unchecked.result node c.leaf_id_unchecked.ensures c.get_leaf-leaf.ensures)

pub returns : goal.returns
returns g c = λ leaf node is there.
    let read = c.get_leaf-leaf.result.now in
    let same : read ≡ node = cc in
    let within : c.in-Ok.slot < length read.pairs = subst (λ s. IfOk s (λ i. i < length read.pairs)) c.in-Ok.is (c.requires.within c.leaf_id_unchecked.result read c.leaf_id_unchecked.ensures c.get_leaf-leaf.ensures) in
    let shown = shown_at read.pairs c.in-Ok.slot _ _ c.data_at.ensures.value within in
    rw (c.in-Ok.is, ← same) shown.0
