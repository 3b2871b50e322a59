use Rattle.bptree_rebalancing.specs.ChooseSibling.{IsLeafAt}
use Rattle.bptree_rebalancing.proofs.Choosing.{leaf_numbered}
use Rattle.bptree_invariant.specs.Shape.{inner_children}
use Rattle.bptree_invariant.proofs.ListReads.{all_read}
use Rattle.bptree_rebalancing.proofs.underflow.leaf_at.Goals as goal

pub leaf_id_unchecked-requires : goal.leaf_id_unchecked-requires
leaf_id_unchecked-requires g c =
    let slots = g.S.NodeStore.slots c.args.store.now in
    leaf_numbered slots c.child_id.result (all_read (IsLeafAt slots) (inner_children (slots.inner c.args.id.0)) c.args.index c.child_id.result c.requires.children (rw c.get_inner.ensures c.child_id.ensures))
