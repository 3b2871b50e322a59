use Rattle.bptree_rebalancing.specs.ChooseSibling.{IsInnerAt}
use Rattle.bptree_rebalancing.proofs.Choosing.{inner_numbered}
use Rattle.bptree_invariant.specs.Shape.{inner_children}
use Rattle.bptree_invariant.proofs.ListReads.{all_read}
use Rattle.bptree_rebalancing.proofs.underflow.inner_at.Goals as goal

pub inner_id_unchecked-requires : goal.inner_id_unchecked-requires
inner_id_unchecked-requires g c =
    let slots = g.S.NodeStore.slots c.args.store.now in
    inner_numbered slots c.child_id.result (all_read (IsInnerAt slots) (inner_children (slots.inner c.args.id.0)) c.args.index c.child_id.result c.requires.children (rw c.get_inner.ensures c.child_id.ensures))
