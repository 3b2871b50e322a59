use Rattle.std.proofs.Common.{◌∙◌, length, sym, ap}
use Rattle.bptree_invariant.specs.Shape.{leaf_pairs}
use Rattle.bptree_rebalancing.proofs.LeafSpot as spot
use Rattle.bptree_rebalancing.proofs.ClimbingLeaf as climb
use Rattle.bptree_propagation.proofs.SlotFacts.{next_seen}
use Rattle.bptree_rebalancing.proofs.underflow.rebalance_leaf.Goals as goal

pub leaf_sibling-slot-requires-clause-children : goal.leaf_sibling-slot-requires-clause-children
leaf_sibling-slot-requires-clause-children g c = spot.leaves_there g.met.S.K.Ord.total c.requires.0

pub leaf_sibling-slot-requires-clause-long : goal.leaf_sibling-slot-requires-clause-long
leaf_sibling-slot-requires-clause-long g c = spot.long_there g.met.S.K.Ord.total c.requires.0

pub leaf_sibling-slot-requires-clause-index : goal.leaf_sibling-slot-requires-clause-index
leaf_sibling-slot-requires-clause-index g c = (spot.node_there g.met.S.K.Ord.total c.requires.0, spot.index_there g.met.S.K.Ord.total c.requires.0, spot.fits_there g.met.S.K.Ord.total c.requires.0)

pub leaves_at-requires-clause-children : goal.leaves_at-requires-clause-children
leaves_at-requires-clause-children g c = spot.leaves_there g.met.S.K.Ord.total c.requires.0

pub leaves_at-requires-clause-slot : goal.leaves_at-requires-clause-slot
leaves_at-requires-clause-slot g c = (spot.node_there g.met.S.K.Ord.total c.requires.0, spot.slot_there g.met.S.K.Ord.total c.requires.0 c.leaf_sibling-slot.result.0 c.leaf_sibling-slot.result.1 c.leaf_sibling-slot.ensures, spot.fits_there g.met.S.K.Ord.total c.requires.0)

pub spare_pairs-count-requires-clause-left : goal.spare_pairs-count-requires-clause-left
spare_pairs-count-requires-clause-left g c = (spot.left_there g.met.S.K.Ord.total c.requires.0 c.leaf_sibling-slot.result.0 c.leaves_at.result.0 c.leaves_at.result.1 c.leaves_at.ensures.left c.leaves_at.ensures.right).0

pub spare_pairs-count-requires-clause-right : goal.spare_pairs-count-requires-clause-right
spare_pairs-count-requires-clause-right g c = (spot.right_there g.met.S.K.Ord.total c.requires.0 c.leaf_sibling-slot.result.0 c.leaves_at.result.0 c.leaves_at.result.1 c.leaves_at.ensures.left c.leaves_at.ensures.right).0

pub spare_pairs-count-requires-clause-spares : goal.spare_pairs-count-requires-clause-spares
spare_pairs-count-requires-clause-spares g c = spot.spares_there g.met.S.K.Ord.total c.requires.0 c.leaf_sibling-slot.result.0 c.leaves_at.result.0 c.leaves_at.result.1 c.leaves_at.ensures.left c.leaves_at.ensures.right c.in-Some.giver (rw c.in-Some.is at c.leaf_sibling-slot.ensures)

pub rotate_leaves_at-requires-clause-index : goal.rotate_leaves_at-requires-clause-index
rotate_leaves_at-requires-clause-index g c = spot.entry_there g.met.S.K.Ord.total c.requires.0 c.leaf_sibling-slot.result.0 c.leaf_sibling-slot.result.1 c.leaf_sibling-slot.ensures

pub rotate_leaves_at-requires-clause-most : goal.rotate_leaves_at-requires-clause-most
rotate_leaves_at-requires-clause-most g c = spot.most_there g.met.S.K.Ord.total c.requires.0

pub rotate_leaves_at-requires-clause-left : goal.rotate_leaves_at-requires-clause-left
rotate_leaves_at-requires-clause-left g c = (spot.left_there g.met.S.K.Ord.total c.requires.0 c.leaf_sibling-slot.result.0 c.leaves_at.result.0 c.leaves_at.result.1 c.leaves_at.ensures.left c.leaves_at.ensures.right).0

pub rotate_leaves_at-requires-clause-right : goal.rotate_leaves_at-requires-clause-right
rotate_leaves_at-requires-clause-right g c = (spot.right_there g.met.S.K.Ord.total c.requires.0 c.leaf_sibling-slot.result.0 c.leaves_at.result.0 c.leaves_at.result.1 c.leaves_at.ensures.left c.leaves_at.ensures.right).0

pub rotate_leaves_at-requires-clause-rotates : goal.rotate_leaves_at-requires-clause-rotates
rotate_leaves_at-requires-clause-rotates g c = spot.rotates_there g.met.S.K.Ord.total c.requires.0 c.leaf_sibling-slot.result.0 c.leaves_at.result.0 c.leaves_at.result.1 c.leaves_at.ensures.left c.leaves_at.ensures.right c.in-Some.giver c.spare_pairs-count.result (rw c.in-Some.is at c.leaf_sibling-slot.ensures) c.spare_pairs-count.ensures

pub rotate_leaves_at-requires-clause-apart : goal.rotate_leaves_at-requires-clause-apart
rotate_leaves_at-requires-clause-apart g c = spot.apart_there g.met.S.K.Ord.total c.requires.0 c.leaf_sibling-slot.result.0 c.leaves_at.result.0 c.leaves_at.result.1 c.leaves_at.ensures.left c.leaves_at.ensures.right

pub merge_leaves_at-requires-clause-index : goal.merge_leaves_at-requires-clause-index
merge_leaves_at-requires-clause-index g c = spot.entry_there g.met.S.K.Ord.total c.requires.0 c.leaf_sibling-slot.result.0 c.leaf_sibling-slot.result.1 c.leaf_sibling-slot.ensures

pub merge_leaves_at-requires-clause-most : goal.merge_leaves_at-requires-clause-most
merge_leaves_at-requires-clause-most g c = spot.most_there g.met.S.K.Ord.total c.requires.0

pub merge_leaves_at-requires-clause-fits : goal.merge_leaves_at-requires-clause-fits
merge_leaves_at-requires-clause-fits g c = spot.merges_there g.met.S.K.Ord.total c.requires.0 c.leaf_sibling-slot.result.0 c.leaves_at.result.0 c.leaves_at.result.1 c.leaves_at.ensures.left c.leaves_at.ensures.right (rw c.in-None.is at c.leaf_sibling-slot.ensures)

pub merge_leaves_at-requires-clause-apart : goal.merge_leaves_at-requires-clause-apart
merge_leaves_at-requires-clause-apart g c = spot.apart_there g.met.S.K.Ord.total c.requires.0 c.leaf_sibling-slot.result.0 c.leaves_at.result.0 c.leaves_at.result.1 c.leaves_at.ensures.left c.leaves_at.ensures.right

pub ascend-requires : goal.ascend-requires
ascend-requires g c =
    let done = c.in_ok-above-in-Some in
    record { climbs = climb.rotated g.met.S.K.Ord.total c.requires.0 c.leaf_sibling-slot.result.0 c.leaf_sibling-slot.result.1 c.leaf_sibling-slot.ensures c.leaves_at.result.0 c.leaves_at.result.1 c.leaves_at.ensures.left c.leaves_at.ensures.right done.joint c.in-Some.giver c.spare_pairs-count.result c.spare_pairs-count.ensures done.ensures.rotates done.above done.ensures.sums; had = c.requires.1 }

pub get_leaf-requires : goal.get_leaf-requires
get_leaf-requires g c = (spot.left_there g.met.S.K.Ord.total c.requires.0 c.leaf_sibling-slot.result.0 c.leaves_at.result.0 c.leaves_at.result.1 c.leaves_at.ensures.left c.leaves_at.ensures.right).0

pub get_leaf-requires-in-None : goal.get_leaf-requires-in-None
get_leaf-requires-in-None g c = (spot.right_there g.met.S.K.Ord.total c.requires.0 c.leaf_sibling-slot.result.0 c.leaves_at.result.0 c.leaves_at.result.1 c.leaves_at.ensures.left c.leaves_at.ensures.right).0

pub ascend_underflow-requires : goal.ascend_underflow-requires
ascend_underflow-requires g c =
    let done = c.in_ok-above-in-None in
    (climb.merged g.met.S.K.Ord.total c.requires.0 c.leaf_sibling-slot.result.0 c.leaf_sibling-slot.result.1 c.leaf_sibling-slot.ensures c.leaves_at.result.0 c.leaves_at.result.1 c.leaves_at.ensures.left c.leaves_at.ensures.right done.joint done.emptied.value done.ensures.merges done.above done.ensures.sums, c.requires.1)

pub release_leaf-requires : goal.release_leaf-requires
release_leaf-requires g c =
    let done = c.in_ok-above-in-None in
    climb.held_so g.met.S.K.Ord.total c.requires.0 c.leaf_sibling-slot.result.0 c.leaf_sibling-slot.result.1 c.leaf_sibling-slot.ensures c.leaves_at.result.0 c.leaves_at.result.1 c.leaves_at.ensures.left c.leaves_at.ensures.right done.joint done.emptied.value done.ensures.merges done.above done.ensures.sums (g.S.NodeStore.slots c.ascend_underflow.new.store) c.in-Ok-ascend_underflow.top
    (c.in-Ok-ascend_underflow.ensures.rises (climb.merged g.met.S.K.Ord.total c.requires.0 c.leaf_sibling-slot.result.0 c.leaf_sibling-slot.result.1 c.leaf_sibling-slot.ensures c.leaves_at.result.0 c.leaves_at.result.1 c.leaves_at.ensures.left c.leaves_at.ensures.right done.joint done.emptied.value done.ensures.merges done.above done.ensures.sums, c.requires.1))

pub relink_next-requires : goal.relink_next-requires
relink_next-requires g c =
    let done = c.in_ok-above-in-None in
    record {
      next = climb.next_so g.met.S.K.Ord.total c.requires.0 c.leaf_sibling-slot.result.0 c.leaf_sibling-slot.result.1 c.leaf_sibling-slot.ensures c.leaves_at.result.0 c.leaves_at.result.1 c.leaves_at.ensures.left c.leaves_at.ensures.right done.joint done.emptied.value done.ensures.merges done.above done.ensures.sums (g.S.NodeStore.slots c.ascend_underflow.new.store) c.in-Ok-ascend_underflow.top
          (c.in-Ok-ascend_underflow.ensures.rises (climb.merged g.met.S.K.Ord.total c.requires.0 c.leaf_sibling-slot.result.0 c.leaf_sibling-slot.result.1 c.leaf_sibling-slot.ensures c.leaves_at.result.0 c.leaves_at.result.1 c.leaves_at.ensures.left c.leaves_at.ensures.right done.joint done.emptied.value done.ensures.merges done.above done.ensures.sums, c.requires.1))
          (g.S.NodeStore.slots c.release_leaf.new.self) c.release_leaf.ensures c.next-next.result (next_seen _ c.get_leaf-in-None.result.now c.get_leaf-in-None.ensures ∙ sym c.next-next.ensures);
    }

pub undo_merge_leaves_at-requires : goal.undo_merge_leaves_at-requires
undo_merge_leaves_at-requires g c = (
  g.S.NodeStore.slots c.args.store.now,
  rw c.in-Err-ascend_underflow.ensures.unchanged c.in_ok-above-in-None.ensures.merges,
  c.len-kept.ensures.value ∙ sym (ap (λ slot. length (leaf_pairs slot)) c.get_leaf.ensures),
)

pub returns-in-Ok-clause-trims : goal.returns-in-Ok-clause-trims
returns-in-Ok-clause-trims g c short =
    let done = c.in_ok-above-in-Some in
    climb.rotated_trims g.met.S.K.Ord.total short.0 c.leaf_sibling-slot.result.0 c.leaf_sibling-slot.result.1 c.leaf_sibling-slot.ensures c.leaves_at.result.0 c.leaves_at.result.1 c.leaves_at.ensures.left c.leaves_at.ensures.right done.joint c.in-Some.giver c.spare_pairs-count.result c.spare_pairs-count.ensures done.ensures.rotates done.above done.ensures.sums (g.S.NodeStore.slots c.ascend.new.store) c.in-Ok.top
    (c.in-Ok.ensures.rises (record { climbs = climb.rotated g.met.S.K.Ord.total short.0 c.leaf_sibling-slot.result.0 c.leaf_sibling-slot.result.1 c.leaf_sibling-slot.ensures c.leaves_at.result.0 c.leaves_at.result.1 c.leaves_at.ensures.left c.leaves_at.ensures.right done.joint c.in-Some.giver c.spare_pairs-count.result c.spare_pairs-count.ensures done.ensures.rotates done.above done.ensures.sums; had = short.1 }))

pub returns-in-Ok-ascend_underflow-clause-trims : goal.returns-in-Ok-ascend_underflow-clause-trims
returns-in-Ok-ascend_underflow-clause-trims g c short =
    let done = c.in_ok-above-in-None in
    climb.merged_trims g.met.S.K.Ord.total short.0 c.leaf_sibling-slot.result.0 c.leaf_sibling-slot.result.1 c.leaf_sibling-slot.ensures c.leaves_at.result.0 c.leaves_at.result.1 c.leaves_at.ensures.left c.leaves_at.ensures.right done.joint done.emptied.value done.ensures.merges done.above done.ensures.sums (g.S.NodeStore.slots c.ascend_underflow.new.store) c.in-Ok-ascend_underflow.top
    (c.in-Ok-ascend_underflow.ensures.rises (climb.merged g.met.S.K.Ord.total short.0 c.leaf_sibling-slot.result.0 c.leaf_sibling-slot.result.1 c.leaf_sibling-slot.ensures c.leaves_at.result.0 c.leaves_at.result.1 c.leaves_at.ensures.left c.leaves_at.ensures.right done.joint done.emptied.value done.ensures.merges done.above done.ensures.sums, short.1))
    (g.S.NodeStore.slots c.release_leaf.new.self) c.release_leaf.ensures c.next-next.result (next_seen _ c.get_leaf-in-None.result.now c.get_leaf-in-None.ensures ∙ sym c.next-next.ensures)
    (g.S.NodeStore.slots c.relink_next.new.store) c.relink_next.ensures

pub returns-in-Err-ascend_underflow-clause-unchanged : goal.returns-in-Err-ascend_underflow-clause-unchanged
returns-in-Err-ascend_underflow-clause-unchanged g c =
    let done = c.in_ok-above-in-None in
    c.undo_merge_leaves_at.ensures (g.S.NodeStore.slots c.args.store.now) (rw c.in-Err-ascend_underflow.ensures.unchanged done.ensures.merges)
    (c.len-kept.ensures.value ∙ sym (ap (λ slot. length (leaf_pairs slot)) c.get_leaf.ensures)) c.leaves_at.ensures.right
    (climb.link_so g.met.S.K.Ord.total c.requires.0 c.leaf_sibling-slot.result.0 c.leaf_sibling-slot.result.1 c.leaf_sibling-slot.ensures c.leaves_at.result.0 c.leaves_at.result.1 c.leaves_at.ensures.left c.leaves_at.ensures.right done.joint done.emptied.value done.ensures.merges done.above done.ensures.sums)
