-- The facts of a tree after a pair was removed.
use Rattle.std.proofs.Common.{◌≡◌, ℕ, ◌-◌, ◌<◌, List, ap, arith, length}
use Rattle.std.specs.declared.cmp.Ordering.{Ordering}
use Rattle.std.specs.Map.{keys_of}
use Rattle.std.proofs.lemmas.List.Edits.{length-remove}
use Rattle.bptree_keys.specs.declared.node_id.NodeId.{NodeId}
use Rattle.bptree_nodes.specs.Inner.{Inner}
use Rattle.bptree_nodes.specs.Leaf.{Leaf}
use Rattle.bptree_nodes.specs.Slot.{Slots}
use Rattle.bptree_removal.specs.Removal.{IsTakenAt}
use Rattle.bptree_invariant.specs.Shape.{pairs_at, IsWellShaped}
use Rattle.bptree_invariant.proofs.ListReads.{read_below}

module _ {K V A : Type 0} {cmp : K → K → Ordering} {is_summary : A → List K → Type 0} {old new : Slots (Inner K A) (Leaf K V)} {h : ℕ} {root : NodeId} {index : ℕ} {pair : K × V} {top : NodeId} {top_height : ℕ} {a : A} (taken : IsTakenAt cmp is_summary old new h root index pair top top_height a) where
  pub index_within : index < length (pairs_at old h root)
  index_within = read_below (pairs_at old h root) index pair taken.was

  -- the tree is well shaped and counted, and its summary is right
  pub one_fewer : (len : ℕ) → len ≡ length (pairs_at old h root) → IsWellShaped cmp is_summary new top_height top × (len - 1 ≡ length (pairs_at new top_height top)) × is_summary a (keys_of (pairs_at new top_height top))
  one_fewer len counted =
      let fewer = length-remove (pairs_at old h root) index index_within in
      (taken.shape, omega (arith, counted, fewer, index_within, ap length taken.pairs), taken.reported)
