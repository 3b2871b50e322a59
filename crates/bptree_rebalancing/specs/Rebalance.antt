-- Rebalancing of two siblings of a tree that may have underflowed.
use Rattle.std.specs.Prelude.{◌≡◌, ℕ, ◌+◌, List, ◌++◌, Option, Some}
use Rattle.std.specs.declared.cmp.Ordering.{Ordering}
use Rattle.bptree_nodes.specs.Inner.{Inner}
use Rattle.bptree_nodes.specs.Leaf.{Leaf}
use Rattle.bptree_nodes.specs.Slot.{Slots}
use Rattle.bptree_keys.specs.declared.node_id.NodeId.{NodeId}
use Rattle.bptree_invariant.specs.Edit.{pairs_after, leaf_count_after, inner_count_after, SummedAfter, TreeAfter}
use Rattle.bptree_invariant.specs.Order.{Between}
use Rattle.bptree_invariant.specs.Outcome.{Outcome}
use Rattle.bptree_invariant.specs.Shape.{pairs_at, leaf_count, inner_count, stored, IsTree, IsSummed}

-- Two siblings, each of which may have underflowed, become one tree, or two with another separator.
-- Nothing else changes but the node above them, whose id is `number`.
pub record RebalancesPair {K V A : Type 0} (cmp : K → K → Ordering) (is_summary : A → List K → Type 0) (old new : Slots (Inner K A) (Leaf K V)) (h number : ℕ) (left : NodeId) (separator : K) (right : NodeId) (outcome : Outcome K) : Type 0 where
  pub tree : (lo hi : Option K) → IsTree cmp old 15 h left lo (Some separator) → Between cmp lo hi separator → IsTree cmp old 15 h right (Some separator) hi → TreeAfter cmp new h left 16 lo hi outcome
  pub pairs : pairs_after new h left outcome ≡ pairs_at old h left ++ pairs_at old h right
  pub leaves : (n : ℕ) → leaf_count_after new h left outcome n + stored (old.leaf n) ≡ leaf_count old h left n + leaf_count old h right n + stored (new.leaf n)
  pub inners : (n : ℕ) → (n ≡ number → ⊥) → inner_count_after new h left outcome n + stored (old.inner n) ≡ inner_count old h left n + inner_count old h right n + stored (new.inner n)
  pub above : inner_count_after new h left outcome number ≡ 0
  pub other_leaves : (n : ℕ) → leaf_count old h left n ≡ 0 → leaf_count old h right n ≡ 0 → new.leaf n ≡ old.leaf n
  pub other_inners : (n : ℕ) → (n ≡ number → ⊥) → inner_count old h left n ≡ 0 → inner_count old h right n ≡ 0 → new.inner n ≡ old.inner n
  pub summed : IsSummed old is_summary h left → IsSummed old is_summary h right → SummedAfter new h left is_summary outcome
