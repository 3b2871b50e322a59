-- The least number of pairs of a tree of some height.
use Rattle.std.proofs.Common.{◌≡◌, ℕ, zero, suc, ◌*◌, ◌^◌, ◌-◌, ◌<◌, ◌≤◌, List, length, subst, arith}
use Rattle.std.specs.declared.cmp.Ordering.{Ordering}
use Rattle.bptree_nodes.specs.Inner.{Inner}
use Rattle.bptree_nodes.specs.Leaf.{Leaf}
use Rattle.bptree_nodes.specs.Slot.{Slots}
use Rattle.bptree_keys.specs.declared.node_id.NodeId.{NodeId}
use Rattle.bptree_invariant.specs.Shape.{pairs_at, IsWellShaped}
use Rattle.bptree_invariant.proofs.Low.{root_long}

-- the least number is 32 with one level of inner nodes, and 17 times as many with each more
pub high_long : {K V A : Type 0} (cmp : K → K → Ordering) (is_summary : A → List K → Type 0) (slots : Slots (Inner K A) (Leaf K V)) (h : ℕ) (root : NodeId) → IsWellShaped cmp is_summary slots h root
    → 0 < h → 32 * 17 ^ (h - 1) ≤ length (pairs_at slots h root)
high_long cmp is_summary slots zero root w some = absurd (omega (arith, some))
high_long cmp is_summary slots (suc h) root w some =
    let e : h ≡ suc h - 1 = omega arith in
    subst (λ n. 32 * 17 ^ n ≤ length (pairs_at slots (suc h) root)) e (root_long cmp is_summary slots h root w)
