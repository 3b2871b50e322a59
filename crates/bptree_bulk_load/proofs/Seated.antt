-- Trees that are beside each other: their pairs ascend, so the keys that they start at are
-- separators between them.
use Rattle.std.proofs.Common.{◌≡◌, ℕ, false, List, [], ◌∷◌, ◌++◌, Option, Some, None}
use Rattle.std.specs.declared.cmp.Ordering.{Ordering}
use Rattle.std.specs.declared.cmp.Ordering.TheVariants.{Less}
use Rattle.std.specs.Ordering.{is_lt}
use Rattle.std.specs.Cmp.{IsTotalOrder}
use Rattle.std.specs.List.{AllByRecursion, AllZip}
use Rattle.bptree_keys.specs.Contents.{IsAscending}
use Rattle.bptree_keys.proofs.PieceLemmas.{AllByRecursion-left, AllByRecursion-right, AllByRecursion-weaker}
use Rattle.bptree_nodes.specs.Inner.{Inner}
use Rattle.bptree_nodes.specs.Leaf.{Leaf}
use Rattle.bptree_nodes.specs.Slot.{Slots}
use Rattle.bptree_invariant.specs.Order.{flat, AtLeast, Under, Within, Chain}
use Rattle.bptree_invariant.specs.Shape.{pairs_at, IsSummed, IsTree}
use Rattle.bptree_invariant.proofs.Frame.{Same}
use Rattle.bptree_invariant.proofs.NodePieces.{child_keys}
use Rattle.bptree_invariant.proofs.Ordered.{ascending_after}
use Rattle.bptree_propagation.specs.Change.{StartsAt}
use Rattle.bptree_propagation.proofs.LeafEdit.{all_both, below_start, from_start, start_between}
use Rattle.bptree_bulk_load.specs.Layer.{roots, firsts, summaries, IsSeated}
use Rattle.bptree_bulk_load.specs.declared.subtree.Subtree.{Subtree}

pub starts_before : {K V : Type 0} (cmp : K → K → Ordering) (s : K) (xs ys : List (K × V)) → StartsAt cmp s xs → StartsAt cmp s (xs ++ ys)
starts_before cmp s [] ys start = absurd start
starts_before cmp s (x ∷ xs) ys start = start

-- all pairs are between bounds that are absent
pub unbounded : {K V : Type 0} (cmp : K → K → Ordering) (ps : List (K × V)) → AllByRecursion (λ p. Within cmp None None p.0) ps
unbounded cmp [] = tt
unbounded cmp (p ∷ ps) = ((tt, tt), unbounded cmp ps)

module _ {K V A : Type 0} {cmp : K → K → Ordering} (total' : IsTotalOrder cmp) (is_summary : A → List K → Type 0) (slots : Slots (Inner K A) (Leaf K V)) (h : ℕ) where
  pub seated_chain : (tree : Subtree K A) (trees : List (Subtree K A)) (lo hi : Option K) → AllByRecursion (IsSeated cmp is_summary slots 16 h) (tree ∷ trees) → IsAscending cmp (flat (pairs_at slots h) (roots (tree ∷ trees)))
      → AllByRecursion (λ p. Within cmp lo hi p.0) (flat (pairs_at slots h) (roots (tree ∷ trees))) → Chain cmp (IsTree cmp slots 16 h) (firsts trees) (roots (tree ∷ trees)) lo hi
  seated_chain tree [] lo hi seated ascending inside = seated.0.lies_between lo hi (AllByRecursion-left _ (pairs_at slots h tree.root) [] inside)
  seated_chain tree (next ∷ trees) lo hi seated ascending inside =
      let own = pairs_at slots h tree.root in
      let rest = flat (pairs_at slots h) (roots (next ∷ trees)) in
      let start : StartsAt cmp next.first rest = starts_before cmp next.first (pairs_at slots h next.root) (flat (pairs_at slots h) (roots trees)) seated.1.0.first in
      let later = ascending_after total' own rest ascending in
      let own_inside = AllByRecursion-left (λ p. Within cmp lo hi p.0) own rest inside in
      let rest_inside = AllByRecursion-right (λ p. Within cmp lo hi p.0) own rest inside in (
        seated.0.lies_between lo (Some next.first) (all_both (λ p. AtLeast cmp lo p.0) (λ p. cmp p.0 next.first ≡ Less) own (AllByRecursion-weaker _ _ (λ p w. w.0) own own_inside) (below_start total' next.first own rest ascending start)),
        start_between total' lo hi next.first rest rest_inside start,
        seated_chain next trees (Some next.first) hi seated.1 later (all_both (λ p. is_lt (cmp p.0 next.first) ≡ false) (λ p. Under cmp hi p.0) rest (from_start total' next.first rest later start) (AllByRecursion-weaker _ _ (λ p w. w.1) rest rest_inside)),
      )

  pub seated_reported : (least : ℕ) (trees : List (Subtree K A)) → AllByRecursion (IsSeated cmp is_summary slots least h) trees → AllZip is_summary (summaries trees) (child_keys slots h (roots trees))
  seated_reported least [] seated = tt
  seated_reported least (tree ∷ trees) seated = (seated.0.reported, seated_reported least trees seated.1)

  pub seated_summed : (least : ℕ) (trees : List (Subtree K A)) → AllByRecursion (IsSeated cmp is_summary slots least h) trees → AllByRecursion (IsSummed slots is_summary h) (roots trees)
  seated_summed least [] seated = tt
  seated_summed least (tree ∷ trees) seated = (seated.0.summed, seated_summed least trees seated.1)

-- trees that stay as they were stay seated
pub seated_same : {K V A : Type 0} (cmp : K → K → Ordering) (is_summary : A → List K → Type 0) (old new : Slots (Inner K A) (Leaf K V)) (least h : ℕ) (trees : List (Subtree K A))
    → AllByRecursion (Same cmp is_summary old new h) (roots trees) → AllByRecursion (IsSeated cmp is_summary old least h) trees → AllByRecursion (IsSeated cmp is_summary new least h) trees
seated_same cmp is_summary old new least h [] same seated = tt
seated_same cmp is_summary old new least h (tree ∷ trees) same seated = (
  record {
    lies_between = λ lo hi inside. same.0.tree least lo hi (seated.0.lies_between lo hi (rw (← same.0.pairs) inside));
    first = rw same.0.pairs seated.0.first;
    reported = rw same.0.pairs seated.0.reported;
    summed = same.0.summed seated.0.summed;
  },
  seated_same cmp is_summary old new least h trees same.1 seated.1,
)
