-- Two sibling leaves are rebalanced: they rotate a pair or merge.
use Rattle.std.proofs.Common.{◌≡◌, ℕ, ◌+◌, ◌≤◌, inl, inr, cond, true, false, List, ◌++◌, length, refl, sym, ap, subst, ◌∙◌, arith, Option, Some, eqb, length-append}
use Rattle.std.specs.declared.cmp.Ordering.{Ordering}
use Rattle.std.specs.declared.cmp.Ordering.TheVariants.{Less}
use Rattle.std.specs.Ordering.{is_lt}
use Rattle.std.specs.Cmp.{IsTotalOrder}
use Rattle.std.specs.List.{AllByRecursion}
use Rattle.std.proofs.lemmas.Bool.{cases_eq, eq-eqb}
use Rattle.std.proofs.lemmas.Bool.Decides.{eqb_tells}
use Rattle.bptree_keys.specs.Contents.{IsAscending}
use Rattle.bptree_keys.proofs.PieceLemmas.{AllByRecursion-append, AllByRecursion-left, AllByRecursion-right, AllByRecursion-weaker}
use Rattle.bptree_nodes.specs.Inner.{Inner}
use Rattle.bptree_nodes.specs.Leaf.{Leaf}
use Rattle.bptree_nodes.specs.Slot.{Slot, Slots, Held, Present, IsPresent}
use Rattle.bptree_keys.specs.declared.node_id.LeafNodeId.{LeafNodeId}
use Rattle.bptree_keys.specs.declared.node_id.NodeId.TheVariants as kind
use Rattle.bptree_propagation.specs.Change.{StartsAt}
use Rattle.bptree_rebalancing.specs.Rebalance.{RebalancesPair}
use Rattle.bptree_invariant.specs.Order.{AtLeast, Under, Within, Between}
use Rattle.bptree_invariant.specs.Outcome.{Done, Split}
use Rattle.bptree_invariant.specs.Shape.{leaf_pairs, leaf_count, stored, IsTree}
use Rattle.bptree_rebalancing.specs.Transfer.{MovesPairs, MergesLeaf}
use Rattle.bptree_rebalancing.specs.declared.rotate_merge.Sibling.{Sibling}
use Rattle.bptree_propagation.proofs.LeafEdit.{all_both, below_start, from_start, start_between}
use Rattle.bptree_invariant.proofs.Ordered.{AtLeast-up, Under-less, ascending_joined, ascending_after}
use Rattle.bptree_invariant.proofs.Spot.{ascending_before}

module _ {K V A : Type 0} {cmp : K → K → Ordering} (total' : IsTotalOrder cmp) (is_summary : A → List K → Type 0) (now after : Slots (Inner K A) (Leaf K V)) (number : ℕ) (left right : LeafNodeId) (one other one' : Leaf K V) (s : K)
    (at_left : now.leaf left.0 ≡ Present one) (at_right : now.leaf right.0 ≡ Present other) (is_left : after.leaf left.0 ≡ Present one')
    (inners : (n : ℕ) → (n ≡ number → ⊥) → after.inner n ≡ now.inner n) (leaves : (n : ℕ) → (n ≡ left.0 → ⊥) → (n ≡ right.0 → ⊥) → after.leaf n ≡ now.leaf n) (apart : left.0 ≡ right.0 → ⊥) where
  -- all pairs of the two leaves, between the outer bounds
  record Both (lo hi : Option K) : Type 0 where
    pub within : AllByRecursion (λ p. Within cmp lo hi p.0) (one.pairs ++ other.pairs)
    pub ascending : IsAscending cmp (one.pairs ++ other.pairs)
    pub one_size : (15 ≤ length one.pairs) × (length one.pairs ≤ 64)
    pub other_size : (15 ≤ length other.pairs) × (length other.pairs ≤ 64)

  both : (lo hi : Option K) → IsTree cmp now 15 0 (kind.Leaf left) lo (Some s) → Between cmp lo hi s → IsTree cmp now 15 0 (kind.Leaf right) (Some s) hi → Both lo hi
  both lo hi l b r =
      let x : AllByRecursion (λ p. Within cmp lo (Some s) p.0) one.pairs × IsAscending cmp one.pairs × (15 ≤ length one.pairs) × (length one.pairs ≤ 64) = subst (λ (y : Slot (Leaf K V)). AllByRecursion (λ p. Within cmp lo (Some s) p.0) (leaf_pairs y) × IsAscending cmp (leaf_pairs y) × (15 ≤ length (leaf_pairs y)) × (length (leaf_pairs y) ≤ 64)) at_left (l.1, l.2, l.3, l.4) in
      let z : AllByRecursion (λ p. Within cmp (Some s) hi p.0) other.pairs × IsAscending cmp other.pairs × (15 ≤ length other.pairs) × (length other.pairs ≤ 64) = subst (λ (y : Slot (Leaf K V)). AllByRecursion (λ p. Within cmp (Some s) hi p.0) (leaf_pairs y) × IsAscending cmp (leaf_pairs y) × (15 ≤ length (leaf_pairs y)) × (length (leaf_pairs y) ≤ 64)) at_right (r.1, r.2, r.3, r.4) in
      record {
        within = AllByRecursion-append (λ p. Within cmp lo hi p.0) one.pairs other.pairs
            (AllByRecursion-weaker _ _ (λ p w. (w.0, Under-less total' hi p.0 s b.1 w.1)) one.pairs x.0) (AllByRecursion-weaker _ _ (λ p w. (AtLeast-up total' lo s p.0 b.0 w.0, w.1)) other.pairs z.0);
        ascending = ascending_joined total' one.pairs other.pairs s x.1 z.1 (AllByRecursion-weaker _ _ (λ p w. w.1) one.pairs x.0) (AllByRecursion-weaker _ _ (λ p w. w.0) other.pairs z.0);
        one_size = (x.2, x.3);
        other_size = (z.2, z.3);
      }

  left_stored : stored (now.leaf left.0) ≡ 1
  left_stored = ap stored at_left

  right_stored : stored (now.leaf right.0) ≡ 1
  right_stored = ap stored at_right

  inner_stored : (n : ℕ) → (n ≡ number → ⊥) → stored (after.inner n) ≡ stored (now.inner n)
  inner_stored n far = ap stored (inners n far)

  far_from : (x : LeafNodeId) (n : ℕ) → leaf_count now 0 (kind.Leaf x) n ≡ 0 → n ≡ x.0 → ⊥
  far_from x n none e = let q : eqb x.0 n ≡ true = eq-eqb x.0 n (sym e) in let z = rw q at none in omega arith

  -- the two leaves merge
  module _ (emptied : Leaf K V) (is_right : after.leaf right.0 ≡ Held) (merges : MergesLeaf one other one' emptied) (fits : length one.pairs + length other.pairs ≤ 64) where
    is_merged : leaf_pairs (after.leaf left.0) ≡ one.pairs ++ other.pairs
    is_merged = ap leaf_pairs is_left ∙ ap (λ (l : Leaf K V). l.pairs) merges.left_is

    stored_merged : (n : ℕ) → stored (now.leaf n) ≡ cond (eqb right.0 n) 1 0 + stored (after.leaf n)
    stored_merged n =
        elim (eqb_tells right.0 n) [
          | inl e ↦ (let z : stored (now.leaf n) ≡ 1 = ap (λ x. stored (now.leaf x)) (sym e.1) ∙ right_stored in let y : stored (after.leaf n) ≡ 0 = ap (λ x. stored (after.leaf x)) (sym e.1) ∙ ap stored is_right in rw e.0 (omega arith))
          | inr e ↦ (rw e.0 (elim (eqb_tells left.0 n) [
            | inl l ↦ (let z : stored (now.leaf n) ≡ 1 = ap (λ x. stored (now.leaf x)) (sym l.1) ∙ left_stored in let y : stored (after.leaf n) ≡ 1 = ap (λ x. stored (after.leaf x)) (sym l.1) ∙ ap stored is_left in omega arith)
            | inr l ↦ (let z = ap stored (leaves n (λ q. l.1 (sym q)) (λ q. e.1 (sym q))) in omega arith)
          ]))
        ]

    pub leaves_joined : RebalancesPair cmp is_summary now after 0 number (kind.Leaf left) s (kind.Leaf right) Done
    leaves_joined = record {
      tree = λ lo hi l b r.
          let x = both lo hi l b r in
          let z : IsPresent (after.leaf left.0) = rw is_left tt in
          (z, rw is_merged x.within, rw is_merged x.ascending, rw is_merged (omega (arith, x.one_size.0, x.other_size.0, length-append one.pairs other.pairs)), rw is_merged (omega (arith, fits, length-append one.pairs other.pairs)));
      pairs = is_merged ∙ rw (at_left, at_right) refl;
      leaves = λ n. omega (arith, stored_merged n);
      inners = λ n far. omega (arith, inner_stored n far);
      above = refl;
      other_leaves = λ n l r. leaves n (far_from left n l) (far_from right n r);
      other_inners = λ n far l r. inners n far;
      summed = λ l r. tt;
    }

  -- one leaf rotates pairs to the other
  module _ (giver : Sibling) (count : ℕ) (other' : Leaf K V) (u : K) (is_right : after.leaf right.0 ≡ Present other') (moves : MovesPairs giver count one other one' other') (starts : StartsAt cmp u other'.pairs)
      (least : (16 ≤ length one'.pairs) × (16 ≤ length other'.pairs)) (most : (length one'.pairs ≤ 64) × (length other'.pairs ≤ 64)) where
    stored_rotated : (n : ℕ) → stored (after.leaf n) ≡ stored (now.leaf n)
    stored_rotated n =
        elim (cases_eq n right.0) [
          | inl e ↦ (rw e (ap stored is_right ∙ sym right_stored))
          | inr r ↦ elim (cases_eq n left.0) [ inl e ↦ (rw e (ap stored is_left ∙ sym left_stored)) | inr l ↦ ap stored (leaves n l r) ]
        ]

    pub leaves_rotated : RebalancesPair cmp is_summary now after 0 number (kind.Leaf left) s (kind.Leaf right) (Split u (kind.Leaf right))
    leaves_rotated = record {
      tree = λ lo hi l b r.
          let x = both lo hi l b r in
          let all : AllByRecursion (λ p. Within cmp lo hi p.0) (one'.pairs ++ other'.pairs) = rw moves.pairs x.within in
          let up : IsAscending cmp (one'.pairs ++ other'.pairs) = rw moves.pairs x.ascending in
          let up_right = ascending_after total' one'.pairs other'.pairs up in
          let left_in = AllByRecursion-left (λ p. Within cmp lo hi p.0) one'.pairs other'.pairs all in
          let right_in = AllByRecursion-right (λ p. Within cmp lo hi p.0) one'.pairs other'.pairs all in
          rw (is_left, is_right) (
            (tt, all_both (λ p. AtLeast cmp lo p.0) (λ p. cmp p.0 u ≡ Less) one'.pairs (AllByRecursion-weaker _ _ (λ p w. w.0) one'.pairs left_in) (below_start total' u one'.pairs other'.pairs up starts), ascending_before cmp one'.pairs other'.pairs up, least.0, most.0),
            start_between total' lo hi u other'.pairs right_in starts,
            (tt, all_both (λ p. is_lt (cmp p.0 u) ≡ false) (λ p. Under cmp hi p.0) other'.pairs (from_start total' u other'.pairs up_right starts) (AllByRecursion-weaker _ _ (λ p w. w.1) other'.pairs right_in), up_right, least.1, most.1),
          );
      pairs = rw (is_left, is_right, at_left, at_right) moves.pairs;
      leaves = λ n. omega (arith, stored_rotated n);
      inners = λ n far. omega (arith, inner_stored n far);
      above = refl;
      other_leaves = λ n l r. leaves n (far_from left n l) (far_from right n r);
      other_inners = λ n far l r. inners n far;
      summed = λ l r. (tt, tt);
    }
