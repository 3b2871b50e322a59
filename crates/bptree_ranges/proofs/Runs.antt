-- The keys between two keys of an ascending list are a run of it.
use Rattle.std.proofs.Common.{◌≡◌, ℕ, ◌-◌, ◌<◌, List, [], length, take, drop, refl, sym, ap, subst, ◌∙◌, arith, Option, Some, None, Ok, slice_get}
use Rattle.std.specs.declared.cmp.Ordering.{Ordering}
use Rattle.std.specs.declared.cmp.Ordering.TheVariants.{Equal}
use Rattle.std.specs.Cmp.{IsTotalOrder}
use Rattle.std.specs.List.{slice_range}
use Rattle.std.specs.Map.{keys_of}
use Rattle.std.proofs.lemmas.List.{length-map}
use Rattle.std.proofs.lemmas.Slice.{between_to_end}
use Rattle.bptree_keys.specs.Contents.{IsAscending, pairs_below}
use Rattle.bptree_keys.specs.Ranges.{between}
use Rattle.bptree_ranges.specs.Summaries.{IsPartSummary}
use Rattle.bptree_ranges.proofs.Sums.{smaller_of, keys_of_take, keys_of_drop}
use Rattle.bptree_invariant.proofs.Between.{between_is, all_below}
use Rattle.bptree_invariant.proofs.ListReads.{read_some}
use Rattle.bptree_search.specs.ByArgument.{IsSelected}

module _ {K V Q : Type 0} (selects : Q → List K → Option ℕ → Type 0) (query : Q) (l : List (K × V)) where
  selected_none : IsSelected selects query l None → selects query (keys_of l) None
  selected_none (None, within, selected, e) = selected
  selected_none (Some i, within, selected, e) = let there = read_some l i within in let none = e in let some = there.1 in absurd (cc)

  selected_some : (p : K × V) → IsSelected selects query l (Some p) → (i : ℕ) × (i < length (keys_of l)) × selects query (keys_of l) (Some i) × (slice_get l i ≡ Some p)
  selected_some p (None, within, selected, e) = absurd (cc)
  selected_some p (Some i, within, selected, e) = (i, rw (length-map l (λ (p : K × V). p.0)) within, selected, sym e)

module _ {K V : Type 0} {cmp : K → K → Ordering} (total : IsTotalOrder cmp) (alike : (k : K) → cmp k k ≡ Equal) (l : List (K × V)) (ascending : IsAscending cmp l) where
  index_is : (i : ℕ) (p : K × V) → slice_get l i ≡ Some p → i ≡ length (pairs_below cmp l p.0)
  index_is i p read = smaller_of total p.0 l (Ok i) i refl ascending (rw read (alike p.0))

  range_keys : (i j : ℕ) (p q : K × V) → slice_get l i ≡ Some p → slice_get l j ≡ Some q → keys_of (between cmp l (Some p.0) (Some q.0)) ≡ slice_range (keys_of l) i j
  range_keys i j p q read read' =
      ap keys_of (between_is total l (Some p.0) (Some q.0) i j ascending (index_is i p read) (index_is j q read')) ∙ (keys_of_take (j - i) (drop i l) ∙ ap (take (j - i)) (keys_of_drop i l))

  tail_keys : (i : ℕ) (p : K × V) → slice_get l i ≡ Some p → keys_of (between cmp l (Some p.0) None) ≡ drop i (keys_of l)
  tail_keys i p read =
      let n = length l in
      ap keys_of (between_is total l (Some p.0) None i n ascending (index_is i p read) (sym (all_below cmp None l refl)) ∙ between_to_end l i n (omega arith)) ∙ keys_of_drop i l

  module _ {A Q : Type 0} (is_summary : A → List K → Type 0) (selects : Q → List K → Option ℕ → Type 0) (from to : Q) (a : A) where
    pub no_part : IsSelected selects from l None → is_summary a [] → IsPartSummary is_summary selects from to (keys_of l) a
    no_part none sums = (None, tt, selected_none selects from l none, sums)

    pub whole_part : (p q : K × V) → IsSelected selects from l (Some p) → IsSelected selects to l (Some q) → is_summary a (keys_of (between cmp l (Some p.0) (Some q.0))) → IsPartSummary is_summary selects from to (keys_of l) a
    whole_part p q one other sums =
        let at = selected_some selects from l p one in
        let end = selected_some selects to l q other in
        (Some at.0, at.1, at.2, (Some end.0, end.1, end.2, subst (is_summary a) (range_keys at.0 end.0 p q at.3 end.3) sums))

    pub tail_part : (p : K × V) → IsSelected selects from l (Some p) → IsSelected selects to l None → is_summary a (keys_of (between cmp l (Some p.0) None)) → IsPartSummary is_summary selects from to (keys_of l) a
    tail_part p one other sums =
        let at = selected_some selects from l p one in
        (Some at.0, at.1, at.2, (None, tt, selected_none selects to l other, subst (is_summary a) (tail_keys at.0 p at.3) sums))
