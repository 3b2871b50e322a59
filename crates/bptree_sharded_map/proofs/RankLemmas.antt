-- The pairs beside a key, by the number of smaller keys.
use Rattle.std.proofs.Common.{◌≡◌, suc, ◌+◌, ◌-◌, ◌<◌, ◌≤◌, Bool, true, false, List, [], ◌∷◌, ◌++◌, filter, length, None, slice_get, refl, sym, ap, cond, ◌∙◌, arith, length-append}
use Rattle.std.specs.declared.cmp.Ordering.{Ordering}
use Rattle.std.specs.declared.cmp.Ordering.TheVariants.{Less, Greater}
use Rattle.std.specs.Ordering.{is_lt, is_gt}
use Rattle.std.specs.Cmp.{IsTotalOrder}
use Rattle.std.specs.Map.{keys_of}
use Rattle.std.proofs.lemmas.List.{nil_from_length}
use Rattle.std.proofs.lemmas.List.Elements.{filter-append}
use Rattle.bptree_arguments.specs.CountLaws.{count_below}
use Rattle.bptree_keys.specs.Contents.{IsAscending, has, next, previous, pairs_below, pairs_above}
use Rattle.bptree_keys.specs.Indexes.{IsKeyGap, IsHit}
use Rattle.bptree_keys.proofs.Ascending.{gap_if_absent}
use Rattle.bptree_keys.proofs.Laws.{found_if_there, hit_if_there}
use Rattle.bptree_keys.proofs.Parted.{filter_all, filter_none, pairs_below_hit}
use Rattle.bptree_shard_routing.proofs.LengthLemmas.{get_past, get_early}

module _ {K V : Type 0} (cmp : K → K → Ordering) (k : K) where
  pub count_is : (l : List (K × V)) → count_below cmp k (keys_of l) ≡ length (pairs_below cmp l k)
  count_is [] = refl
  count_is (p ∷ l) =
      elim (is_lt (cmp p.0 k)) as (λ b. length (cond b (p.0 ∷ filter (λ x. is_lt (cmp x k)) (keys_of l)) (filter (λ x. is_lt (cmp x k)) (keys_of l))) ≡ length (cond b (p ∷ pairs_below cmp l k) (pairs_below cmp l k))) [
        | true ↦ ap suc (count_is l)
        | false ↦ count_is l
      ]

above_of_hit : {K V : Type 0} (cmp : K → K → Ordering) (l before : List (K × V)) (pair : K × V) (after : List (K × V)) (k : K) (hit : IsHit cmp l before pair after k) → pairs_above cmp l k ≡ after
above_of_hit cmp l before pair after k hit = rw (hit.parts, filter-append, filter_none cmp k is_gt Less before refl hit.smaller, hit.equal) (filter_all cmp k is_gt Greater after refl hit.greater)

module _ {K V : Type 0} (cmp : K → K → Ordering) (total : IsTotalOrder cmp) (l : List (K × V)) (ascending : IsAscending cmp l) (k : K) where
  -- the smaller pairs come first
  record BelowFirst : Type 0 where
    pub rest : List (K × V)
    pub parts : l ≡ pairs_below cmp l k ++ rest

  module _ (there : has cmp l k ≡ true) where
    abbrev before : List (K × V)
    before = (found_if_there cmp k l there).before

    abbrev pair : K × V
    pair = (found_if_there cmp k l there).pair

    abbrev after : List (K × V)
    after = (found_if_there cmp k l there).after

    hit : IsHit cmp l before pair after k
    hit = hit_if_there cmp total l ascending k there

    above_hit : pairs_above cmp l k ≡ after
    above_hit = above_of_hit cmp l before pair after k hit

    pub below_short : length (pairs_below cmp l k) + 1 ≤ length l
    below_short = omega (arith, ap length (pairs_below_hit cmp l before pair after k hit), ap length hit.parts, length-append before (pair ∷ after))

    pub next_hit : slice_get l (length (pairs_below cmp l k) + 1) ≡ next cmp l k
    next_hit =
        let far : length (pairs_below cmp l k) + 1 ≡ length before + suc 0 = omega (arith, ap length (pairs_below_hit cmp l before pair after k hit)) in
        ap (slice_get l) far ∙ ap (λ m. slice_get m (length before + suc 0)) hit.parts ∙ get_past before (pair ∷ after) (suc 0) ∙ sym (ap (λ m. slice_get m 0) above_hit)

    below_hit : BelowFirst
    below_hit = record { rest = pair ∷ after; parts = hit.parts ∙ ap (λ m. m ++ pair ∷ after) (sym (pairs_below_hit cmp l before pair after k hit)) }

  module _ (absent : has cmp l k ≡ false) where
    gap : IsKeyGap cmp l (pairs_below cmp l k) (pairs_above cmp l k) k
    gap = gap_if_absent cmp total l k ascending absent

    pub next_gap : slice_get l (length (pairs_below cmp l k)) ≡ next cmp l k
    next_gap =
        let far : length (pairs_below cmp l k) ≡ length (pairs_below cmp l k) + 0 = omega arith in
        ap (slice_get l) far ∙ ap (λ m. slice_get m (length (pairs_below cmp l k) + 0)) gap.parts ∙ get_past (pairs_below cmp l k) (pairs_above cmp l k) 0

    below_gap : BelowFirst
    below_gap = record { rest = pairs_above cmp l k; parts = gap.parts }

  below_by : (b : Bool) → has cmp l k ≡ b → BelowFirst
  below_by true there = below_hit there
  below_by false absent = below_gap absent

  pub previous_at : 0 < length (pairs_below cmp l k) → slice_get l (length (pairs_below cmp l k) - 1) ≡ previous cmp l k
  previous_at some =
      let first = below_by (has cmp l k) refl in
      let short : length (pairs_below cmp l k) - 1 < length (pairs_below cmp l k) = omega arith in
      ap (λ m. slice_get m (length (pairs_below cmp l k) - 1)) first.parts ∙ get_early (pairs_below cmp l k) first.rest (length (pairs_below cmp l k) - 1) short

  pub none_previous : length (pairs_below cmp l k) ≡ 0 → None ≡ previous cmp l k
  none_previous none = ap (λ m. slice_get m (length m - 1)) (sym (nil_from_length (pairs_below cmp l k) none))
