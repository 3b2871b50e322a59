-- The pairs from a key on, and the pairs up to a key, by the number of smaller keys.
use Rattle.std.proofs.Common.{◌≡◌, ◌+◌, ◌≤◌, ℕ, true, false, not, ◌&&◌, List, [], ◌∷◌, ◌++◌, Some, None, length, length-append, take, drop, refl, sym, ap, ◌∙◌, arith, append_assoc, append-nil}
use Rattle.std.specs.declared.cmp.Ordering.{Ordering}
use Rattle.std.specs.declared.cmp.Ordering.TheVariants.{Less, Greater}
use Rattle.std.specs.Cmp.{IsTotalOrder}
use Rattle.std.specs.Map.{keys_of}
use Rattle.std.specs.Ordering.{is_lt, is_gt}
use Rattle.std.proofs.Math.Seq.{take-append_seam, drop-append_seam}
use Rattle.std.proofs.lemmas.List.Elements.{filter-append}
use Rattle.bptree_arguments.specs.CountLaws.{count_below}
use Rattle.bptree_keys.specs.Contents.{IsAscending, has, pairs_above, pairs_below}
use Rattle.bptree_keys.specs.Indexes.{IsKeyGap, IsHit}
use Rattle.bptree_keys.specs.Ranges.{between}
use Rattle.bptree_keys.proofs.Ascending.{gap_if_absent}
use Rattle.bptree_keys.proofs.Laws.{found_if_there, hit_if_there}
use Rattle.bptree_keys.proofs.Parted.{filter_all, filter_none, pairs_below_hit}
use Rattle.bptree_probes.proofs.IndexLemmas.{count_is}
use Rattle.bptree_probes.specs.Parts.{up_to}

module _ {K V : Type 0} (cmp : K → K → Ordering) (l before after : List (K × V)) (k : K) where
  module _ (pair : K × V) (hit : IsHit cmp l before pair after k) where
    from_hit : between cmp l (Some k) None ≡ pair ∷ after
    from_hit =
        rw (hit.parts, filter-append, filter_none cmp k (λ o. not (is_lt o) && true) Less before refl hit.smaller, hit.equal)
        (ap (λ m. pair ∷ m) (filter_all cmp k (λ o. not (is_lt o) && true) Greater after refl hit.greater))

    up_to_hit : up_to cmp l k ≡ before ++ pair ∷ []
    up_to_hit =
        rw (hit.parts, filter-append, filter_all cmp k (λ o. not (is_gt o)) Less before refl hit.smaller, hit.equal)
        (ap (λ m. before ++ pair ∷ m) (filter_none cmp k (λ o. not (is_gt o)) Greater after refl hit.greater))

    drop_hit : drop (length before) l ≡ pair ∷ after
    drop_hit = ap (drop (length before)) hit.parts ∙ drop-append_seam before (pair ∷ after)

    take_hit : take (length before + 1) l ≡ before ++ pair ∷ []
    take_hit =
        let front = before ++ pair ∷ [] in
        let parts : l ≡ front ++ after = hit.parts ∙ sym (append_assoc before (pair ∷ []) after) in
        let long : length before + 1 ≡ length front = sym (length-append before (pair ∷ [])) in
        ap (λ n. take n l) long ∙ (ap (take (length front)) parts ∙ take-append_seam front after)

  module _ (gap : IsKeyGap cmp l before after k) where
    from_gap : between cmp l (Some k) None ≡ after
    from_gap =
        rw (gap.parts, filter-append, filter_none cmp k (λ o. not (is_lt o) && true) Less before refl gap.smaller)
        (filter_all cmp k (λ o. not (is_lt o) && true) Greater after refl gap.greater)

    up_to_gap : up_to cmp l k ≡ before
    up_to_gap =
        rw (gap.parts, filter-append, filter_all cmp k (λ o. not (is_gt o)) Less before refl gap.smaller, filter_none cmp k (λ o. not (is_gt o)) Greater after refl gap.greater)
        (append-nil before)

    drop_gap : drop (length before) l ≡ after
    drop_gap = ap (drop (length before)) gap.parts ∙ drop-append_seam before after

    take_gap : take (length before) l ≡ before
    take_gap = ap (take (length before)) gap.parts ∙ take-append_seam before after

module _ {K V : Type 0} {cmp : K → K → Ordering} (total : IsTotalOrder cmp) (l : List (K × V)) (ascending : IsAscending cmp l) (k : K) (i : ℕ) (is : i ≡ count_below cmp k (keys_of l)) where
  module _ (there : has cmp l k ≡ true) where
    abbrev before : List (K × V)
    before = (found_if_there cmp k l there).before

    abbrev pair : K × V
    pair = (found_if_there cmp k l there).pair

    abbrev after : List (K × V)
    after = (found_if_there cmp k l there).after

    hit : IsHit cmp l before pair after k
    hit = hit_if_there cmp total l ascending k there

    index : i ≡ length before
    index = is ∙ (count_is cmp k l ∙ ap length (pairs_below_hit cmp l before pair after k hit))

    pub from_there : drop i l ≡ between cmp l (Some k) None
    from_there = ap (λ n. drop n l) index ∙ (drop_hit cmp l before after k pair hit ∙ sym (from_hit cmp l before after k pair hit))

    pub up_to_there : take (i + 1) l ≡ up_to cmp l k
    up_to_there = ap (λ n. take (n + 1) l) index ∙ (take_hit cmp l before after k pair hit ∙ sym (up_to_hit cmp l before after k pair hit))

  module _ (absent : has cmp l k ≡ false) where
    gap : IsKeyGap cmp l (pairs_below cmp l k) (pairs_above cmp l k) k
    gap = gap_if_absent cmp total l k ascending absent

    spot : i ≡ length (pairs_below cmp l k)
    spot = is ∙ count_is cmp k l

    pub from_absent : drop i l ≡ between cmp l (Some k) None
    from_absent = ap (λ n. drop n l) spot ∙ (drop_gap cmp l (pairs_below cmp l k) (pairs_above cmp l k) k gap ∙ sym (from_gap cmp l (pairs_below cmp l k) (pairs_above cmp l k) k gap))

    pub up_to_absent : take i l ≡ up_to cmp l k
    up_to_absent = ap (λ n. take n l) spot ∙ (take_gap cmp l (pairs_below cmp l k) (pairs_above cmp l k) k gap ∙ sym (up_to_gap cmp l (pairs_below cmp l k) (pairs_above cmp l k) k gap))

    pub within_absent : i ≤ length l
    within_absent = omega (arith, spot, ap length gap.parts, length-append (pairs_below cmp l k) (pairs_above cmp l k))
