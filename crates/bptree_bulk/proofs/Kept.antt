-- The pairs on both sides of a gap.
use Rattle.std.proofs.Common.{◌≡◌, ◌∙◌, ◌+◌, ◌-◌, ◌<◌, ◌≤◌, ℕ, sym, ap, subst, List, [], ◌∷◌, ◌++◌, length, take, drop, arith, append_assoc, append-nil, length-append}
use Rattle.std.proofs.Math.Seq.{drop-append-add, take-append-add}
use Rattle.std.proofs.lemmas.List.{drop-append-le, drop-take, length-drop, length-take-le, take-append-drop, take-append-le}
use Rattle.std.proofs.lemmas.Map.Entries.{length-keys_of}
use Rattle.std.proofs.lemmas.Map.Keys.{sorted_head, sorted_tail}
use Rattle.std.specs.Cmp.{IsTotalOrder}
use Rattle.std.specs.List.Sorted.{IsStrictlySortedBy}
use Rattle.std.specs.Map.{keys_of}
use Rattle.std.specs.declared.cmp.Ordering.{Ordering}
use Rattle.std.specs.declared.cmp.Ordering.TheVariants.{Less}
use Rattle.bptree_arguments.specs.Sums.{SumsUpPieces}
use Rattle.bptree_propagation.specs.Change.{StartsAt}
use Rattle.bptree_bulk.proofs.Passed.{take_take}
use Rattle.bptree_bulk.proofs.Segments.{drop_more}
use Rattle.bptree_bulk.specs.Gap.{without_part}
use Rattle.bptree_keys.specs.Contents.{IsAscending}
use Rattle.bptree_keys.specs.Pieces.{flatten}
use Rattle.bptree_keys.specs.Ranges.{part}
use Rattle.bptree_keys.proofs.Ascending.{all_after, all_before, all_joined, ascending_cons}
use Rattle.bptree_invariant.proofs.NodePieces.{keys-append}
use Rattle.bptree_invariant.proofs.Ordered.{ascending_after}
use Rattle.bptree_invariant.proofs.Spot.{ascending_before}

module _ {X : Type 0} where
  -- a part of the first members is one of all
  pub part_first : (l : List X) (m from n : ℕ) → from + n ≤ m → part (take m l) from n ≡ part l from n
  part_first l m from n within =
      let some : m ≡ from + (m - from) = omega (arith, within) in
      let few : m - from ≡ n + (m - from - n) = omega (arith, within) in
      ap (λ k. part (take k l) from n) some ∙ (ap (take n) (drop-take from (m - from) l) ∙ (ap (λ k. take n (take k (drop from l))) few ∙ take_take n (m - from - n) (drop from l)))

  module _ (l : List X) (m n from count : ℕ) (short : m ≤ length l) where
    first_len : length (take m l) ≡ m
    first_len = length-take-le m l short

    -- a part of what stays is behind the gap
    pub kept_behind : m ≤ from → part (without_part m n l) from count ≡ part l (from - m + n) count
    kept_behind past =
        let sum : from ≡ length (take m l) + (from - m) = omega (arith, first_len, past) in
        let turned : n + (from - m) ≡ from - m + n = omega arith in
        ap (take count) (ap (λ k. drop k (without_part m n l)) sum ∙ (drop-append-add (take m l) (drop n l) (from - m) ∙ (drop_more n (from - m) l ∙ ap (λ k. drop k l) turned)))

    -- a part before the gap is a part of the whole list
    pub kept_before : from + count ≤ m → part (without_part m n l) from count ≡ part l from count
    kept_before within =
        let start = drop-append-le from (take m l) (drop n l) (omega (arith, first_len, within)) in
        ap (take count) start ∙ (take-append-le count (drop from (take m l)) (drop n l) (omega (arith, length-drop from (take m l), first_len, within)) ∙ part_first l m from count within)

    -- a part on both sides of the gap is two parts of the whole list
    pub kept_across : from ≤ m → m ≤ from + count → part (without_part m n l) from count ≡ part l from (m - from) ++ part l n (count - (m - from))
    kept_across starts ends =
        let start = drop-append-le from (take m l) (drop n l) (omega (arith, first_len, starts)) in
        let long : length (drop from (take m l)) ≡ m - from = length-drop from (take m l) ∙ ap (λ k. k - from) first_len in
        let sum : count ≡ length (drop from (take m l)) + (count - (m - from)) = omega (arith, long, starts, ends) in
        let some : m ≡ from + (m - from) = omega (arith, starts) in
        let here : drop from (take m l) ≡ part l from (m - from) = ap (λ k. drop from (take k l)) some ∙ drop-take from (m - from) l in
        ap (take count) start
        ∙ (ap (λ k. take k (drop from (take m l) ++ drop n l)) sum
        ∙ (take-append-add (drop from (take m l)) (drop n l) (count - (m - from)) ∙ ap (λ p. p ++ part l n (count - (m - from))) here))

module _ {K V : Type 0} {cmp : K → K → Ordering} (total : IsTotalOrder cmp) where
  -- what stays of an ascending list ascends
  pub ascending_around : (xs gone ys : List (K × V)) → IsAscending cmp (xs ++ (gone ++ ys)) → IsAscending cmp (xs ++ ys)
  ascending_around [] gone ys ascending = ascending_after total gone ys ascending
  ascending_around (p ∷ xs) gone ys ascending =
      let P : K → Type 0 = λ key. cmp p.0 key ≡ Less in
      let first = sorted_head cmp p.0 (keys_of (xs ++ (gone ++ ys))) ascending in
      ascending_cons cmp p.0 (keys_of (xs ++ ys))
      (all_joined P xs ys (all_before P xs (gone ++ ys) first) (all_after P gone ys (all_after P xs (gone ++ ys) first)))
      (ascending_around xs gone ys (sorted_tail cmp p.0 (keys_of (xs ++ (gone ++ ys))) ascending))

  -- two parts of an ascending list, one before the other, ascend
  pub parts_ascend : (l : List (K × V)) (a m b n : ℕ) → a + m ≤ b → IsAscending cmp l → IsAscending cmp (part l a m ++ part l b n)
  parts_ascend l a m b n order ascending =
      let p = part l a m in
      let q = part l b n in
      let rest = drop n (drop b l) in
      let gone = take (b - (a + m)) (drop (a + m) l) in
      let sum : a + m + (b - (a + m)) ≡ b = omega (arith, order) in
      let last : drop b l ≡ q ++ rest = sym (take-append-drop n (drop b l)) in
      let middle : drop (a + m) l ≡ gone ++ (q ++ rest) = sym (take-append-drop (b - (a + m)) (drop (a + m) l)) ∙ ap (λ r. gone ++ r) (drop_more (a + m) (b - (a + m)) l ∙ (ap (λ k. drop k l) sum ∙ last)) in
      let tail : drop a l ≡ p ++ (gone ++ (q ++ rest)) = sym (take-append-drop m (drop a l)) ∙ ap (λ r. p ++ r) (drop_more a m l ∙ middle) in
      let ascends = subst (IsAscending cmp) tail (ascending_after total (take a l) (drop a l) (subst (IsAscending cmp) (sym (take-append-drop a l)) ascending)) in
      ascending_before cmp (p ++ q) rest (subst (IsAscending cmp) (sym (append_assoc p q rest)) (ascending_around p gone (q ++ rest) ascends))

  -- a longer list begins with the same key
  pub starts_longer : (s : K) (p q : List (K × V)) → 0 < length p → StartsAt cmp s p → StartsAt cmp s (p ++ q)
  starts_longer s [] q some starts = absurd (omega (arith, some))
  starts_longer s (x ∷ p) q some starts = starts

-- a summary of the keys of two lists, one before the other
pub both_summed : {K V A : Type 0} (cmp : K → K → Ordering) (is_summary : A → List K → Type 0) (first second sum : A) (sums : List A) (p q : List (K × V)) → sums ≡ first ∷ second ∷ [] → SumsUpPieces is_summary cmp sums sum
    → is_summary first (keys_of p) → is_summary second (keys_of q) → 0 < length p → 0 < length q → length p + length q ≤ 64 → IsAscending cmp (p ++ q) → is_summary sum (keys_of (p ++ q))
both_summed cmp is_summary first second sum sums p q are sums_up one other some more few ascending =
    let pieces = keys_of p ∷ keys_of q ∷ [] in
    let joined : flatten pieces ≡ keys_of (p ++ q) = ap (λ r. keys_of p ++ r) (append-nil (keys_of q)) ∙ sym (keys-append p q) in
    let long = length-keys_of (p ++ q) ∙ length-append p q in
    subst (is_summary sum) joined
    (subst (λ s. SumsUpPieces is_summary cmp s sum) are sums_up pieces (record {
      nonempty = (omega (arith, length-keys_of p, some), (omega (arith, length-keys_of q, more), tt));
      ascending = subst (IsStrictlySortedBy cmp) (sym joined) ascending;
      fits = omega (arith, ap length joined, long, few);
    }) (one, (other, tt)))
