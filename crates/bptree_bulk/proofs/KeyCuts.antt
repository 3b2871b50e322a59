-- An ascending list that is cut at a key.
use Rattle.std.proofs.Common.{◌≡◌, ◌∙◌, ◌≤◌, ℕ, sym, ap, refl, Bool, true, false, not, ◌&&◌, Some, None, List, [], ◌∷◌, ◌++◌, length, take, drop, arith, append-nil, length-append}
use Rattle.std.specs.declared.cmp.Ordering.{Ordering}
use Rattle.std.specs.declared.cmp.Ordering.TheVariants.{Less}
use Rattle.std.specs.Cmp.{IsTotalOrder}
use Rattle.std.specs.List.{AllByRecursion}
use Rattle.std.specs.Map.{keys_of}
use Rattle.std.specs.Ordering.{is_lt}
use Rattle.std.proofs.lemmas.List.{length-take-le, take-append-drop}
use Rattle.std.proofs.lemmas.Map.Keys.{sorted_head, sorted_tail}
use mathlib.Core.Bool.{true≢false}
use Rattle.bptree_bulk.specs.Split.{PartsAt}
use Rattle.bptree_bulk.proofs.Segments.{every_passes}
use Rattle.bptree_keys.specs.Contents.{IsAscending}
use Rattle.bptree_keys.specs.Ranges.{between}
use Rattle.bptree_keys.proofs.Ascending.{all_pairs}
use Rattle.bptree_invariant.proofs.Between.{none_pass}
use Rattle.bptree_invariant.proofs.Ordered.{by_cases}

cut_same : {X : Type 0} (lower below upper above : List X) → length lower ≡ length below → lower ++ upper ≡ below ++ above → (lower ≡ below) × (upper ≡ above)
cut_same [] [] upper above long same = (refl, same)
cut_same [] (b ∷ below) upper above long same = absurd (omega (arith, long))
cut_same (x ∷ lower) [] upper above long same = absurd (omega (arith, long))
cut_same (x ∷ lower) (b ∷ below) upper above long same =
    let head : x ≡ b = cc in
    let tail : lower ++ upper ≡ below ++ above = cc in
    let rest = cut_same lower below upper above (omega (arith, long)) tail in
    (ap (λ l. x ∷ l) rest.0 ∙ ap (λ y. y ∷ below) head, rest.1)

module _ {K V : Type 0} {cmp : K → K → Ordering} (total : IsTotalOrder cmp) (k : K) where
  from_first : (p : K × V) (l : List (K × V)) → is_lt (cmp p.0 k) ≡ false → IsAscending cmp (p ∷ l) → AllByRecursion (λ (q : K × V). is_lt (cmp q.0 k) ≡ false) (p ∷ l)
  from_first p l is ascending = (
    is,
    all_pairs (λ key. cmp p.0 key ≡ Less) (λ key. is_lt (cmp key k) ≡ false)
        (λ key less. by_cases (cmp key k) (λ e. absurd (true≢false (sym (ap is_lt (total.trans p.0 key k less e)) ∙ is))) (λ e. ap is_lt e) (λ e. ap is_lt e))
        l (sorted_head cmp p.0 (keys_of l) ascending),
  )

  passes : (m : List (K × V)) → AllByRecursion (λ (q : K × V). is_lt (cmp q.0 k) ≡ false) m → AllByRecursion (λ (q : K × V). (not (is_lt (cmp q.0 k)) && true) ≡ true) m
  passes [] all = tt
  passes (q ∷ m) all = (rw all.0 refl, passes m all.1)

  cut_here : (p : K × V) (l : List (K × V)) (b : Bool) → is_lt (cmp p.0 k) ≡ b → IsAscending cmp (p ∷ l) → l ≡ between cmp l None (Some k) ++ between cmp l (Some k) None
      → p ∷ l ≡ between cmp (p ∷ l) None (Some k) ++ between cmp (p ∷ l) (Some k) None
  cut_here p l true is ascending rest = rw is (ap (λ m. p ∷ m) rest)
  cut_here p l false is ascending rest =
      let from = from_first p l is ascending in
      let none : between cmp (p ∷ l) None (Some k) ≡ [] = none_pass (λ (q : K × V). is_lt (cmp q.0 k)) (p ∷ l) from in
      let all : between cmp (p ∷ l) (Some k) None ≡ p ∷ l = every_passes (λ (q : K × V). not (is_lt (cmp q.0 k)) && true) (p ∷ l) (passes (p ∷ l) from) in
      sym (ap (λ m. m ++ between cmp (p ∷ l) (Some k) None) none ∙ all)

  -- an ascending list is its part below a key, and then the others
  cut_at_key : (l : List (K × V)) → IsAscending cmp l → l ≡ between cmp l None (Some k) ++ between cmp l (Some k) None
  cut_at_key [] ascending = refl
  cut_at_key (p ∷ l) ascending = cut_here p l (is_lt (cmp p.0 k)) refl ascending (cut_at_key l (sorted_tail cmp p.0 (keys_of l) ascending))

  module _ (l : List (K × V)) (ascending : IsAscending cmp l) where
    -- two parts of the list are these two if the first is as long as what is below the key
    pub parts_at : (lower upper : List (K × V)) → l ≡ lower ++ upper → length lower ≡ length (between cmp l None (Some k)) → PartsAt cmp k l lower upper
    parts_at lower upper parts long = cut_same lower (between cmp l None (Some k)) upper (between cmp l (Some k) None) long (sym parts ∙ cut_at_key l ascending)

    below_within : length (between cmp l None (Some k)) ≤ length l
    below_within = omega (arith, ap length (cut_at_key l ascending), length-append (between cmp l None (Some k)) (between cmp l (Some k) None))

    pub none_below : length (between cmp l None (Some k)) ≡ 0 → PartsAt cmp k l [] l
    none_below none = parts_at [] l refl (sym none)

    pub all_below : length l ≤ length (between cmp l None (Some k)) → PartsAt cmp k l l []
    all_below all = parts_at l [] (sym (append-nil l)) (omega (arith, all, below_within))

    pub some_below : (n : ℕ) → n ≡ length (between cmp l None (Some k)) → PartsAt cmp k l (take n l) (drop n l)
    some_below n is = parts_at (take n l) (drop n l) (sym (take-append-drop n l)) (length-take-le n l (omega (arith, is, below_within)) ∙ is)
