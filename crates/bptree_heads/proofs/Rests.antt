-- Strings with the same head are in the order of the bytes behind it.
use Rattle.std.specs.Prelude.{◌≡◌, ℕ, zero, suc, ◌+◌, ◌-◌, ◌*◌, ◌^◌, ◌<◌, ◌≤◌, List, [], ◌∷◌, length, min, ⊤}
use Rattle.std.specs.declared.cmp.Ordering.TheVariants.{Less, Equal, Greater}
use Rattle.std.specs.Ordering.{nat_cmp, ordering_then}
use Rattle.std.specs.Cmp.{nat_cmp_is}
use Rattle.std.specs.Cmp.Lexicographic.{slice_cmp}
use Rattle.std.proofs.Common.{refl, sym, ap, ◌∙◌, arith}
use Rattle.std.proofs.Math.ListN.{drop, take}
use Rattle.std.proofs.lemmas.List.{length-drop, take_rest}
use Rattle.std.proofs.lemmas.Cmp.{ranked, by_ranked}
use Rattle.std.proofs.lemmas.Nat.{mul-le}
use Rattle.bptree_heads.specs.Heads.{head_in, head_bound, AreBytes, IsHeadOf, HaveSameHead, heads_decide, heads_decide_back}

-- both strings have n bytes or more, and the first n of them are the same
unfoldable pub AreAlike : ℕ → List ℕ → List ℕ → Type 0
AreAlike zero xs ys = ⊤
AreAlike (suc n) [] ys = ⊥
AreAlike (suc n) (x ∷ xs) [] = ⊥
AreAlike (suc n) (x ∷ xs) (y ∷ ys) = (x ≡ y) × AreAlike n xs ys

-- of two digits before equal numbers neither is below the other
never_below : (n x y : ℕ) (xs ys : List ℕ) → AreBytes n xs → x * 256 ^ n + head_in n xs ≡ y * 256 ^ n + head_in n ys → x < y → ⊥
never_below n x y xs ys are same below =
    let rest : head_in n xs < 256 ^ n = head_bound n xs are in
    let digit : (x + 1) * 256 ^ n ≤ y * 256 ^ n = mul-le (x + 1) (256 ^ n) y (256 ^ n) (omega (arith, below)) (omega (arith)) in
    grind (arith, rest, digit, same)

-- the bytes of equal heads are the same
alike_heads : (n : ℕ) (xs ys : List ℕ) → AreBytes n xs → AreBytes n ys → n ≤ length xs → n ≤ length ys → head_in n xs ≡ head_in n ys → AreAlike n xs ys
unfolding head_in AreBytes AreAlike
alike_heads zero xs ys first second many most same = tt
alike_heads (suc n) [] ys first second many most same = absurd (omega (arith, many))
alike_heads (suc n) (x ∷ xs) [] first second many most same = absurd (omega (arith, most))
alike_heads (suc n) (x ∷ xs) (y ∷ ys) first second many most same =
    by_ranked (x < y) (x ≡ y) (y < x) (nat_cmp x y) (ranked x y (nat_cmp x y) refl)
    (λ _ smaller. absurd (never_below n x y xs ys first.1 same smaller))
    (λ _ alike. (alike, alike_heads n xs ys first.1 second.1 (omega (arith, many)) (omega (arith, most)) (grind (arith, same, alike))))
    (λ _ greater. absurd (never_below n y x ys xs second.1 (sym same) greater))

-- strings with the same head, of eight bytes or more
pub alike_at_first : (xs ys : List ℕ) → HaveSameHead IsHeadOf xs ys → 8 ≤ length xs → 8 ≤ length ys → AreAlike 8 xs ys
unfolding IsHeadOf
alike_at_first xs ys (_, first, second) many most = alike_heads 8 xs ys first.0 second.0 many most (sym first.1 ∙ second.1)

-- the first n bytes decide nothing if they are the same
order_behind : (n : ℕ) (xs ys : List ℕ) → AreAlike n xs ys → slice_cmp nat_cmp xs ys ≡ slice_cmp nat_cmp (drop n xs) (drop n ys)
unfolding AreAlike
order_behind zero xs ys alike = refl
order_behind (suc n) [] ys alike = absurd alike
order_behind (suc n) (x ∷ xs) [] alike = absurd alike
order_behind (suc n) (x ∷ xs) (y ∷ ys) alike =
    by_ranked (x < y) (x ≡ y) (y < x) (nat_cmp x y) (ranked x y (nat_cmp x y) refl)
    (λ _ smaller. absurd (omega (arith, smaller, alike.0)))
    (λ equal _. ap (λ o. ordering_then o (slice_cmp nat_cmp xs ys)) equal ∙ order_behind n xs ys alike.1)
    (λ _ greater. absurd (omega (arith, greater, alike.0)))

fewer : (k n : ℕ) (xs ys : List ℕ) → k ≤ n → AreAlike n xs ys → AreAlike k xs ys
unfolding AreAlike
fewer zero n xs ys few alike = tt
fewer (suc k) zero xs ys few alike = absurd (omega (arith, few))
fewer (suc k) (suc n) [] ys few alike = alike
fewer (suc k) (suc n) (x ∷ xs) [] few alike = alike
fewer (suc k) (suc n) (x ∷ xs) (y ∷ ys) few alike = (alike.0, fewer k n xs ys (omega (arith, few)) alike.1)

more : (k n m : ℕ) (xs ys : List ℕ) → m ≡ k + n → AreAlike k xs ys → AreAlike n (drop k xs) (drop k ys) → AreAlike m xs ys
unfolding AreAlike
more zero n m xs ys is alike rest = fewer m n xs ys (omega (arith, is)) rest
more (suc k) n zero xs ys is alike rest = absurd (omega (arith, is))
more (suc k) n (suc m) [] ys is alike rest = absurd alike
more (suc k) n (suc m) (x ∷ xs) [] is alike rest = absurd alike
more (suc k) n (suc m) (x ∷ xs) (y ∷ ys) is alike rest = (alike.0, more k n m xs ys (omega (arith, is)) alike.1 rest)

one_longer : (x y : ℕ) → nat_cmp (suc x) (suc y) ≡ nat_cmp x y
one_longer x y =
    by_ranked (x < y) (x ≡ y) (y < x) (nat_cmp x y) (ranked x y (nat_cmp x y) refl)
    (λ is less. sym (is ∙ nat_cmp_is (suc x) (suc y) Less (omega (arith, less))))
    (λ is same. sym (is ∙ nat_cmp_is (suc x) (suc y) Equal (omega (arith, same))))
    (λ is more. sym (is ∙ nat_cmp_is (suc x) (suc y) Greater (omega (arith, more))))

-- all bytes of the shorter string are the same: the lengths decide
pub lengths_decide : (n : ℕ) (xs ys : List ℕ) → n ≡ min (length xs) (length ys) → AreAlike n xs ys → nat_cmp (length xs) (length ys) ≡ slice_cmp nat_cmp xs ys
unfolding AreAlike
lengths_decide n [] [] all alike = refl
lengths_decide n [] (y ∷ ys) all alike = sym (nat_cmp_is 0 (length (y ∷ ys)) Less (omega (arith)))
lengths_decide n (x ∷ xs) [] all alike = sym (nat_cmp_is (length (x ∷ xs)) 0 Greater (omega (arith)))
lengths_decide zero (x ∷ xs) (y ∷ ys) all alike = absurd (omega (arith, all))
lengths_decide (suc n) (x ∷ xs) (y ∷ ys) all alike =
    by_ranked (x < y) (x ≡ y) (y < x) (nat_cmp x y) (ranked x y (nat_cmp x y) refl)
    (λ _ smaller. absurd (omega (arith, smaller, alike.0)))
    (λ equal _. one_longer (length xs) (length ys) ∙ lengths_decide n xs ys (omega (arith, all)) alike.1 ∙ sym (ap (λ o. ordering_then o (slice_cmp nat_cmp xs ys)) equal))
    (λ _ greater. absurd (omega (arith, greater, alike.0)))

-- the words from one index on, in strings whose first n bytes are the same
module _ (n from : ℕ) (xs ys : List ℕ) (few : from ≤ n) (alike : AreAlike n xs ys) (word other : ℕ)
    (is_word : IsHeadOf (take (length xs - from) (drop from xs)) word) (is_other : IsHeadOf (take (length ys - from) (drop from ys)) other) where
  first : IsHeadOf (drop from xs) word
  first = rw (take_rest xs from) at is_word

  second : IsHeadOf (drop from ys) other
  second = rw (take_rest ys from) at is_other

  behind : slice_cmp nat_cmp xs ys ≡ slice_cmp nat_cmp (drop from xs) (drop from ys)
  behind = order_behind from xs ys (fewer from n xs ys few alike)

  pub words_decide : (word ≡ other → ⊥) → nat_cmp word other ≡ slice_cmp nat_cmp xs ys
  words_decide differ =
      by_ranked (word < other) (word ≡ other) (other < word) (nat_cmp word other) (ranked word other (nat_cmp word other) refl)
      (λ is below. is ∙ sym (behind ∙ heads_decide (drop from xs) (drop from ys) word other first second below))
      (λ _ same. absurd (differ same))
      (λ is above. is ∙ sym (behind ∙ heads_decide_back (drop from xs) (drop from ys) word other first second above))

  pub words_alike : from + 8 ≤ length xs → from + 8 ≤ length ys → word ≡ other → AreAlike (from + 8) xs ys
  words_alike many most same =
      more from 8 (from + 8) xs ys refl (fewer from n xs ys few alike)
      (alike_at_first (drop from xs) (drop from ys) (word, first, rw (sym same) at second) (rw (length-drop from xs) (omega (arith, many))) (rw (length-drop from ys) (omega (arith, most))))
