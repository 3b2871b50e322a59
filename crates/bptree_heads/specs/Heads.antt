-- The heads of keys: the first bytes of a string as a number.
use Rattle.std.specs.Prelude.{◌≡◌, ℕ, zero, suc, ◌+◌, ◌*◌, ◌^◌, ◌<◌, ◌≤◌, List, [], ◌∷◌, ⊤}
use Rattle.std.specs.declared.cmp.Ordering.{Ordering}
use Rattle.std.specs.declared.cmp.Ordering.TheVariants.{Less, Greater}
use Rattle.std.specs.Ordering.{nat_cmp, ordering_then, ordering_reverse}
use Rattle.std.specs.Cmp.Lexicographic.{slice_cmp}
use Rattle.std.proofs.Common.{refl, sym, ap, ◌∙◌, arith}
use Rattle.std.proofs.lemmas.Cmp.{ranked, by_ranked, nat_list_cmp_total}
use Rattle.std.proofs.lemmas.Nat.{mul-le}
use Rattle.std.proofs.Math.Nat.{one-le-pow}

-- the first `n` bytes as the digits of a number, the first one the greatest; a shorter string
-- counts as if zeros followed it
unfoldable pub head_in : ℕ → List ℕ → ℕ
head_in zero bytes = 0
head_in (suc n) [] = 0
head_in (suc n) (byte ∷ bytes) = byte * 256 ^ n + head_in n bytes

-- each of the first `n` bytes is below 256
unfoldable pub AreBytes : ℕ → List ℕ → Type 0
AreBytes zero bytes = ⊤
AreBytes (suc n) [] = ⊤
AreBytes (suc n) (byte ∷ bytes) = (byte < 256) × AreBytes n bytes

-- a number is the first eight bytes of a string
unfoldable pub IsHeadOf : List ℕ → ℕ → Type 0
IsHeadOf bytes head = AreBytes 8 bytes × (head ≡ head_in 8 bytes)

-- a number is the head of both keys
abbrev pub HaveSameHead : {K : Type 0} → (K → ℕ → Type 0) → K → K → Type 0
HaveSameHead is_head x y = (head : ℕ) × is_head x head × is_head y head

-- a head of `n` bytes is below 256 to the power of `n`
pub head_bound : (n : ℕ) (bytes : List ℕ) → AreBytes n bytes → head_in n bytes < 256 ^ n
unfolding head_in AreBytes
head_bound zero bytes are = omega (arith)
head_bound (suc n) [] are = one-le-pow (suc n) 256 (omega (arith))
head_bound (suc n) (byte ∷ bytes) are =
    let rest : head_in n bytes < 256 ^ n = head_bound n bytes are.1 in
    let digit : (byte + 1) * 256 ^ n ≤ 256 * 256 ^ n = mul-le (byte + 1) (256 ^ n) 256 (256 ^ n) (omega (arith, are.0)) (omega (arith)) in
    grind (arith, rest, digit)

-- if the head of one string is below that of another, the string is below the other
pub heads_in_order : (n : ℕ) (xs ys : List ℕ) → AreBytes n xs → AreBytes n ys → head_in n xs < head_in n ys → slice_cmp nat_cmp xs ys ≡ Less
unfolding head_in AreBytes
heads_in_order zero xs ys first second less = absurd (grind (arith, less))
heads_in_order (suc n) [] [] first second less = absurd (grind (arith, less))
heads_in_order (suc n) [] (y ∷ ys) first second less = refl
heads_in_order (suc n) (x ∷ xs) [] first second less = absurd (grind (arith, less))
heads_in_order (suc n) (x ∷ xs) (y ∷ ys) first second less =
    by_ranked (x < y) (x ≡ y) (y < x) (nat_cmp x y) (ranked x y (nat_cmp x y) refl)
    (λ smaller _. ap (λ o. ordering_then o (slice_cmp nat_cmp xs ys)) smaller)
    (λ equal same. ap (λ o. ordering_then o (slice_cmp nat_cmp xs ys)) equal
    ∙ heads_in_order n xs ys first.1 second.1 (later same))
    (λ _ greater. absurd (never greater))
  where
    later : x ≡ y → head_in n xs < head_in n ys
    later same = grind (arith, less, same)

    never : y < x → ⊥
    never greater =
        let rest : head_in n ys < 256 ^ n = head_bound n ys second.1 in
        let digit : (y + 1) * 256 ^ n ≤ x * 256 ^ n = mul-le (y + 1) (256 ^ n) x (256 ^ n) (omega (arith, greater)) (omega (arith)) in
        grind (arith, rest, digit, less)

-- if the head of one string is below that of another, the string is below the other, by the
-- relation `IsHeadOf`
pub heads_decide : (xs ys : List ℕ) (h k : ℕ) → IsHeadOf xs h → IsHeadOf ys k → h < k → slice_cmp nat_cmp xs ys ≡ Less
unfolding IsHeadOf
heads_decide xs ys h k first second less = heads_in_order 8 xs ys first.0 second.0 (rw (sym first.1, sym second.1) less)

-- if the head of one string is above that of another, the string is above the other
pub heads_decide_back : (xs ys : List ℕ) (h k : ℕ) → IsHeadOf xs h → IsHeadOf ys k → k < h → slice_cmp nat_cmp xs ys ≡ Greater
heads_decide_back xs ys h k first second more = nat_list_cmp_total.antisymm xs ys ∙ ap ordering_reverse (heads_decide ys xs k h second first more)

-- an order that the first parts of two pairs determine is that of the pairs
pub head_of_first : {o : Ordering} (p : Ordering) → o ≡ Less → ordering_then o p ≡ Less
head_of_first {o} p first = rw first refl
