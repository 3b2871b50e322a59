-- The number of keys that are not greater than another key, found by steps.
use Rattle.std.proofs.Common.{◌≡◌, ℕ, ◌+◌, ◌-◌, ◌*◌, ◌<◌, ◌≤◌, zero, suc, List, [], ◌∷◌, length, get_or, refl, sym, ap, subst, ◌∙◌, arith, Ordering, true, false, Bool, cond}
use Rattle.std.proofs.lemmas.List.Sums.{sum_by-cons}
use Rattle.std.specs.List.{AllWithin, HoldsAt, count_by}
use Rattle.std.specs.List.Sorted.{IsNonDecreasingBy}
use Rattle.std.specs.Ordering.{ordering_index, is_le}
use Rattle.std.specs.declared.cmp.Ordering.TheVariants.{Less, Equal, Greater}
use Rattle.bptree_keys.specs.Searches.{CountsAmong}
use Rattle.bptree_keys.proofs.Steps.{is_Greater, not_Greater, at_x, all_after}
use mir.Val.{bool_byte}

is_at_most : (o : Ordering) → ordering_index o ≤ 1 → is_le o ≡ true
is_at_most Less h = refl
is_at_most Equal h = refl
is_at_most Greater h = absurd (omega arith)

-- if the first n members pass a test and the others fail it, n members pass it
count_parted : {X : Type 0} (p : X → Bool) (xs : List X) (n : ℕ) → n ≤ length xs → AllWithin (λ y. p y ≡ true) xs 0 n → AllWithin (λ y. p y ≡ false) xs n (length xs) → n ≡ count_by p xs
count_parted p [] n h a b = omega arith
count_parted p (x ∷ xs) zero h a b =
    let fails : p x ≡ false = b 0 x (omega arith) (omega arith) in
    let none = count_parted p xs 0 (omega arith) (λ k d i j. absurd (omega arith)) (λ k d i j. b (suc k) d (omega arith) (omega arith)) in
    none ∙ sym (sum_by-cons (λ y. cond (p y) 1 0) x xs ∙ rw fails (omega arith))
count_parted p (x ∷ xs) (suc n) h a b =
    let passes : p x ≡ true = a 0 x (omega arith) (omega arith) in
    let others = count_parted p xs n (omega arith) (λ k d i j. a (suc k) d (omega arith) (omega arith)) (λ k d i j. b (suc k) d (omega arith) (omega arith)) in
    ap suc others ∙ sym (sum_by-cons (λ y. cond (p y) 1 0) x xs ∙ rw passes (omega arith))

module _ {X : Type 0} (ord : X → Ordering) (xs : List X) where
  -- if the comparisons do not descend, no key up to one that is not greater is greater
  all_upto : (i : ℕ) → i < length xs → HoldsAt (λ y. ordering_index (ord y) ≤ 1) xs i → IsNonDecreasingBy (λ y. ordering_index (ord y)) xs → AllWithin (λ y. is_le (ord y) ≡ true) xs 0 (i + 1)
  all_upto i h n up k d a b = is_at_most _ (omega (arith, up k i d (omega arith) h, n d))

  -- if the last key is not greater, no key is
  pub count_all : (x : X) → 0 < length xs → x ≡ get_or xs (length xs - 1) x → is_le (ord x) ≡ true → IsNonDecreasingBy (λ y. ordering_index (ord y)) xs → length xs ≡ count_by (λ y. is_le (ord y)) xs
  count_all x h e p up =
      count_parted (λ y. is_le (ord y)) xs (length xs) (omega arith)
      (λ k d a b. all_upto (length xs - 1) (omega arith) (at_x ord xs (λ y. ordering_index (ord y) ≤ 1) (length xs - 1) x (omega arith) e (not_Greater _ p)) up k d a (omega arith))
      (λ k d a b. absurd (omega arith))

  -- if the last key is greater, the number is, by one more comparison, one of those from rest on or one of the first ones
  pub count_ends : (rest width bit : ℕ) (x y : X) (o : Ordering) (is_past : Bool) → rest < length xs → y ≡ get_or xs (length xs - 1) y → is_le (ord y) ≡ false → x ≡ get_or xs (rest - 1) x → o ≡ ord x → is_past ≡ is_le o → bit ≡ bool_byte is_past
      → length xs ≤ rest + width → rest ≤ width → CountsAmong ord xs (bit * rest) width
  count_ends rest width bit x y o true h ey f e p q b w l = subst (λ (m : ℕ). CountsAmong ord xs m width) {x = rest} {y = bit * rest} (omega (arith, ap (λ m. m * rest) b)) (record {
    low = λ _. at_x ord xs (λ z. ordering_index (ord z) ≤ 1) (rest - 1) x (omega arith) e (not_Greater _ (ap is_le (sym p) ∙ sym q));
    high = λ up k d i j. all_after ord xs (length xs - 1) y (omega arith) ey (is_Greater _ f) up k d (omega arith) j;
  })
  count_ends rest width bit x y o false h ey f e p q b w l = subst (λ (m : ℕ). CountsAmong ord xs m width) {x = 0} {y = bit * rest} (omega (arith, ap (λ m. m * rest) b)) (record {
    low = λ i. absurd (omega arith);
    high = λ up k d i j. all_after ord xs (rest - 1) x (omega arith) e (is_Greater _ (ap is_le (sym p) ∙ sym q)) up k d (omega arith) j;
  })

  -- if only one number is left, it is the number of keys that are not greater
  pub count_end : (base width : ℕ) → width ≤ 1 → 0 < width → base ≤ length xs → CountsAmong ord xs base width → IsNonDecreasingBy (λ y. ordering_index (ord y)) xs → base ≡ count_by (λ y. is_le (ord y)) xs
  count_end base width one some h n up =
      count_parted (λ y. is_le (ord y)) xs base h
      (λ k d a b. all_upto (base - 1) (omega arith) (n.low (omega arith)) up k d a (omega arith))
      (λ k d a b. above _ (n.high up k d (omega arith) b))
    where
      above : (o : Ordering) → o ≡ Greater → is_le o ≡ false
      above o e = ap is_le e

  -- the bounds of the number after a comparison, whose result moves base by a product
  pub count_then : (base next half width left bit : ℕ) (x : X) (o : Ordering) (is_past : Bool) → 0 < half → base + half ≤ length xs → x ≡ get_or xs (base + half - 1) x → o ≡ ord x → is_past ≡ is_le o
      → bit ≡ bool_byte is_past → next ≡ base + bit * half → width ≤ half + left → half ≤ left → CountsAmong ord xs base width → (next ≤ base + half) × CountsAmong ord xs next left
  count_then base next half width left bit x o true s h e p q b r w l n =
      let one : bit ≡ 1 = b in let same : base + half ≡ next = sym (r ∙ ap (λ (m : ℕ). base + m * half) one ∙ omega arith) in
      subst (λ (m : ℕ). (m ≤ base + half) × CountsAmong ord xs m left) same (
        omega arith,
        record {
          low = λ _. at_x ord xs (λ y. ordering_index (ord y) ≤ 1) (base + half - 1) x (omega arith) e (not_Greater _ (ap is_le (sym p) ∙ sym q));
          high = λ up k d a b. n.high up k d (omega arith) b;
        },
      )
  count_then base next half width left bit x o false s h e p q b r w l n =
      let none : bit ≡ 0 = b in let same : base ≡ next = sym (r ∙ ap (λ (m : ℕ). base + m * half) none ∙ omega arith) in
      subst (λ (m : ℕ). (m ≤ base + half) × CountsAmong ord xs m left) same (
        omega arith,
        record {
          low = n.low;
          high = λ up k d a b. all_after ord xs (base + half - 1) x (omega arith) e (is_Greater _ (ap is_le (sym p) ∙ sym q)) up k d (omega arith) b;
        },
      )
