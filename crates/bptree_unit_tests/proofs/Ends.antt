-- Two adjacent lists, of which one gives an element to the other.
use Rattle.std.proofs.Common.{◌≡◌, ℕ, ◌+◌, zero, suc, List, [], ◌∷◌, ◌++◌, length, take, drop, refl, sym, ap, ◌∙◌, arith, length-append, append_assoc}
use Rattle.std.proofs.Math.Seq.{drop-append_seam}

module _ {X : Type 0} where
  -- Two prefixes of one list that have the same length are equal, and so are the rests behind them.
  pub same_parts : (xs ys us vs : List X) → length xs ≡ length us → xs ++ ys ≡ us ++ vs → (xs ≡ us) × (ys ≡ vs)
  same_parts [] ys [] vs n e = (refl, e)
  same_parts [] ys (u ∷ us) vs n e = absurd (omega (arith, n))
  same_parts (x ∷ xs) ys [] vs n e = absurd (omega (arith, n))
  same_parts (x ∷ xs) ys (u ∷ us) vs n e =
      let tails : xs ++ ys ≡ us ++ vs = cc in
      let heads : x ≡ u = cc in
      let rest = same_parts xs ys us vs (omega (arith, n)) tails in
      (rw (heads, rest.0) refl, rest.1)

  -- The last element of the left list becomes the first of the right one.
  pub last_moves : (front left right now : List X) (x : X) → left ++ right ≡ (front ++ x ∷ []) ++ now → length right ≡ length now + 1 → (left ≡ front) × (right ≡ x ∷ now)
  last_moves front left right now x e n =
      let long : length left ≡ length front = omega (arith, n, ap length e, length-append left right, length-append (front ++ x ∷ []) now, length-append front (x ∷ [])) in
      same_parts left right front (x ∷ now) long (e ∙ append_assoc front (x ∷ []) now)

  -- The first element of the right list becomes the last of the left one.
  pub first_moves : (left right now whole : List X) → left ++ right ≡ now ++ whole → length left ≡ length now + 1 → (left ≡ now ++ take 1 whole) × (right ≡ drop 1 whole)
  first_moves left right now [] e n = absurd (omega (arith, n, ap length e, length-append left right, length-append now []))
  first_moves left right now (x ∷ rest) e n = same_parts left right (now ++ x ∷ []) rest (omega (arith, n, length-append now (x ∷ []))) (e ∙ sym (append_assoc now (x ∷ []) rest))

  -- The last element of the left list moves between the lists, and the element that was between
  -- them becomes the first of the right list.
  pub last_turns : (front left right now : List X) (x y z : X) → left ++ z ∷ right ≡ (front ++ x ∷ []) ++ y ∷ now → length right ≡ length now + 1 → (left ≡ front) × (z ≡ x) × (right ≡ y ∷ now)
  last_turns front left right now x y z e n =
      let long : length left ≡ length front = omega (arith, n, ap length e, length-append left (z ∷ right), length-append (front ++ x ∷ []) (y ∷ now), length-append front (x ∷ [])) in
      let same = same_parts left (z ∷ right) front (x ∷ y ∷ now) long (e ∙ append_assoc front (x ∷ []) (y ∷ now)) in
      let tails : ◌≡◌ {A = List X} (z ∷ right) (x ∷ y ∷ now) = same.1 in
      (same.0, cc, cc)

  -- The first element of the right list moves between the lists, and the element that was between
  -- them becomes the last of the left list.
  pub first_turns : (left right now whole : List X) (y z : X) → left ++ z ∷ right ≡ now ++ y ∷ whole → length left ≡ length now + 1 → (left ≡ now ++ y ∷ []) × (whole ≡ z ∷ right)
  first_turns left right now whole y z e n =
      let same = same_parts left (z ∷ right) (now ++ y ∷ []) whole (omega (arith, n, length-append now (y ∷ []))) (e ∙ sym (append_assoc now (y ∷ []) whole)) in
      (same.0, sym same.1)

  -- An element that was appended is the last one.
  pub last_back : (was now : List X) (x y : X) → was ++ x ∷ [] ≡ now ++ y ∷ [] → (now ≡ was) × (y ≡ x)
  last_back was now x y e =
      let long : length now ≡ length was = omega (arith, ap length e, length-append was (x ∷ []), length-append now (y ∷ [])) in
      let same = same_parts now (y ∷ []) was (x ∷ []) long (sym e) in
      let tails : ◌≡◌ {A = List X} (y ∷ []) (x ∷ []) = same.1 in
      (same.0, cc)

  -- Dropping the front and the element behind it leaves the rest.
  pub drop_past_between : (xs ys : List X) (x : X) (n : ℕ) → n ≡ length xs + 1 → drop n (xs ++ x ∷ ys) ≡ ys
  drop_past_between [] ys x zero e = absurd (omega (arith, e))
  drop_past_between [] ys x (suc n) e = let none : n ≡ 0 = omega (arith, e) in rw none refl
  drop_past_between (y ∷ xs) ys x zero e = absurd (omega (arith, e))
  drop_past_between (y ∷ xs) ys x (suc n) e = drop_past_between xs ys x n (omega (arith, e))

  pub drop_past : (xs ys : List X) (n : ℕ) → n ≡ length xs → drop n (xs ++ ys) ≡ ys
  drop_past xs ys n e = rw e (drop-append_seam xs ys)

pub ruleset handed_over = (drop_past_between, drop_past)
