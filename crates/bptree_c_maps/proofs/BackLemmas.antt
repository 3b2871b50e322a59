-- The part of a list before an index, from its end on.
use Rattle.std.proofs.Common.{◌≡◌, ℕ, Bool, true, false, refl, ◌+◌, ◌-◌, ◌≤◌, List, ◌++◌, length, take, drop, reverse, sym, ap, ◌∙◌, arith}
use Rattle.bptree_c_maps.specs.Ends.{turned_pairs}
use Rattle.std.proofs.Math.Seq.{take-add, take-append_seam}
use Rattle.std.proofs.lemmas.List.{length-drop, length-reverse, length-take-le, reverse-append, take_all}

module _ {X : Type 0} where
  -- the last c of the first a + c members
  back_by : (l : List X) (a c : ℕ) → a + c ≤ length l → reverse (take c (drop a l)) ≡ take c (reverse (take (a + c) l))
  back_by l a c fits =
      let first = reverse (take c (drop a l)) in let rest = reverse (take a l) in
      let cut : reverse (take (a + c) l) ≡ first ++ rest = ap reverse (take-add a c l) ∙ reverse-append (take a l) (take c (drop a l)) in
      let inside : c ≤ length (drop a l) = omega (arith, length-drop a l, fits) in
      let long : length first ≡ c = length-reverse (take c (drop a l)) ∙ length-take-le c (drop a l) inside in
      sym (ap (take c) cut ∙ (ap (λ k. take k (first ++ rest)) (sym long) ∙ take-append_seam first rest))

  -- the last n of the first e members
  pub back_some : (l : List X) (e n : ℕ) → e ≤ length l → n ≤ e → reverse (take n (drop (e - n) l)) ≡ take n (reverse (take e l))
  back_some l e n fits less =
      let whole : (e - n) + n ≡ e = omega (arith, less) in
      back_by l (e - n) n (omega (arith, fits, whole)) ∙ ap (λ k. take n (reverse (take k l))) whole

  -- the last members of the first e, if n is at least e, are all e
  pub back_all : (l : List X) (e n : ℕ) → e ≤ length l → e ≤ n → reverse (take e (drop 0 l)) ≡ take n (reverse (take e l))
  back_all l e n fits more = sym (take_all n (reverse (take e l)) (omega (arith, length-reverse (take e l), length-take-le e l fits, more)))

  pub length-turned : (back : Bool) (l : List X) → length (turned_pairs back l) ≡ length l
  length-turned false l = refl
  length-turned true l = length-reverse l
