-- A list without the members that pass a test, if these are adjacent.
use Rattle.std.proofs.Common.{◌≡◌, ◌∙◌, ◌+◌, ◌-◌, ◌<◌, ◌≤◌, ◌&&◌, ℕ, inl, inr, Bool, true, false, not, cond, filter, refl, sym, ap, Option, List, [], ◌∷◌, ◌++◌, length, take, drop, arith, length-append, take-append-drop}
use Rattle.std.proofs.lemmas.Bool.Decides.{eqb_tells}
use Rattle.std.proofs.lemmas.List.{drop-drop, nil_from_length}
use Rattle.std.proofs.lemmas.List.Elements.{filter-append}
use Rattle.std.proofs.lemmas.List.Filters.{length-filter_both}
use Rattle.std.specs.declared.cmp.Ordering.{Ordering}
use Rattle.bptree_keys.specs.Ranges.{between, falls_short, part, stays_below}
use Rattle.bptree_tree.specs.RangeRemoval.{outside}
use Rattle.bptree_tree.proofs.RangeRemovalLemmas.{all_fail}

module _ {X : Type 0} (test : X → Bool) where
  abbrev fails : X → Bool
  fails x = not (test x)

  one_twice : (b : Bool) (x : X) (l : List X) → test x ≡ b → filter test (filter test l) ≡ filter test l → filter test (cond b (x ∷ filter test l) (filter test l)) ≡ cond b (x ∷ filter test l) (filter test l)
  one_twice true x l same rest = rw same (ap (λ m. x ∷ m) rest)
  one_twice false x l same rest = rest

  -- filtering twice is filtering once
  pub twice : (l : List X) → filter test (filter test l) ≡ filter test l
  twice [] = refl
  twice (x ∷ l) = one_twice (test x) x l refl (twice l)

  -- if all members pass, no member fails
  pub all_pass : (l : List X) → filter test l ≡ l → filter fails l ≡ []
  all_pass l all = nil_from_length (filter fails l) (omega (arith, length-filter_both test fails (λ _. refl) l, ap length all))

  -- if those in the middle pass and no other does, all others are left
  pub around_is : (a b c : List X) → filter test (a ++ (b ++ c)) ≡ b → filter fails (a ++ (b ++ c)) ≡ a ++ c
  around_is a b c is =
      let parted : filter test (a ++ (b ++ c)) ≡ filter test a ++ (filter test b ++ filter test c) = rw (filter-append test a (b ++ c), filter-append test b c) refl in
      let passes : filter test b ≡ b = ap (filter test) (sym is) ∙ twice (a ++ (b ++ c)) ∙ is in
      let lengths : length (filter test a) + (length (filter test b) + length (filter test c)) ≡ length b = omega (arith, length-append (filter test a) (filter test b ++ filter test c), length-append (filter test b) (filter test c), ap length parted, ap length is) in
      let before : filter test a ≡ [] = nil_from_length (filter test a) (omega (arith, lengths, ap length passes)) in
      let behind : filter test c ≡ [] = nil_from_length (filter test c) (omega (arith, lengths, ap length passes)) in
      rw (filter-append fails a (b ++ c), filter-append fails b c, all_fail test a before, all_pass b passes, all_fail test c behind) refl

  -- if the members between two indexes pass and no other does, all others are left
  pub outside_is : (m n : ℕ) (l : List X) → m ≤ n → filter test l ≡ part l m (n - m) → filter fails l ≡ take m l ++ drop n l
  outside_is m n l le is =
      let middle = part l m (n - m) in
      let end : drop (n - m) (drop m l) ≡ drop n l = drop-drop (n - m) m l ∙ ap (λ k. drop k l) (omega (arith, le)) in
      let parts : l ≡ take m l ++ (middle ++ drop n l) = sym (take-append-drop m l) ∙ ap (λ r. take m l ++ r) (sym (take-append-drop (n - m) (drop m l)) ∙ ap (λ r. middle ++ r) end) in
      ap (filter fails) parts ∙ around_is (take m l) middle (drop n l) (ap (filter test) (sym parts) ∙ is)

-- if the pairs between two keys are those between two indexes, those before and behind are left
pub outside_between : {K V : Type 0} (cmp : K → K → Ordering) (lo hi : Option K) (m n : ℕ) (l : List (K × V)) → m ≤ n → between cmp l lo hi ≡ part l m (n - m) → outside cmp l lo hi ≡ take m l ++ drop n l
outside_between cmp lo hi m n l le is = outside_is (λ pair. not (falls_short cmp lo pair.0) && stays_below cmp hi pair.0) m n l le is

-- the indexes of a part that has members differ
pub some_part : {X : Type 0} (m n : ℕ) (l : List X) → m ≤ n → (part l m (n - m) ≡ [] → ⊥) → m < n
some_part m n l le some = elim (eqb_tells m n) [
  | inl same ↦ (let none : n - m ≡ 0 = omega (arith, same.1) in absurd (some (ap (λ k. part l m k) none)))
  | inr other ↦ omega (arith, le, other.1)
]
