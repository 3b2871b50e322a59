-- A list without its first or its last member.
use Rattle.std.proofs.Common.{◌≡◌, ◌-◌, ◌∙◌, ℕ, zero, suc, ◌≤◌, List, [], ◌∷◌, ◌++◌, length, take, drop, ap, sym, Bool, true, false, cond, None, Some, slice_get, arith, append-nil, refl}
use Rattle.std.specs.List.{remove}
use Rattle.std.proofs.lemmas.Option.{get_or_from_slice_get}
use Rattle.bptree_keys.proofs.Found.{parts_at}
use Rattle.bptree_invariant.proofs.ListReads.{read_below}
use Rattle.bptree_tree.specs.Changes.{PopsEnd}

none_behind : {X : Type 0} (xs : List X) (n : ℕ) → length xs ≤ n → drop n xs ≡ []
none_behind [] zero past = refl
none_behind [] (suc n) past = refl
none_behind (x ∷ xs) zero past = absurd (omega arith)
none_behind (x ∷ xs) (suc n) past = none_behind xs n (omega arith)

module _ {X : Type 0} (new : List X) (x : X) where
  pub first_taken : (l : List X) → slice_get l 0 ≡ Some x → new ≡ remove l 0 → l ≡ x ∷ new
  first_taken [] read is = cc
  first_taken (y ∷ l) read is = let same : y ≡ x = cc in ap (λ z. z ∷ l) same ∙ ap (λ rest. x ∷ rest) (sym is)

  pub last_taken : (l : List X) → slice_get l (length l - 1) ≡ Some x → new ≡ remove l (length l - 1) → l ≡ new ++ x ∷ []
  last_taken l read is =
      let i = length l - 1 in
      let within = read_below l i x read in
      let none : drop (suc i) l ≡ [] = none_behind l (suc i) (omega (arith, within)) in
      let rest : new ≡ take i l = is ∙ (ap (λ r. take i l ++ r) none ∙ append-nil (take i l)) in
      parts_at l i x within ∙ rw (get_or_from_slice_get l i x x read, none, rest) refl

  -- the list without its last member or its first one, by a flag
  pub end_taken : (is_last : Bool) (l : List X) → slice_get l (cond is_last (length l - 1) 0) ≡ Some x → new ≡ remove l (cond is_last (length l - 1) 0) → PopsEnd is_last l new (Some x)
  end_taken true l read is = last_taken l read is
  end_taken false l read is = first_taken l read is

pub none_taken : {X : Type 0} (is_last : Bool) (l new : List X) → l ≡ [] → new ≡ [] → PopsEnd is_last l new None
none_taken true l new before after = (before, after)
none_taken false l new before after = (before, after)
