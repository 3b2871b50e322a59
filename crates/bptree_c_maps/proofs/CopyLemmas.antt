-- Pairs that are copied one by one.
use Rattle.std.proofs.Common.{◌≡◌, ℕ, zero, suc, ◌+◌, ◌<◌, ◌≤◌, List, [], ◌∷◌, ◌++◌, length, map, take, drop, slice_set, refl, ap, arith, add-one}
use Rattle.bptree_c_maps.specs.declared.pair.Pair.{Pair}
use Rattle.bptree_c_maps.specs.Pairs.{as_pair}

-- one pair more is copied
step_by : (all : List (ℕ × ℕ)) (room : List Pair) (i : ℕ) (p : ℕ × ℕ) (rest : List (ℕ × ℕ)) → i < length room → drop i all ≡ p ∷ rest
    → slice_set (map as_pair (take i all) ++ drop i room) i (as_pair p) ≡ map as_pair (take (suc i) all) ++ drop (suc i) room
step_by [] room zero p rest fits is = absurd cc
step_by [] room (suc i) p rest fits is = absurd cc
step_by (a ∷ all) [] i p rest fits is = absurd (omega arith)
step_by (a ∷ all) (b ∷ room) zero p rest fits is = cc
step_by (a ∷ all) (b ∷ room) (suc i) p rest fits is = let small : i < length room = omega arith in ap (λ l. as_pair a ∷ l) (step_by all room i p rest small is)

pub rest_by : (all : List (ℕ × ℕ)) (i : ℕ) (p : ℕ × ℕ) (rest : List (ℕ × ℕ)) → drop i all ≡ p ∷ rest → (rest ≡ drop (i + 1) all) × (i + 1 ≤ length all)
rest_by [] zero p rest is = absurd cc
rest_by [] (suc i) p rest is = absurd cc
rest_by (a ∷ all) zero p rest is = (cc, omega arith)
rest_by (a ∷ all) (suc i) p rest is = let more = rest_by all i p rest is in rw add-one ((rw add-one at more).0, omega (arith, more.1))

pub copied_more : (all : List (ℕ × ℕ)) (room out : List Pair) (i : ℕ) (p : ℕ × ℕ) (rest : List (ℕ × ℕ)) → out ≡ map as_pair (take i all) ++ drop i room → i < length room → drop i all ≡ p ∷ rest
    → slice_set out i (as_pair p) ≡ map as_pair (take (i + 1) all) ++ drop (i + 1) room
copied_more all room out i p rest so_far fits is = rw (so_far, add-one) (step_by all room i p rest fits is)

-- no pair is left to copy
pub all_copied : (all : List (ℕ × ℕ)) (n i : ℕ) → i ≤ length all → drop i all ≡ [] → i ≤ n → (i ≡ length (take n all)) × (take i all ≡ take n all)
all_copied [] zero zero h is fits = (refl, refl)
all_copied [] (suc n) zero h is fits = (refl, refl)
all_copied [] n (suc i) h is fits = absurd (omega arith)
all_copied (a ∷ all) n zero h is fits = absurd cc
all_copied (a ∷ all) zero (suc i) h is fits = absurd (omega arith)
all_copied (a ∷ all) (suc n) (suc i) h is fits =
    let small : i ≤ length all = omega arith in let less : i ≤ n = omega arith in
    let more = all_copied all n i small is less in (ap suc more.0, ap (λ l. a ∷ l) more.1)
