-- What is left of a count after one more part of it is taken.
use Rattle.std.proofs.Common.{◌≡◌, ℕ, ◌+◌, ◌-◌, ◌<◌, ◌≤◌, List, [], length, ap, arith}
use Rattle.bptree_load_plan.specs.Cuts.{IsLoadCut}

pub no_length : {X : Type 0} {xs : List X} → xs ≡ [] → 0 < length xs → ⊥
no_length e some = omega (arith, ap length e)

pub some_are : {n m : ℕ} → n ≡ m → 0 < m → 0 < n
some_are e some = omega arith

-- the rest is what is left, less the part that was taken
pub less : (left all part rest : ℕ) → left ≡ all → rest + part ≡ all → left - part ≡ rest
less left all part rest e f = omega arith

-- more pairs than a leaf has room for are cut so that the leaf and the rest are both large enough
pub leaf_cut : {left first : ℕ} → IsLoadCut left 60 16 first → 64 < left → (16 ≤ first) × (first ≤ 64) × (0 < left - first) × (16 ≤ left - first)
leaf_cut cut more =
    let enough = cut.enough (omega arith) in
    let rest = cut.rest (omega arith) in
    (omega arith, omega arith, omega arith, omega arith)
