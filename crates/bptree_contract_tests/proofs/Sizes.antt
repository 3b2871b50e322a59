-- The result of a visitor that counts a group and has counted nothing yet.
use Rattle.std.proofs.Common.{◌≡◌, ℕ, ◌+◌, ◌-◌, ◌^◌, ◌<◌, ◌≤◌, min, Option, Some, None, refl, ap, ◌∙◌, arith}
use Rattle.bptree_arguments.specs.Visits.{VisitResult, returned, invalid_child}

abbrev reported : {R : Type 0} → Option R → VisitResult R → Option R
reported d (returned outcome) = outcome
reported d invalid_child = d

pub size_reported : (outcome : Option ℕ) (counted size n : ℕ) → returned outcome ≡ returned (Some (min (counted + size) (2 ^ 64 - 1))) → counted ≡ 0 → size ≡ n → n < 2 ^ 64 → outcome ≡ Some n
size_reported outcome counted size n e zero same fits =
    let value : min (counted + size) (2 ^ 64 - 1) ≡ n = omega (arith, zero, same, fits) in
    ap (reported None) e ∙ ap Some value
