-- The result of a visitor's descent.
use Rattle.std.specs.Prelude.{List, Option, Result, MatchResult}
use Rattle.bptree_arguments.specs.Visits.{VisitResult, returned, IsAllowedError}
use Rattle.bptree_arguments.specs.declared.visit.DescendError.{DescendError}

-- the result of a visit is allowed on the pairs; if the visit failed, the error is allowed
abbrev pub IsAllowedResult : {W P R : Type 0} → (W → List P → VisitResult R → Type 0) → W → List P → Result (Option R) DescendError → Type 0
IsAllowedResult outcomes visitor pairs done = MatchResult done (λ outcome. outcomes visitor pairs (returned outcome)) (IsAllowedError outcomes visitor pairs)
