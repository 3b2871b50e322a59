-- The results that are allowed for a visitor that counts levels.
use Rattle.std.specs.Prelude.{ℕ, ◌<◌, Some, None}
use Rattle.bptree_arguments.specs.Visits.{VisitResult, returned, invalid_child}

-- The result is a number from 1 on.
abbrev pub IsDepth : VisitResult ℕ → Type 0
IsDepth (returned (Some depth)) = 0 < depth
IsDepth (returned None) = ⊥
IsDepth invalid_child = ⊥
