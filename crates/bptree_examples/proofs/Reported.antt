-- The result of a visitor that has completed.
use Rattle.std.proofs.Common.{Option}
use Rattle.bptree_arguments.specs.Visits.{VisitResult, returned, invalid_child}

-- The result, or a given one if the visitor named a child that does not exist.
abbrev pub reported : {R : Type 0} → Option R → VisitResult R → Option R
reported d (returned outcome) = outcome
reported d invalid_child = d
