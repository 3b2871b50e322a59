-- The number of keys of one group.
use Rattle.std.specs.Prelude.{◌≡◌, ℕ, ◌+◌, ◌-◌, ◌^◌, min, List, Some}
use Rattle.std.specs.declared.cmp.Ordering.{Ordering}
use Rattle.bptree_arguments.specs.Groups.{group_size}
use Rattle.bptree_arguments.specs.Visits.{VisitResult, returned}

-- the state of a visitor that counts the keys of a group: the group, and the number counted so far
pub record GroupSize (G : Type 0) : Type 0 where
  pub group : G
  pub counted : ℕ

-- the only allowed result is the count so far plus the size of the group, or the greatest `usize`
-- if that is less
abbrev pub IsSizeResult : {G : Type 0} → (G → G → Ordering) → GroupSize G → List G → VisitResult ℕ → Type 0
IsSizeResult cmp size groups outcome = outcome ≡ returned (Some (min (size.counted + group_size cmp size.group groups) (2 ^ 64 - 1)))
