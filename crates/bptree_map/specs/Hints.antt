-- The hint of an iterator about the number of items that are left.
use Rattle.std.specs.Prelude.{◌≡◌, ℕ, Option, Some, IfSome}
use Rattle.std.specs.Iterator.{at_most, UpTo}
use Rattle.std.specs.Iterator.SizeHint.{IsWithinCount}

-- the hint is exactly n, and so it is within the bounds of any hint for n items
abbrev pub IsExactHint : ℕ → ℕ × Option ℕ → Type 0
IsExactHint n reported = IsWithinCount reported.0 (at_most n) × IfSome reported.1 (UpTo (at_most n)) × (reported ≡ (n, Some n))
