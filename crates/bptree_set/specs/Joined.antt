-- Two lists whose items are joined, and the hints about the number of items that are left.
use Rattle.std.specs.Prelude.{◌≡◌, ℕ, ◌≤◌, List, Option, IfSome, length}
use Rattle.std.specs.Borrow.{Bor}
use Rattle.std.specs.Iterator.{at_most, item_count, MakesProgress, UpTo}
use Rattle.std.specs.Iterator.SizeHint.{IsWithinCount}

module _ {K : Type 0} where
  -- neither list is longer than it was
  abbrev pub AreNoLonger : List K × List K → List K × List K → Type 0
  AreNoLonger old new = (length new.0 ≤ length old.0) × (length new.1 ≤ length old.1)

  -- fewer items of the joined list are left after one is yielded, and none of them after the end
  abbrev pub JoinGoesOn : (List K × List K → List K) → List K × List K → Option (Bor K) → List K × List K → Type 0
  JoinGoesOn joined old r new = MakesProgress (λ _. Unit {0}) (item_count joined) old r new

  -- the lists have these lengths
  abbrev pub HaveLengths : ℕ → ℕ → List K × List K → Type 0
  HaveLengths first second both = (length both.0 ≡ first) × (length both.1 ≡ second)

-- the hint bounds n items from both sides
abbrev pub IsBoundedHint : ℕ → ℕ × Option ℕ → Type 0
IsBoundedHint n reported = IsWithinCount reported.0 (at_most n) × IfSome reported.1 (UpTo (at_most n))

-- the hint bounds the length of the joined list of any two lists with these lengths
abbrev pub BoundsJoined : {K : Type 0} → (List K × List K → List K) → ℕ → ℕ → ℕ × Option ℕ → Type 0
BoundsJoined joined first second reported = (both : _) → HaveLengths first second both → IsBoundedHint (length (joined both)) reported

-- the hint has a property for any two lists with these lengths
abbrev pub ReportsOf : {K : Type 0} → (List K × List K → ℕ × Option ℕ → Type 0) → ℕ → ℕ → ℕ × Option ℕ → Type 0
ReportsOf reports first second reported = (both : _) → HaveLengths first second both → reports both reported
