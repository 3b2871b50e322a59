-- The division of a layer into nodes.
use Rattle.std.specs.Prelude.{◌≡◌, ℕ, ◌+◌, ◌-◌, ◌/◌, ◌<◌, ◌≤◌, nat_le, if◌then◌else◌}

-- how many of the remaining pairs or children the next node gets
abbrev pub first_of : ℕ → ℕ → ℕ → ℕ
first_of left capacity least = if nat_le left capacity then left else (if nat_le (capacity + least) left then capacity else left - left / 2)

-- the next node has room for `first`; if more than its capacity remain, both `first` and the rest are at least `least`
pub record IsLoadCut (left capacity least first : ℕ) : Type 0 where
  pub within : first ≤ left
  pub room : first ≤ capacity
  pub whole : left ≤ capacity → first ≡ left
  pub enough : capacity < left → least ≤ first
  pub rest : capacity < left → first + least ≤ left
