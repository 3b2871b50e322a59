-- The lines of an input.
use Rattle.std.specs.Prelude.{◌≡◌, ℕ, List, [], ◌∷◌, ◌++◌, ◌==◌, if◌then◌else◌}
use Rattle.std.specs.List.{slice_split}

-- The lines that a line feed ends, if the first line begins with `front`.
abbrev pub ended_after : List ℕ → List ℕ → List (List ℕ)
ended_after front [] = []
ended_after front (b ∷ bs) = if b == 10 then front ∷ ended_after [] bs else ended_after (front ++ b ∷ []) bs

-- The bytes that follow the last line feed.
abbrev pub rest_after : List ℕ → List ℕ → List ℕ
rest_after front [] = front
rest_after front (b ∷ bs) = if b == 10 then rest_after [] bs else rest_after (front ++ b ∷ []) bs

-- The lines that a line feed ends.
abbrev pub ended_lines : List ℕ → List (List ℕ)
ended_lines bs = ended_after [] bs

-- Last bytes without a line feed are a line, if there are any.
abbrev pub last_line : List ℕ → List (List ℕ)
last_line [] = []
last_line (b ∷ bs) = (b ∷ bs) ∷ []

-- The lines of a whole input.
abbrev pub lines_of : List ℕ → List (List ℕ)
lines_of input = ended_lines input ++ last_line (rest_after [] input)

-- The lines that a line feed ends, and what follows the last line feed, are the parts between line
-- feeds.
abbrev pub PartsAreLines : Type 0
PartsAreLines = (bytes : List ℕ) → ended_lines bytes ++ rest_after [] bytes ∷ [] ≡ slice_split (λ b. b == 10) bytes
