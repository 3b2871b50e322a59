-- Lines of which at most the first `KEPT` bytes are kept. A line of that many bytes is no request,
-- whatever follows.
use Rattle.std.specs.Prelude.{ℕ, List, [], ◌∷◌, ◌++◌, ◌==◌, take, if◌then◌else◌}
use Rattle.bptree_commands.specs.declared.lines.TheConstants.{KEPT}

-- The kept bytes of the lines that a line feed ends, if the first line begins with `kept`.
abbrev pub clipped_after : List ℕ → List ℕ → List (List ℕ)
clipped_after kept [] = []
clipped_after kept (b ∷ bs) =
    if b == 10 then kept ∷ clipped_after [] bs else clipped_after (take KEPT (kept ++ b ∷ [])) bs

-- The kept bytes of the current line.
abbrev pub clipped_rest : List ℕ → List ℕ → List ℕ
clipped_rest kept [] = kept
clipped_rest kept (b ∷ bs) = if b == 10 then clipped_rest [] bs else clipped_rest (take KEPT (kept ++ b ∷ [])) bs
