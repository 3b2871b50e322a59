-- The results of calls of a map of numbers for many keys, and the pairs that they leave.
use Rattle.std.specs.Prelude.{ℕ, List, if◌then◌else◌}
use Rattle.std.specs.List.{zip}
use Rattle.std.specs.Ordering.{nat_cmp}
use Rattle.bptree_bulk.specs.Weave.{put_all, put_pair}
use Rattle.bptree_keys.specs.Contents.{del, gather, has}
use Rattle.bptree_map.specs.Many.{returned_each}

-- the pairs after the last value of each key was put at it
abbrev pub put_columns : List (ℕ × ℕ) → List ℕ → List ℕ → List (ℕ × ℕ)
put_columns pairs keys values = put_all (put_pair nat_cmp) pairs (gather nat_cmp (zip keys values))

-- 1 for each key that was present when it was removed, one after another, and 0 for each other key
abbrev pub gone_marks : List (ℕ × ℕ) → List ℕ → List ℕ → List ℕ
gone_marks = returned_each (del nat_cmp) (λ pairs k. if has nat_cmp pairs k then 1 else 0)
