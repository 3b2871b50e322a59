-- The summary of a list after one piece of it was replaced.
use Rattle.std.specs.Prelude.{◌<◌, ◌^◌, ◌++◌, List, length}
use Rattle.std.specs.declared.cmp.Ordering.{Ordering}
use Rattle.std.specs.List.Sorted.{IsStrictlySortedBy}

-- given the summary of a list, the old summary of a piece of it and that of the new piece, the
-- value is a summary of the list with the new piece instead of the old one
abbrev pub SumsUpReplaced : {A K : Type 0} → (A → List K → Type 0) → (K → K → Ordering) → A → A → A → A → Type 0
SumsUpReplaced {A} {K} is_summary cmp whole old new a =
    (before was now after : List K) → is_summary whole (before ++ (was ++ after)) → is_summary old was → is_summary new now
    → IsStrictlySortedBy cmp (before ++ (now ++ after)) → length (before ++ (now ++ after)) < 2 ^ 64 → is_summary a (before ++ (now ++ after))
