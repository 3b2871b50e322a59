-- Summaries of the keys of a leaf and of the keys below an inner node, and the number of keys that
-- a summary determines.
use Rattle.std.specs.Prelude.{◌≡◌, ℕ, ◌<◌, List, length, Option, IfSome}
use Rattle.std.specs.declared.cmp.Ordering.{Ordering}
use Rattle.std.specs.List.{AllZip}
use Rattle.std.specs.List.Sorted.{IsStrictlySortedBy}
use Rattle.bptree_keys.specs.Pieces.{ArePieces, flatten}

module _ {A K : Type 0} (is_summary : A → List K → Type 0) (cmp : K → K → Ordering) where
  -- the value is a summary of the keys, if they ascend and there is at least one
  abbrev pub SumsUpKeys : List K → A → Type 0
  SumsUpKeys keys a = 0 < length keys → IsStrictlySortedBy cmp keys → is_summary a keys

  -- the value is a summary of all keys of the pieces that have these summaries, one for each piece
  abbrev pub SumsUpPieces : List A → A → Type 0
  SumsUpPieces arguments a = (pieces : List (List K)) → ArePieces cmp pieces → AllZip is_summary arguments pieces → is_summary a (flatten pieces)

-- the number, if there is one, is that of the keys of each list that is summed up
abbrev pub ReportsLength : {K : Type 0} → (List K → Type 0) → Option ℕ → Type 0
ReportsLength {K} sums_up reported = (keys : List K) → sums_up keys → IfSome reported (λ n. n ≡ length keys)
