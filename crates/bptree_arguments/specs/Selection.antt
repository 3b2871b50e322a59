-- The index in a list of keys that a query selects, or `None`.
use Rattle.std.specs.Prelude.{ℕ, ◌+◌, ◌<◌, List, length, Option, Some, None, MatchOption, ⊤}
use Rattle.std.specs.declared.cmp.Ordering.{Ordering}
use Rattle.std.specs.List.{AllZip}
use Rattle.bptree_keys.specs.Pieces.{ArePieces, flatten, piece_at, start_of}

-- an index below the length, or `None`
abbrev pub IsIndexBelow : {X : Type 0} → List X → Option ℕ → Type 0
IsIndexBelow xs index = MatchOption index ⊤ (λ i. i < length xs)

-- an index in a piece as an index in the whole
abbrev pub moved_by : ℕ → Option ℕ → Option ℕ
moved_by n None = None
moved_by n (Some i) = Some (n + i)

-- The child in which a query continues. With no child, `None` is allowed for the query on the
-- whole. With a child and the query that continues there, each index that this query allows on the
-- piece is allowed on the whole, moved by the length of the pieces before it.
abbrev pub LeadsTo : {Q K : Type 0} → (Q → List K → Option ℕ → Type 0) → Q → List (List K) → Option (ℕ × Q) → Type 0
LeadsTo selects query pieces None = selects query (flatten pieces) None
LeadsTo selects query pieces (Some (i, next)) = (i < length pieces) × ((index : Option ℕ) → IsIndexBelow (piece_at pieces i) index → selects next (piece_at pieces i) index → selects query (flatten pieces) (moved_by (start_of pieces i) index))

-- `LeadsTo` for the children of a node, whatever pieces have these summaries
abbrev pub LeadsOver : {Q A K : Type 0} → (A → List K → Type 0) → (K → K → Ordering) → List A → (Q → List K → Option ℕ → Type 0) → Q → Option (ℕ × Q) → Type 0
LeadsOver {K = K} is_summary cmp arguments selects query outcome =
    (pieces : List (List K)) → ArePieces cmp pieces → AllZip is_summary arguments pieces → LeadsTo selects query pieces outcome
