-- The keys below the children of a node: one list for each child, together one ascending list.
use Rattle.std.specs.Prelude.{ℕ, ◌<◌, ◌^◌, List, [], ◌∷◌, ◌++◌, length, take, slice_index_or}
use Rattle.std.specs.declared.cmp.Ordering.{Ordering}
use Rattle.std.specs.List.{AllByRecursion}
use Rattle.std.specs.List.Sorted.{IsStrictlySortedBy}

module _ {X : Type 0} where
  -- the lists, one after another
  abbrev pub flatten : List (List X) → List X
  flatten [] = []
  flatten (p ∷ ps) = p ++ flatten ps

  -- the piece at index i, or the empty list past the end
  abbrev pub piece_at : List (List X) → ℕ → List X
  piece_at pieces i = slice_index_or pieces i []

  -- how many elements are before the piece at index i
  abbrev pub start_of : List (List X) → ℕ → ℕ
  start_of pieces i = length (flatten (take i pieces))

  abbrev pub AllNonEmpty : List (List X) → Type 0
  AllNonEmpty pieces = AllByRecursion (λ p. 0 < length p) pieces

-- non-empty consecutive parts of one strictly ascending list, whose length fits a `usize`
pub record ArePieces {K : Type 0} (cmp : K → K → Ordering) (pieces : List (List K)) : Type 0 where
  pub nonempty : AllNonEmpty pieces
  pub ascending : IsStrictlySortedBy cmp (flatten pieces)
  pub fits : length (flatten pieces) < 2 ^ 64

-- laws of the pieces when a node changes
module _ {K : Type 0} (cmp : K → K → Ordering) where
  -- some pieces are replaced by others, and the whole is ascending and its length fits a `usize`
  abbrev pub PiecesReplaced : Type 0
  PiecesReplaced = (front old new back : List (List K)) → ArePieces cmp (front ++ (old ++ back)) → AllNonEmpty new → IsStrictlySortedBy cmp (flatten (front ++ (new ++ back))) → length (flatten (front ++ (new ++ back))) < 2 ^ 64 → ArePieces cmp (front ++ (new ++ back))

  -- one piece is split in two
  abbrev pub PieceSplits : Type 0
  PieceSplits = (front : List (List K)) (p q : List K) (back : List (List K)) → 0 < length p → 0 < length q → ArePieces cmp (front ++ (p ++ q) ∷ back) → ArePieces cmp (front ++ p ∷ q ∷ back)

  -- two neighbouring pieces are joined
  abbrev pub PiecesJoin : Type 0
  PiecesJoin = (front : List (List K)) (p q : List K) (back : List (List K)) → ArePieces cmp (front ++ p ∷ q ∷ back) → ArePieces cmp (front ++ (p ++ q) ∷ back)

  -- the last part of a piece moves to the next piece, or the first part of a piece moves to the previous piece
  abbrev pub LastPartMoves : Type 0
  LastPartMoves = (front : List (List K)) (p part q : List K) (back : List (List K)) → 0 < length p → ArePieces cmp (front ++ (p ++ part) ∷ q ∷ back) → ArePieces cmp (front ++ p ∷ (part ++ q) ∷ back)

  abbrev pub FirstPartMoves : Type 0
  FirstPartMoves = (front : List (List K)) (p part q : List K) (back : List (List K)) → 0 < length q → ArePieces cmp (front ++ p ∷ (part ++ q) ∷ back) → ArePieces cmp (front ++ (p ++ part) ∷ q ∷ back)

  -- the pieces of two nodes together are pieces of each node
  abbrev pub PiecesPart : Type 0
  PiecesPart = (left right : List (List K)) → ArePieces cmp (left ++ right) → ArePieces cmp left × ArePieces cmp right
