-- The results of visitors on a list of pairs.
use Rattle.std.specs.Prelude.{◌≡◌, ◌+◌, ◌<◌, ◌≤◌, List, length, map, Option, Some, None, ⊤}
use Rattle.std.specs.declared.cmp.Ordering.{Ordering}
use Rattle.std.specs.List.{AllZip}
use Rattle.std.specs.List.Sorted.{IsStrictlySortedBy}
use Rattle.std.specs.Map.{keys_of, values_of}
use Rattle.bptree_arguments.specs.declared.visit.DescendVisitResult.{DescendVisitResult}
use Rattle.bptree_arguments.specs.declared.visit.DescendVisitResult.TheVariants.{GoDown, Cancel, Complete}
use Rattle.bptree_arguments.specs.declared.visit.DescendError.{DescendError}
use Rattle.bptree_arguments.specs.declared.visit.DescendError.TheVariants.{OutOfMemory, InvalidChild}
use Rattle.bptree_keys.specs.Pieces.{ArePieces, flatten, piece_at}

-- the result of a descent: that of the visitor, or that it named a child that does not exist
pub data VisitResult (R : Type 0) : Type 0 where
  returned : Option R → VisitResult R
  invalid_child : VisitResult R

-- the keys of each piece
abbrev pub key_pieces : {K V : Type 0} → List (List (K × V)) → List (List K)
key_pieces pieces = map keys_of pieces

module _ {W P R : Type 0} (outcomes : W → List P → VisitResult R → Type 0) where
  -- The meaning of one step of a visitor, `old` before it and `new` after it, over the pieces below
  -- the children. If the step ends the descent, its result is allowed on the whole. If it continues
  -- in a child, each result that is allowed on the child's piece is allowed on the whole. If the
  -- index is past the children, `invalid_child` is allowed on the whole.
  abbrev pub IsStep : W → W → List (List P) → DescendVisitResult R → Type 0
  IsStep old new pieces (GoDown i) = (i < length pieces → (outcome : VisitResult R) → outcomes new (piece_at pieces i) outcome → outcomes old (flatten pieces) outcome) × (length pieces ≤ i → outcomes old (flatten pieces) invalid_child)
  IsStep old new pieces Cancel = outcomes old (flatten pieces) (returned None)
  IsStep old new pieces (Complete r) = outcomes old (flatten pieces) (returned (Some r))

  -- a descent fails because of a child index only if that is allowed
  abbrev pub IsAllowedError : W → List P → DescendError → Type 0
  IsAllowedError visitor pairs OutOfMemory = ⊤
  IsAllowedError visitor pairs InvalidChild = outcomes visitor pairs invalid_child

module _ {W K V R : Type 0} (cmp : K → K → Ordering) (outcomes : W → List (K × V) → VisitResult R → Type 0) where
  -- `IsStep` holds at a node with so many keys and these summaries, whatever pairs are below the
  -- children
  abbrev pub StepsOver : {A : Type 0} → (A → List K → Type 0) → List K → List A → W → W → DescendVisitResult R → Type 0
  StepsOver is_summary keys arguments old new step =
      (pieces : List (List (K × V))) → ArePieces cmp (key_pieces pieces) → AllZip is_summary arguments (key_pieces pieces) → length pieces ≡ length keys + 1 → IsStep outcomes old new pieces step

  -- the result at a leaf of these keys and values is allowed on its pairs, if the keys ascend
  abbrev pub ReturnsLeaf : W → List K → List V → Option R → Type 0
  ReturnsLeaf visitor keys values outcome =
      (pairs : List (K × V)) → keys_of pairs ≡ keys → values_of pairs ≡ values → IsStrictlySortedBy cmp keys → outcomes visitor pairs (returned outcome)
