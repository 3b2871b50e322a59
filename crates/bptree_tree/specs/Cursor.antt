-- What a contract states of a cursor.
use Rattle.std.specs.Prelude.{◌≡◌, List, Option, Some, None, Result, Ok, IfOk, IsOk, IsSomeAnd}
use Rattle.std.specs.Borrow.{Bor}
use Rattle.std.specs.declared.cmp.Ordering.{Ordering}
use Rattle.std.specs.declared.cmp.Ordering.TheVariants.{Equal}
use Rattle.std.specs.Option.{option_copied, option_map}
use Rattle.std.specs.Map.Iter.{deref_pair}
use Rattle.bptree_keys.specs.Contents.{next, previous, value}
use Rattle.bptree_tree.specs.declared.cursor.Cursor.{Cursor}

-- the key of a cursor; the position that the cursor remembers plays no part
abbrev pub cursor_key : {K : Type 0} → Cursor K → K
cursor_key cursor = cursor.key

-- a cursor is on the pair, its key equal to the pair's; it is `None` if there is no pair
abbrev pub IsCursorAt : {K V : Type 0} → (K → K → Ordering) → Option (K × V) → Option (Cursor K) → Type 0
IsCursorAt cmp None cursor = cursor ≡ None
IsCursorAt cmp (Some pair) cursor = IsSomeAnd cursor (λ there. cmp (cursor_key there) pair.0 ≡ Equal)

module _ {K V : Type 0} where
  -- a cursor beside a borrowed value is on the pair; there is none if there is no pair
  abbrev pub PointsAt : (K → K → Ordering) → Option (K × V) → Option (Cursor K × Bor V) → Type 0
  PointsAt cmp pair outcome = IsCursorAt cmp pair (option_map (λ found. found.0) outcome)

  -- the borrowed value is the pair's
  abbrev pub ShowsValueOf : Option (K × V) → Option (Cursor K × Bor V) → Type 0
  ShowsValueOf pair outcome = option_map (λ found. found.1.now) outcome ≡ option_map (λ (pair : K × V). pair.1) pair

  -- the cursor's key is k, and the value is what the list has there, if it has any
  abbrev pub PointsAtKey : (K → K → Ordering) → List (K × V) → K → Cursor K × Option (Bor V) → Type 0
  PointsAtKey cmp l k found = (cmp (cursor_key found.0) k ≡ Equal) × (option_copied found.1 ≡ value cmp l k)

  -- the pair after a cursor's key, and the one before it
  abbrev pub pair_after : (K → K → Ordering) → List (K × V) → Cursor K → Option (K × V)
  pair_after cmp l cursor = next cmp l (cursor_key cursor)

  abbrev pub pair_before : (K → K → Ordering) → List (K × V) → Cursor K → Option (K × V)
  pair_before cmp l cursor = previous cmp l (cursor_key cursor)

  -- a cursor is on the pair after the key of another, or before it; alone, or beside the value
  -- there
  abbrev pub IsAtNext : (K → K → Ordering) → List (K × V) → Cursor K → Option (Cursor K) → Type 0
  IsAtNext cmp l from cursor = IsCursorAt cmp (pair_after cmp l from) cursor

  abbrev pub IsAtPrevious : (K → K → Ordering) → List (K × V) → Cursor K → Option (Cursor K) → Type 0
  IsAtPrevious cmp l from cursor = IsCursorAt cmp (pair_before cmp l from) cursor

  abbrev pub PointsAfter : (K → K → Ordering) → List (K × V) → Cursor K → Option (Cursor K × Bor V) → Type 0
  PointsAfter cmp l from outcome = PointsAt cmp (pair_after cmp l from) outcome

  abbrev pub PointsBefore : (K → K → Ordering) → List (K × V) → Cursor K → Option (Cursor K × Bor V) → Type 0
  PointsBefore cmp l from outcome = PointsAt cmp (pair_before cmp l from) outcome

  -- the pair that is borrowed beside its position
  abbrev pub found_pair : {P : Type 0} → Option (P × (Bor K × Bor V)) → Option (K × V)
  found_pair found = option_map (λ at. deref_pair at.1) found

-- The result is a cursor on a pair, and the value there, or `None` if there is no pair. The call
-- fails only if a clone of a key can fail.
pub record ReturnsCursor {K V E : Type 0} (cmp : K → K → Ordering) (is_infallible : K → Type 0) (pair : Option (K × V)) (outcome : Result (Option (Cursor K × Bor V)) E) : Type 0 where
  pub cursor : IfOk outcome (PointsAt cmp pair)
  pub value : IfOk outcome (ShowsValueOf pair)
  pub end : pair ≡ None → outcome ≡ Ok None
  pub infallible : ((key : K) → is_infallible key) → IsOk outcome

module _ {K V E : Type 0} (cmp : K → K → Ordering) (is_infallible : K → Type 0) (l : List (K × V)) (k : K) where
  -- the result is a cursor on the pair after a key, or before it
  abbrev pub ReturnsNext : Result (Option (Cursor K × Bor V)) E → Type 0
  ReturnsNext outcome = ReturnsCursor cmp is_infallible (next cmp l k) outcome

  abbrev pub ReturnsPrevious : Result (Option (Cursor K × Bor V)) E → Type 0
  ReturnsPrevious outcome = ReturnsCursor cmp is_infallible (previous cmp l k) outcome
