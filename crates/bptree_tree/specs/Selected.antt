-- What a contract states of a cursor on a pair that a query selects.
use Rattle.std.specs.Prelude.{◌≡◌, ℕ, List, Option, Some, None, slice_get}
use Rattle.std.specs.declared.cmp.Ordering.{Ordering}
use Rattle.std.specs.Option.{option_map}
use Rattle.bptree_search.specs.ByArgument.{IsSelected}
use Rattle.bptree_tree.specs.Cursor.{IsCursorAt}
use Rattle.bptree_tree.specs.declared.cursor.Cursor.{Cursor}
use Rattle.std.specs.Borrow.{Bor, MutBor}
use Rattle.std.specs.Map.{keys_of, values_of}
use Rattle.std.specs.Map.Iter.{deref_pair}
use Rattle.bptree_tree.specs.declared.SelectError.{SelectError}
use Rattle.bptree_tree.specs.declared.SelectError.TheVariants.{NotFound}

-- the cursor is on the pair at some allowed index, beside the value there; it is `None` if no index
-- is allowed
pub record IsCursorSelected {Q K V : Type 0} (cmp : K → K → Ordering) (selects : Q → List K → Option ℕ → Type 0) (query : Q) (pairs : List (K × V)) (outcome : Option (Cursor K × V)) : Type 0 where
  pub pair : Option (K × V)
  pub selected : IsSelected selects query pairs pair
  pub cursor : IsCursorAt cmp pair (option_map (λ found. found.0) outcome)
  pub value : option_map (λ found. found.1) outcome ≡ option_map (λ (found : K × V). found.1) pair

module _ {Q K V : Type 0} (selects : Q → List K → Option ℕ → Type 0) (query : Q) (l : List (K × V)) where
  -- a borrowed value is at an allowed index
  abbrev pub BorrowsSelected : MutBor V → Type 0
  BorrowsSelected borrowed = (i : ℕ) × selects query (keys_of l) (Some i) × (slice_get (values_of l) i ≡ Some borrowed.now)

  -- a borrowed pair is that at some allowed index; it is `None` if no index is allowed
  abbrev pub ShowsSelected : Option (Bor K × Bor V) → Type 0
  ShowsSelected outcome = IsSelected selects query l (option_map deref_pair outcome)

  -- if no pair was found, no index is allowed
  abbrev pub SelectsNone : SelectError → Type 0
  SelectsNone error = error ≡ NotFound → selects query (keys_of l) None

  -- the cursor beside a borrowed value is on a selected pair
  abbrev pub PointsAtSelected : (K → K → Ordering) → Option (Cursor K × Bor V) → Type 0
  PointsAtSelected cmp outcome = IsCursorSelected cmp selects query l (option_map (λ found. (found.0, found.1.now)) outcome)
