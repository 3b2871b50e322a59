-- The elements that a merge has left of its two sides.
use Rattle.std.specs.Prelude.{◌≡◌, List, ◌∷◌, Option, Some, None}
use Rattle.std.specs.Map.Iter.{TakesFirst}
use Rattle.bptree_merge_iter.specs.declared.merge_iter.Peeked.{Peeked}
use Rattle.bptree_merge_iter.specs.declared.merge_iter.Peeked.TheVariants.{A, B}

module _ {T E : Type 0} (shows : T → E) where
  -- the elements that are left of the first side, including a stored item
  abbrev pub first_side : Option (Peeked T) → List E → List E
  first_side None left = left
  first_side (Some (A item)) left = shows item ∷ left
  first_side (Some (B item)) left = left

  -- the elements that are left of the second side, including a stored item
  abbrev pub second_side : Option (Peeked T) → List E → List E
  second_side None left = left
  second_side (Some (A item)) left = left
  second_side (Some (B item)) left = shows item ∷ left

  -- the returned item is the first item of the side, and the source has the rest left
  abbrev pub TakesFirstSide : Option (Peeked T) → List E → Option T → List E → Type 0
  TakesFirstSide peeked old given new = TakesFirst shows (first_side peeked old) given new

  abbrev pub TakesSecondSide : Option (Peeked T) → List E → Option T → List E → Type 0
  TakesSecondSide peeked old given new = TakesFirst shows (second_side peeked old) given new

-- the copy is a clone of the item, on the same side
abbrev pub IsPeekedClone : {T : Type 0} → (T → T → Type 0) → Peeked T → Peeked T → Type 0
IsPeekedClone {T} is_clone (A item) copy = (other : T) × (copy ≡ A other) × is_clone item other
IsPeekedClone {T} is_clone (B item) copy = (other : T) × (copy ≡ B other) × is_clone item other
