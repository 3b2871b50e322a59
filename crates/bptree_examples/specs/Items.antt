-- The items of a group.
use Rattle.std.specs.Prelude.{ℕ, nat_eq, List, Option, slice_get}
use Rattle.std.specs.List.{filter}
use Rattle.std.specs.Map.{keys_of}
use Rattle.std.specs.Option.{option_map}
use Rattle.bptree_examples.specs.declared.uses.grouped_index.Item.{Item}

-- The items that are of the group, in their order.
abbrev pub items_of : ℕ → List Item → List Item
items_of group items = filter (λ item. nat_eq item.group group) items

module _ {V : Type 0} (group : ℕ) (pairs : List (Item × V)) where
  -- The keys that are items of the group, in their order.
  abbrev pub items_in : List Item
  items_in = items_of group (keys_of pairs)

  -- The number of the item at an index in the group.
  abbrev pub number_at : ℕ → Option ℕ
  number_at index = option_map (λ (item : Item). item.number) (slice_get items_in index)
