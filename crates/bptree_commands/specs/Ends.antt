-- Both ends of a list.
use Rattle.std.specs.Prelude.{◌≡◌, ◌-◌, List, [], ◌∷◌, length, drop, take, reverse, Option, MatchOption, option_map, slice_get}
use Rattle.bptree_keys.specs.declared.end.End.{End}
use Rattle.bptree_keys.specs.declared.end.End.TheVariants.{Front, Back}

module _ {X : Type 0} where
  -- The item at an end, or `None` if no item is left.
  abbrev pub item_at : End → List X → Option X
  item_at Front left = slice_get left 0
  item_at Back left = slice_get left (length left - 1)

  -- The items that are left behind the item at an end.
  abbrev pub left_after : End → List X → List X
  left_after Front left = drop 1 left
  left_after Back left = take (length left - 1) left

  -- The items that the ends of a word take, one after another.
  abbrev pub walked : List End → List X → List (Option X)
  walked [] left = []
  walked (end ∷ word) left = item_at end left ∷ walked word (left_after end left)

  -- The list in its order from an end.
  abbrev pub seen_from : End → List X → List X
  seen_from Front left = left
  seen_from Back left = reverse left

-- The item that was taken is the item at the end, and the other items are left.
pub record TakesFrom {X A : Type 0} (shows : A → X) (end : End) (left : List X) (taken : Option A) (rest : List X) : Type 0 where
  pub item : option_map shows taken ≡ item_at end left
  pub behind : rest ≡ left_after end left
  pub seen : MatchOption taken (left ≡ []) (λ a. seen_from end left ≡ shows a ∷ seen_from end rest)
