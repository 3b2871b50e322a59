-- The results of calls of a set for many keys at once, and the keys that they leave.
use Rattle.std.specs.Prelude.{Bool, List}
use Rattle.std.specs.declared.cmp.Ordering.{Ordering}
use Rattle.bptree_map.specs.Keys.{holds, without_key}
use Rattle.bptree_map.specs.Many.{after_each, returned_each}

module _ {K : Type 0} (cmp : K → K → Ordering) where
  -- the keys without those that equal some keys
  abbrev pub keys_without_each : List K → List K → List K
  keys_without_each = after_each (without_key cmp)

  -- whether the removal of each key, one after another, found one, in place of the old member at its index
  abbrev pub gone_each : List K → List K → List Bool → List Bool
  gone_each = returned_each (without_key cmp) (holds cmp)
