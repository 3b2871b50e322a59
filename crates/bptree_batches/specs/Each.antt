-- The results that look-ups of many keys write, key by key.
use Rattle.std.specs.Prelude.{ℕ, Bool, true, false, List, [], ◌∷◌, Option, map, slice_get, unwrap_or, if◌then◌else◌}
use Rattle.std.specs.declared.cmp.Ordering.{Ordering}
use Rattle.std.specs.Map.{keys_of}
use Rattle.std.specs.Option.{is_some, option_map}
use Rattle.bptree_arguments.specs.CountLaws.{count_below}
use Rattle.bptree_keys.specs.Contents.{has, value}

-- each old value at the index of a key is replaced by the result for that key, and the values after
-- the keys are unchanged
abbrev pub result_each : {K X : Type 0} → (K → X → X) → List K → List X → List X
result_each outcome [] olds = olds
result_each outcome (k ∷ ks) [] = []
result_each outcome (k ∷ ks) (old ∷ olds) = outcome k old ∷ result_each outcome ks olds

module _ {K V : Type 0} (cmp : K → K → Ordering) (pairs : List (K × V)) where
  -- the value of each key that is present, and otherwise the old value
  abbrev pub read_each : List K → List V → List V
  read_each = result_each (λ k old. unwrap_or (value cmp pairs k) old)

  -- for each key one value if the key is present, and another if it is absent
  abbrev pub mark_each : {X : Type 0} → X → X → List K → List X
  mark_each hit miss = map (λ k. if has cmp pairs k then hit else miss)

  -- whether each key is present
  abbrev pub found_each : List K → List Bool
  found_each = mark_each true false

  -- the number of keys that are smaller than each key
  abbrev pub ranked_each : List K → List ℕ
  ranked_each = map (λ k. count_below cmp k (keys_of pairs))

  -- the value of each key, or `None` if the key is absent
  abbrev pub values_each : List K → List (Option V)
  values_each = map (value cmp pairs)

module _ {K V : Type 0} (pairs : List (K × V)) where
  -- the pair at each index, or `None` past the end
  abbrev pub pairs_each : List ℕ → List (Option (K × V))
  pairs_each = map (slice_get pairs)

  -- the key and the value at each index, or the old ones past the end
  abbrev pub keys_at_each : List ℕ → List K → List K
  keys_at_each = result_each (λ i old. unwrap_or (option_map (λ pair. pair.0) (slice_get pairs i)) old)

  abbrev pub values_at_each : List ℕ → List V → List V
  values_at_each = result_each (λ i old. unwrap_or (option_map (λ pair. pair.1) (slice_get pairs i)) old)

  -- for each index one value if there is a pair, and another if there is no pair
  abbrev pub mark_at_each : {X : Type 0} → X → X → List ℕ → List X
  mark_at_each hit miss = map (λ i. if is_some (slice_get pairs i) then hit else miss)
