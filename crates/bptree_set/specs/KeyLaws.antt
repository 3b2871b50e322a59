-- Laws of the list of keys that represents a set.
use Rattle.std.specs.Prelude.{◌≡◌, ◌+◌, List, length, not, ◌||◌, ◌&&◌, if◌then◌else◌}
use Rattle.std.specs.declared.cmp.Ordering.{Ordering}
use Rattle.std.specs.List.{find}
use Rattle.std.specs.List.Sorted.{IsStrictlySortedBy}
use Rattle.std.specs.Option.{option_or}
use Rattle.std.specs.Ordering.{is_eq}
use Rattle.bptree_map.specs.Keys.{holds, with_key, without_key}
use Rattle.bptree_set.specs.Union.{union}

module _ {K : Type 0} (cmp : K → K → Ordering) where
  -- ascending keys ascend with one key more
  abbrev pub WithKeyAscends : Type 0
  WithKeyAscends = (keys : List K) → (k : K) → IsStrictlySortedBy cmp keys → IsStrictlySortedBy cmp (with_key cmp keys k)

  -- the key that is added is held, and the other keys are held as before
  abbrev pub WithKeyHolds : Type 0
  WithKeyHolds = (keys : List K) → (k j : K) → IsStrictlySortedBy cmp keys → holds cmp (with_key cmp keys k) j ≡ is_eq (cmp k j) || holds cmp keys j

  -- there is one key more, unless the key was held
  abbrev pub WithKeyIsOneMore : Type 0
  WithKeyIsOneMore = (keys : List K) → (k : K) → IsStrictlySortedBy cmp keys → length (with_key cmp keys k) ≡ (if holds cmp keys k then length keys else length keys + 1)

  -- ascending keys ascend without one key; the others are held as before; there is one fewer if it
  -- was held
  abbrev pub WithoutKeyAscends : Type 0
  WithoutKeyAscends = (keys : List K) → (k : K) → IsStrictlySortedBy cmp keys → IsStrictlySortedBy cmp (without_key cmp keys k)

  abbrev pub WithoutKeyHolds : Type 0
  WithoutKeyHolds = (keys : List K) → (k j : K) → IsStrictlySortedBy cmp keys → holds cmp (without_key cmp keys k) j ≡ not (is_eq (cmp k j)) && holds cmp keys j

  abbrev pub WithoutKeyIsOneFewer : Type 0
  WithoutKeyIsOneFewer = (keys : List K) → (k : K) → IsStrictlySortedBy cmp keys → length (without_key cmp keys k) + (if holds cmp keys k then 1 else 0) ≡ length keys

  -- all laws of keys with one more, and of keys without one
  abbrev pub WithKeyLaws : Type 0
  WithKeyLaws = WithKeyAscends × WithKeyHolds × WithKeyIsOneMore

  abbrev pub WithoutKeyLaws : Type 0
  WithoutKeyLaws = WithoutKeyAscends × WithoutKeyHolds × WithoutKeyIsOneFewer

  -- a union holds the keys of either list, and the key that is found in it is the first list's if
  -- that has one
  abbrev pub UnionHoldsBoth : Type 0
  UnionHoldsBoth = (first second : List K) → (k : K) → holds cmp (union cmp first second) k ≡ holds cmp first k || holds cmp second k

  abbrev pub UnionPrefersFirst : Type 0
  UnionPrefersFirst = (first second : List K) → (k : K) → IsStrictlySortedBy cmp first → find (λ key. is_eq (cmp key k)) (union cmp first second) ≡ option_or (find (λ key. is_eq (cmp key k)) first) (find (λ key. is_eq (cmp key k)) second)
