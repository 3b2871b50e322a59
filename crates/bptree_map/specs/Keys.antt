-- A set: one list of keys, by their order.
use Rattle.std.specs.Prelude.{◌≡◌, Bool, false, not, ◌&&◌, List, [], ◌∷◌, ◌++◌, if◌then◌else◌, filter, IsTrue, Option}
use Rattle.std.specs.declared.cmp.Ordering.{Ordering}
use Rattle.std.specs.Ordering.{is_lt, is_eq, is_gt}
use Rattle.std.specs.List.{find, list_any}
use Rattle.bptree_keys.specs.Ranges.{falls_short, stays_below}

module _ {K : Type 0} (cmp : K → K → Ordering) where
  -- some key equals k
  abbrev pub holds : List K → K → Bool
  holds keys k = list_any (λ key. is_eq (cmp key k)) keys

  -- the keys with k: a key that equals k stays; otherwise k is between the smaller and the greater
  -- keys
  abbrev pub with_key : List K → K → List K
  with_key keys k = if holds keys k then keys else filter (λ key. is_lt (cmp key k)) keys ++ k ∷ filter (λ key. is_gt (cmp key k)) keys

  -- the keys without the one that equals k
  abbrev pub without_key : List K → K → List K
  without_key keys k = filter (λ key. not (is_eq (cmp key k))) keys

  -- the ascending list of those keys after which no equal key comes
  abbrev pub gathered : List K → List K
  gathered [] = []
  gathered (k ∷ rest) = if holds rest k then gathered rest else with_key (gathered rest) k

  -- the keys that are not below lo, if lo is given, and are below hi, if hi is given
  abbrev pub keys_between : List K → Option K → Option K → List K
  keys_between keys lo hi = filter (λ key. not (falls_short cmp lo key) && stays_below cmp hi key) keys

  -- the keys of a list that no key of another equals
  abbrev pub keys_without : List K → List K → List K
  keys_without keys others = filter (λ key. not (holds others key)) keys

  -- the keys of a list that a key of another equals
  abbrev pub keys_within : List K → List K → List K
  keys_within keys others = filter (λ key. holds others key) keys

  -- the key that equals k
  abbrev pub key_found : List K → K → Option K
  key_found keys k = find (λ key. is_eq (cmp key k)) keys

  -- each key that equals one of a list equals one of another
  abbrev pub IsSubset : List K → List K → Type 0
  IsSubset keys others = (k : K) → IsTrue (holds keys k) → IsTrue (holds others k)

  -- no key that equals one of a list equals one of another
  abbrev pub IsDisjoint : List K → List K → Type 0
  IsDisjoint keys others = (k : K) → IsTrue (holds keys k) → holds others k ≡ false
