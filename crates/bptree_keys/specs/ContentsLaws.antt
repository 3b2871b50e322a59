-- Laws of the list of pairs.
use Rattle.std.specs.Prelude.{◌≡◌, ◌+◌, List, Some, None, length, not, ◌||◌, ◌&&◌, if◌then◌else◌}
use Rattle.std.specs.declared.cmp.Ordering.{Ordering}
use Rattle.std.specs.Ordering.{is_eq}
use Rattle.bptree_keys.specs.Contents.{IsAscending, has, value, put, del, next, previous}
use Rattle.bptree_keys.specs.Neighbours.{IsAfter, IsBefore}

module _ (K V : Type 0) (cmp : K → K → Ordering) where
  -- after a pair is put: the keys still ascend; a look-up of its key finds its value, and a look-up of any other key finds
  -- what it found before; the list contains its key and the keys that it contained before; and the list is longer by one if
  -- it did not contain the key
  abbrev pub PutAscends : Type 0
  PutAscends = (l : List (K × V)) → (k : K) → (v : V) → IsAscending cmp l → IsAscending cmp (put cmp l k v)

  abbrev pub PutGivesValue : Type 0
  PutGivesValue = (l : List (K × V)) → (k j : K) → (v : V) → IsAscending cmp l → value cmp (put cmp l k v) j ≡ (if is_eq (cmp k j) then Some v else value cmp l j)

  abbrev pub PutGivesKey : Type 0
  PutGivesKey = (l : List (K × V)) → (k j : K) → (v : V) → IsAscending cmp l → has cmp (put cmp l k v) j ≡ is_eq (cmp k j) || has cmp l j

  abbrev pub PutAddsOne : Type 0
  PutAddsOne = (l : List (K × V)) → (k : K) → (v : V) → IsAscending cmp l → length (put cmp l k v) ≡ (if has cmp l k then length l else length l + 1)

  -- after a pair is deleted: the keys still ascend; a look-up of its key finds nothing, and a look-up of any other key finds
  -- what it found before; the list does not contain its key, and contains the other keys that it contained before; and the
  -- list is shorter by one if it contained the key
  abbrev pub DelAscends : Type 0
  DelAscends = (l : List (K × V)) → (k : K) → IsAscending cmp l → IsAscending cmp (del cmp l k)

  abbrev pub DelTakesValue : Type 0
  DelTakesValue = (l : List (K × V)) → (k j : K) → IsAscending cmp l → value cmp (del cmp l k) j ≡ (if is_eq (cmp k j) then None else value cmp l j)

  abbrev pub DelTakesKey : Type 0
  DelTakesKey = (l : List (K × V)) → (k j : K) → IsAscending cmp l → has cmp (del cmp l k) j ≡ not (is_eq (cmp k j)) && has cmp l j

  abbrev pub DelTakesOne : Type 0
  DelTakesOne = (l : List (K × V)) → (k : K) → IsAscending cmp l → length (del cmp l k) + (if has cmp l k then 1 else 0) ≡ length l

  -- the next pair is the one with the least greater key, and the previous one has the greatest smaller key
  abbrev pub NextIsAfter : Type 0
  NextIsAfter = (l : List (K × V)) → (k : K) → IsAscending cmp l → IsAfter cmp l k (next cmp l k)

  abbrev pub PreviousIsBefore : Type 0
  PreviousIsBefore = (l : List (K × V)) → (k : K) → IsAscending cmp l → IsBefore cmp l k (previous cmp l k)
