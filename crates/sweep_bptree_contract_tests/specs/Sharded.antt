-- Statements of callers of a map over shards.
use Rattle.std.specs.Prelude.{◌≡◌, ◌++◌, List, Vec, reverse}
use Rattle.std.specs.declared.cmp.Ordering.{Ordering}
use Rattle.std.specs.Borrow.{Bor}
use Rattle.bptree_keys.specs.Contents.{value, pairs_above}
use Rattle.bptree_sharded_map.specs.Shown.{shown}
use Rattle.bptree_sharded_map.specs.Whole.{Partition, contents}

module _ {K V : Type 0} where
  -- A key has the same value in two wholes.
  abbrev pub FindsAlike : (K → K → Ordering) → K → Partition K V → Partition K V → Type 0
  FindsAlike cmp k old new = value cmp (contents new) k ≡ value cmp (contents old) k

  -- The pairs of a vector in reverse order, followed by the pairs above a key, are the whole.
  abbrev pub GoBackFrom : {Z : Type 0} → (K → K → Ordering) → K → Partition K V → Vec (Bor K × Bor V) Z → Type 0
  GoBackFrom cmp k whole found = reverse (shown found.items) ++ pairs_above cmp (contents whole) k ≡ contents whole

  -- No allocation fails.
  abbrev pub ShardsNeverFail : (List (K × V) → K → Type 0) → Type 0
  ShardsNeverFail can_fail = (l : List (K × V)) (k : K) → can_fail l k → ⊥
