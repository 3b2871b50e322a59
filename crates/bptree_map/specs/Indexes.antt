-- The index of a key among the keys of a map.
use Rattle.std.specs.Prelude.{ℕ, List, Option, Some, None, if◌then◌else◌}
use Rattle.std.specs.declared.cmp.Ordering.{Ordering}
use Rattle.std.specs.Map.{keys_of}
use Rattle.bptree_arguments.specs.CountLaws.{count_below}
use Rattle.bptree_keys.specs.Contents.{has}

-- the number of smaller keys, if some key equals k
abbrev pub index : {K V : Type 0} → (K → K → Ordering) → List (K × V) → K → Option ℕ
index cmp l k = if has cmp l k then Some (count_below cmp k (keys_of l)) else None
