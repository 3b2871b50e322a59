-- The rank of a key among the keys of a list of pairs.
use Rattle.std.specs.Prelude.{ℕ, cond, List, Option, Some, None}
use Rattle.std.specs.declared.cmp.Ordering.{Ordering}
use Rattle.std.specs.Map.{keys_of}
use Rattle.bptree_arguments.specs.CountLaws.{count_below}
use Rattle.bptree_keys.specs.Contents.{has}

-- The number of smaller keys if the key is present, and `None` if it is absent.
abbrev pub rank_in : {K V : Type 0} → (K → K → Ordering) → List (K × V) → K → Option ℕ
rank_in cmp l k = cond (has cmp l k) (Some (count_below cmp k (keys_of l))) None
