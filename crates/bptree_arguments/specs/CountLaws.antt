-- What a count of keys determines: the number of keys, the key at an index, and the rank of a key.
use Rattle.std.specs.Prelude.{◌≡◌, ℕ, ◌<◌, ◌≤◌, List, length, Option, Some, None, Result}
use Rattle.std.specs.declared.cmp.Ordering.{Ordering}
use Rattle.std.specs.Ordering.{is_lt}
use Rattle.std.specs.List.{filter, sum_by}
use Rattle.bptree_arguments.specs.declared.count.Count.{Count}
use Rattle.bptree_arguments.specs.Ranks.{RanksAtSlot}

-- a query is an index, which selects the key at it, or `None` past the end
abbrev pub SelectsIndex : {K : Type 0} → ℕ → List K → Option ℕ → Type 0
SelectsIndex query keys None = length keys ≤ query
SelectsIndex query keys (Some i) = (i ≡ query) × (i < length keys)

-- the number of keys that are smaller than k
abbrev pub count_below : {K : Type 0} → (K → K → Ordering) → K → List K → ℕ
count_below cmp k keys = length (filter (λ x. is_lt (cmp x k)) keys)

-- the count is the number of the keys
abbrev pub CountsKeys : {K : Type 0} → Count → List K → Type 0
CountsKeys a keys = a.0 ≡ length keys

-- the sum of the counts, whatever its size
abbrev pub sum_counts : List Count → ℕ
sum_counts counts = sum_by (λ a. a.0) counts

-- the rank is the number of keys that were counted before a key
abbrev pub Counted : {K : Type 0} → ℕ → K → List K → Type 0
Counted rank k keys = rank ≡ length keys

-- If the slot is that of k among the keys, the result is the number of keys that are smaller than
-- k. The rank is the number of keys before these, which are smaller, and any keys behind are
-- greater.
abbrev pub CountsAtSlot : {K : Type 0} → (K → K → Ordering) → K → ℕ → List K → Result ℕ ℕ → Result ℕ ℕ → Type 0
CountsAtSlot cmp k rank keys slot outcome = RanksAtSlot cmp Counted (λ k keys rank. rank ≡ count_below cmp k keys) k rank keys slot outcome
