-- When a change of a shard, or of the whole over shards, may fail.
use Rattle.std.specs.Prelude.{◌≡◌, ◌+◌, ◌^◌, ◌<◌, ⊤, ℕ, Bool, false, List}
use Rattle.std.specs.declared.cmp.Ordering.{Ordering}
use Rattle.bptree_shard_routing.specs.Shards.{own_shard}
use Rattle.bptree_sharded_map.specs.Whole.{Partition}
use Rattle.bptree_tree.specs.declared.InsertError.{InsertError}
use Rattle.bptree_tree.specs.declared.InsertError.TheVariants.{OutOfMemory, Full}

-- an insertion fails with `OutOfMemory` only if this holds
abbrev pub NoMemoryOnlyIf : {K V : Type 0} → Type 0 → InsertError K V → Type 0
NoMemoryOnlyIf may_fail (OutOfMemory k v) = may_fail
NoMemoryOnlyIf may_fail (Full k v) = ⊤

-- a property of the pairs of a key's shard
abbrev pub InOwnShard : {K V : Type 0} → (K → K → Ordering) → (List (K × V) → K → Type 0) → Partition K V → K → Type 0
InOwnShard cmp holds whole k = holds (own_shard cmp whole.bounds whole.shards k) k

-- a `usize` counts one pair more, or the key is present
abbrev pub ShardHasRoom : ℕ → Bool → Type 0
ShardHasRoom length present = present ≡ false → length + 1 < 2 ^ 64
