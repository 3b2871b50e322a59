use Rattle.std.proofs.Common.{◌≡◌, ◌+◌, ◌-◌, ◌≤◌, take, map}
use Rattle.std.specs.Option.{option_copied}
use Rattle.std.specs.List.{flat_map}
use Rattle.bptree_keys.specs.Ranges.{between, part}
use Rattle.bptree_sharded_map.specs.Shown.{shown}
use Rattle.bptree_sharded_map.proofs.whole.Shards.range.Given as goal

-- the pairs that were found are the first n of the range in the shards before
abbrev pub invariant-loop-shard : goal.invariant-loop-shard
invariant-loop-shard g l =
    let before = part (map (λ shard. g.S.Shard.pairs shard) l.self-inside.shards.items) l.first (l.shard - l.first) in record {
      found : shown l.found.items ≡ take l.fn.n (flat_map (λ shard. between g.S.K.Ord.cmp shard (option_copied l.lo) (option_copied l.hi)) before);
      near : l.shard - l.first ≤ l.last + 1 - l.first;
    }
