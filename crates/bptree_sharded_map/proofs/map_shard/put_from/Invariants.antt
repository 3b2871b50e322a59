use Rattle.std.proofs.Common.{◌≡◌, ◌++◌, ◌-◌, take}
use Rattle.bptree_keys.specs.Ends.{is_back}
use Rattle.bptree_sharded_map.specs.Shown.{shown, turned}
use Rattle.bptree_sharded_map.proofs.map_shard.put_from.Given as goal

-- the pairs that were found, and those of the first n that are left, are the first n
abbrev pub invariant-loop : goal.invariant-loop
invariant-loop g l = shown l.found.items ++ take (l.n - l.counter) (turned (is_back l.end) l.pairs) ≡ shown l.fn.found.items ++ take l.fn.n (turned (is_back l.fn.end) l.fn.pairs)
