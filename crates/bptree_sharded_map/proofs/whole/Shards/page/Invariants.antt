use Rattle.std.proofs.Common.{◌≡◌, ◌++◌, map}
use Rattle.bptree_keys.specs.Pieces.{flatten}
use Rattle.bptree_keys.specs.Ranges.{part}
use Rattle.bptree_sharded_map.specs.Shown.{shown}
use Rattle.bptree_sharded_map.proofs.whole.Shards.page.Given as goal

-- the pairs that were found, and then the rest of the page, are the page
abbrev pub invariant-loop-part : goal.invariant-loop-part
invariant-loop-part g l =
    let whole = flatten (map (λ shard. g.S.Shard.pairs shard) l.self-inside.shards.items) in
    shown l.found.items ++ part whole l.from l.left ≡ part whole l.fn.index l.fn.n

abbrev pub decreases-loop-part : goal.decreases-loop-part
decreases-loop-part g l = l.left
