use Rattle.std.proofs.Common.{◌≡◌, ◌-◌, ◌≤◌, length, take}
use Rattle.std.specs.Map.{keys_of}
use Rattle.bptree_arguments.specs.CountLaws.{count_below}
use Rattle.bptree_invariant.specs.Shape.{pairs_at}
use Rattle.bptree_batches.specs.Each.{result_each}
use Rattle.bptree_batches.proofs.ranks.rank_group.Given as goal

abbrev pub invariant-keys : goal.invariant-keys
invariant-keys g l = record {
  within : l.at ≤ length l.keys;
  ranks : l.ranks ≡ result_each (λ k old. count_below g.S.K.Ord.cmp k (keys_of (pairs_at (g.S.NodeStore.slots l.store) l.height l.fn.root))) (take l.at l.keys) l.fn.ranks;
}

abbrev pub decreases-keys : goal.decreases-keys
decreases-keys g l = length l.keys - l.at
