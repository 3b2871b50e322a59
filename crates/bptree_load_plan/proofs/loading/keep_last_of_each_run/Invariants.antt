use Rattle.std.proofs.Common.{◌≡◌, ◌-◌, ◌≤◌, ◌++◌, length, take, drop}
use Rattle.bptree_keys.specs.Contents.{load}
use Rattle.bptree_load_plan.proofs.loading.keep_last_of_each_run.Given as goal

abbrev pub invariant-loop-at : goal.invariant-loop-at
invariant-loop-at g l = record {
  in_order : l.kept ≤ l.at;
  in_range : l.at ≤ length l.pairs.items;
  so_far : load g.K.Ord.cmp l.fn.pairs.items ≡ take l.kept l.pairs.items ++ load g.K.Ord.cmp (drop l.at l.pairs.items);
}

abbrev pub decreases-loop-at : goal.decreases-loop-at
decreases-loop-at g l = length l.pairs.items - l.at
