use Rattle.std.proofs.Common.{length, take, ◌-◌, ◌≡◌, ◌≤◌}
use Rattle.std.specs.Ordering.{nat_cmp}
use Rattle.bptree_c_maps.specs.Batch.{gone_marks}
use Rattle.bptree_map.specs.Many.{without_each}
use Rattle.bptree_c_maps.proofs.batch.del_all.Given as goal

abbrev pub invariant-loop-at : goal.invariant-loop-at
invariant-loop-at l = record {
  within : l.at ≤ length l.keys;
  left : l.map ≡ without_each nat_cmp l.fn.map (take l.at l.keys);
  found : l.found ≡ gone_marks l.fn.map (take l.at l.keys) l.fn.found;
}

abbrev pub decreases-loop-at : goal.decreases-loop-at
decreases-loop-at l = length l.keys - l.at
