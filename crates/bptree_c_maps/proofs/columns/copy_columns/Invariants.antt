use Rattle.std.proofs.Common.{◌≡◌, ◌-◌, ◌≤◌, ◌++◌, length, map, take, drop}
use Rattle.bptree_c_maps.proofs.columns.copy_columns.Given as goal

abbrev pub invariant-loop-count : goal.invariant-loop-count
invariant-loop-count l = record {
  in_room : l.count ≤ length l.keys;
  same_room : length l.keys ≡ length l.initial.keys;
  same_values : length l.values ≡ length l.initial.values;
  keys : l.keys ≡ map (λ pair. pair.0) (take l.count l.fn.left) ++ drop l.count l.initial.keys;
  values : l.values ≡ map (λ pair. pair.1) (take l.count l.fn.left) ++ drop l.count l.initial.values;
  rest : l.left ≡ drop l.count l.fn.left;
  there : l.count ≤ length l.fn.left;
}

abbrev pub decreases-loop-count : goal.decreases-loop-count
decreases-loop-count l = length l.keys - l.count
