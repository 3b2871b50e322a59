use Rattle.std.proofs.Common.{◌≡◌, ◌-◌, ◌≤◌, ◌++◌, length, map, take, drop}
use Rattle.bptree_c_maps.proofs.dict_many.copy_values.Given as goal

abbrev pub invariant-loop-count : goal.invariant-loop-count
invariant-loop-count l = record {
  in_room : l.count ≤ length l.out;
  same_room : length l.out ≡ length l.initial.out;
  so_far : l.out ≡ map (λ pair. pair.1) (take l.count l.fn.left) ++ drop l.count l.initial.out;
  rest : l.left ≡ drop l.count l.fn.left;
  there : l.count ≤ length l.fn.left;
}

abbrev pub decreases-loop-count : goal.decreases-loop-count
decreases-loop-count l = length l.out - l.count
