use Rattle.std.proofs.Common.{◌≡◌, ◌-◌, ◌≤◌, ◌++◌, length, map, take, drop}
use Rattle.bptree_keys.specs.Ends.{is_back}
use Rattle.bptree_c_maps.specs.Ends.{turned_pairs}
use Rattle.bptree_c_maps.specs.Pairs.{as_pair}
use Rattle.bptree_c_maps.proofs.many.copy.Given as goal

abbrev pub invariant-loop-count : goal.invariant-loop-count
invariant-loop-count l = record {
  in_room : l.count ≤ length l.out;
  same_room : length l.out ≡ length l.initial.out;
  so_far : l.out ≡ map as_pair (take l.count (turned_pairs (is_back l.fn.end) l.fn.left)) ++ drop l.count l.initial.out;
  rest : turned_pairs (is_back l.fn.end) l.left ≡ drop l.count (turned_pairs (is_back l.fn.end) l.fn.left);
  there : l.count ≤ length (turned_pairs (is_back l.fn.end) l.fn.left);
}

abbrev pub decreases-loop-count : goal.decreases-loop-count
decreases-loop-count l = length l.out - l.count
