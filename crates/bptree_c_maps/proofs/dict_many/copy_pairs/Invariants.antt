use Rattle.std.proofs.Common.{◌≡◌, ◌-◌, ◌≤◌, ◌++◌, length, map, take, drop}
use Rattle.bptree_keys.specs.Ends.{is_back}
use Rattle.bptree_c_maps.specs.DictPages.{as_record, key_bytes}
use Rattle.bptree_c_maps.specs.Ends.{turned_pairs}
use Rattle.bptree_c_maps.proofs.dict_many.copy_pairs.Given as goal

abbrev pub invariant-loop-count : goal.invariant-loop-count
invariant-loop-count l = record {
  in_room : l.count ≤ length l.out;
  same_room : length l.out ≡ length l.initial.out;
  so_far : l.out ≡ map as_record (take l.count (turned_pairs (is_back l.fn.end) l.fn.left)) ++ drop l.count l.initial.out;
  same_bytes : length l.bytes ≡ length l.initial.bytes;
  keys : l.bytes ≡ key_bytes (turned_pairs (is_back l.fn.end) l.fn.left) l.count ++ drop l.used l.initial.bytes;
  used_is : l.used ≡ length (key_bytes (turned_pairs (is_back l.fn.end) l.fn.left) l.count);
  used_in : l.used ≤ length l.bytes;
  rest : turned_pairs (is_back l.fn.end) l.left ≡ drop l.count (turned_pairs (is_back l.fn.end) l.fn.left);
  there : l.count ≤ length (turned_pairs (is_back l.fn.end) l.fn.left);
}

abbrev pub decreases-loop-count : goal.decreases-loop-count
decreases-loop-count l = length l.out - l.count
