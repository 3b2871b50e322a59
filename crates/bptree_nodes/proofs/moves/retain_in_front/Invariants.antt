-- The closure was called for the first pairs, and those of them that stay are in front.
use Rattle.std.proofs.Common.{◌≡◌, ◌-◌, ◌≤◌, drop, length, take}
use Rattle.std.specs.List.{zip}
use Rattle.bptree_nodes.specs.Retaining.{RetainsInFront}
use Rattle.bptree_nodes.proofs.moves.retain_in_front.Given as goal

abbrev pub invariant-pairs : goal.invariant-pairs
invariant-pairs g l = record {
  within : l.at ≤ length l.fn.keys;
  few : l.kept ≤ l.at;
  keys_len : length l.keys ≡ length l.fn.keys;
  values_len : length l.values ≡ length l.fn.keys;
  keys_rest : drop l.at l.keys ≡ drop l.at l.fn.keys;
  values_rest : drop l.at l.values ≡ drop l.at l.fn.values;
  retained : RetainsInFront g.F.FnMut l.fn.f (take l.at (zip l.fn.keys l.fn.values)) l.f l.kept l.keys l.values;
  callable : goal.F-IsAlwaysCallable g l.f;
}

abbrev pub decreases-pairs : goal.decreases-pairs
decreases-pairs g l = length l.fn.keys - l.at
