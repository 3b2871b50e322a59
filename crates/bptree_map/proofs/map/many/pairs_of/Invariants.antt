use Rattle.std.proofs.Common.{length, take, vec_len, vec_capacity, ◌-◌, ◌≡◌, ◌≤◌}
use Rattle.std.specs.List.{AllZip, zip}
use Rattle.bptree_map.proofs.map.many.pairs_of.Given as goal

abbrev pub invariant-keys : goal.invariant-keys
invariant-keys g l = record {
  within : l.at ≤ length l.keys;
  so_far : AllZip (λ p q. g.K.Clone.is_clone p.0 q.0 × (q.1 ≡ p.1)) (take l.at (zip l.keys l.values)) l.pairs.items;
  len : vec_len l.pairs ≡ l.at;
  room : vec_capacity l.pairs ≡ length l.keys;
}

abbrev pub decreases-keys : goal.decreases-keys
decreases-keys g l = length l.keys - l.at
