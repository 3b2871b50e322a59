use Rattle.std.proofs.Common.{◌≡◌, ◌-◌, ◌≤◌, drop, length}
use Rattle.bptree_bulk.proofs.ahead.Ahead.skip.Given as goal

abbrev pub invariant-leaves : goal.invariant-leaves
invariant-leaves g l = record {
  within : l.left ≤ l.fn.count;
  some : l.left ≤ length l.self;
  rest : l.self ≡ drop (l.fn.count - l.left) l.fn.self;
}

abbrev pub decreases-leaves : goal.decreases-leaves
decreases-leaves g l = l.left
