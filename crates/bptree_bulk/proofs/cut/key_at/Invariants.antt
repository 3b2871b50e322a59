use Rattle.std.proofs.Common.{◌≡◌, ◌-◌, ◌≤◌, length, drop}
use Rattle.bptree_invariant.specs.Leaves.{pairs_of}
use Rattle.bptree_bulk.proofs.cut.key_at.Given as goal

abbrev pub invariant-ids : goal.invariant-ids
invariant-ids g l = record {
  within : l.i ≤ length l.fn.ids;
  same : drop l.left (pairs_of (g.S.NodeStore.slots l.fn.store) (drop l.i l.fn.ids)) ≡ drop l.fn.n (pairs_of (g.S.NodeStore.slots l.fn.store) l.fn.ids);
}

abbrev pub decreases-ids : goal.decreases-ids
decreases-ids g l = length l.fn.ids - l.i
