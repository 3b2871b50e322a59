-- The values between the first position and the current one are changed.
use Rattle.std.proofs.Common.{◌-◌, length}
use Rattle.bptree_ranges.specs.Ranges.{ahead}
use Rattle.bptree_invariant.specs.Shape.{leaves_at}
use Rattle.bptree_tree.proofs.UpdateLemmas.{Walked}
use Rattle.bptree_tree.proofs.tree.updating.update_leaves.Given as goal

abbrev pub invariant-leaves : goal.invariant-leaves
invariant-leaves g l = record {
  callable : goal.F-IsAlwaysCallable g l.f;
  walked : Walked g.F.FnMut (g.S.NodeStore.slots l.fn.store) l.fn.height l.fn.root l.fn.f l.fn.front l.fn.back l.f l.at l.from (g.S.NodeStore.slots l.store);
}

abbrev pub decreases-leaves : goal.decreases-leaves
decreases-leaves g l = let ids = leaves_at (g.S.NodeStore.slots l.fn.store) l.fn.height l.fn.root in length ids - length (ahead l.at.0 ids)
