use Rattle.std.proofs.Common.{◌≡◌, ◌<◌, Some}
use Rattle.std.specs.Iterator.{IsFinite, size}
use Rattle.bptree_load_plan.specs.declared.dedup.Ahead.TheVariants.{Ended}
use Rattle.bptree_load_plan.specs.Dedup.{dedup_left, TakesRun, GivesLastOfRun}
use Rattle.bptree_load_plan.proofs.dedup.DeDupKeepLastIterator.next.Given as goal

abbrev pub invariant-loop-item : goal.invariant-loop-item
invariant-loop-item g l = record {
  held : l.self.ahead ≡ Ended;
  can : g.I.Iterator.can_next l.self.source;
  finite : IsFinite (g.I.Iterator.remaining l.self.source);
  fewer : size (g.I.Iterator.remaining l.self.source) < size (dedup_left g.I.Iterator.remaining l.fn.self);
  callable : goal.F-IsAlwaysCallable g l.self.same;
  so_far : (y : _) (t : _) → TakesRun g.I.Iterator.next_gives g.F.FnMut l.self.source l.self.same l.last y t → GivesLastOfRun g.I.Iterator.next_gives g.F.FnMut l.fn.self (Some y) t;
}

abbrev pub decreases-loop-item : goal.decreases-loop-item
decreases-loop-item g l = size (g.I.Iterator.remaining l.self.source)
