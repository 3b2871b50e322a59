use Rattle.std.specs.List.{zip}
use Rattle.bptree_nodes.proofs.Updates.{ChangedUpTo}
use Rattle.bptree_nodes.proofs.moves.update_values.Given as goal

abbrev pub invariant-slots : goal.invariant-slots
invariant-slots g l = record {
  callable : goal.F-IsAlwaysCallable g l.f;
  changed : ChangedUpTo g.F.FnMut l.fn.f (zip l.keys l.fn.values) l.from l.to l.f l.slot (zip l.keys l.values);
}
