use Rattle.std.proofs.Common.{ap, sym, ◌∙◌}
use Rattle.std.specs.Ordering.{is_lt}
use Rattle.bptree_ranges.proofs.Sums.{nothing_between, not_less}
use Rattle.bptree_invariant.specs.Shape.{pairs_at}
use Rattle.bptree_ranges.proofs.summaries.some_between.Goals as goal

pub returns-in-Equal : goal.returns-in-Equal
returns-in-Equal g c =
    rw (c.in-Some-Some.is-0, c.in-Some-Some.is-1)
    (nothing_between g.met.S.K.Ord.total c.in-Some-Some.lo.now c.in-Some-Some.hi.now (ap is_lt (sym c.cmp.ensures) ∙ not_less c.cmp.result c.in-Equal.is) (pairs_at (g.S.NodeStore.slots c.args.store.now) c.args.height c.args.root))
