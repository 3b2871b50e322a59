use Rattle.std.proofs.Common.{ap, sym}
use Rattle.std.specs.Option.{option_copied}
use Rattle.bptree_invariant.specs.Shape.{pairs_at}
use Rattle.bptree_invariant.proofs.Between.{none_short}
use Rattle.bptree_ranges.proofs.counting.count_before.Goals as goal

pub returns-in-None : goal.returns-in-None
returns-in-None g c = sym (none_short g.S.K.Ord.cmp (option_copied c.args.lo) (pairs_at (g.S.NodeStore.slots c.args.store.now) c.args.height c.args.root) (ap option_copied c.in-None.is))
