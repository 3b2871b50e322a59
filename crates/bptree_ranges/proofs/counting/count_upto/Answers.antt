use Rattle.std.proofs.Common.{ap, sym, ◌∙◌}
use Rattle.std.specs.Option.{option_copied}
use Rattle.bptree_invariant.specs.Shape.{pairs_at}
use Rattle.bptree_invariant.proofs.Between.{all_below}
use Rattle.bptree_ranges.proofs.counting.count_upto.Goals as goal

pub returns-in-None : goal.returns-in-None
returns-in-None g c =
    c.requires.all ∙ sym (all_below g.S.K.Ord.cmp (option_copied c.args.hi) (pairs_at (g.S.NodeStore.slots c.args.store.now) c.args.height c.args.root) (ap option_copied c.in-None.is))
