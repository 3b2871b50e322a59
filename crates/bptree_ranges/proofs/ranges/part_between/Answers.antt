use Rattle.std.specs.Option.{option_copied}
use Rattle.bptree_ranges.proofs.Bounded.{between_ends}
use Rattle.bptree_ranges.specs.Bounds.{bound_copied}
use Rattle.bptree_ranges.specs.Ranges.{IsPart}
use Rattle.std.proofs.Common.{subst}
use Rattle.bptree_ranges.proofs.ranges.part_between.Goals as goal

pub returns : goal.returns
returns g c =
    let tree = c.args.tree.now in
    let ends = c.bounds_of in
    subst (IsPart (g.S.NodeStore.slots tree.store) tree.height tree.root c.part_between_bounds.result)
    (between_ends g.S.K.Ord.cmp tree.contents (option_copied c.args.lo) (option_copied c.args.hi) (bound_copied ends.result.0) (bound_copied ends.result.1) ends.ensures.start ends.ensures.end) c.part_between_bounds.ensures
