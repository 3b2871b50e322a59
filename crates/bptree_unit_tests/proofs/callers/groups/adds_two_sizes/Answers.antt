use Rattle.std.proofs.Common.{sym}
use Rattle.bptree_unit_tests.proofs.GroupKinds.{reported_of_one, sum_of_one}
use Rattle.bptree_unit_tests.proofs.callers.groups.adds_two_sizes.Goals as goal

pub returns-in-None : goal.returns-in-None
returns-in-None g c =
    absurd (reported_of_one g.G.Ord.cmp c.args.first.now c.args.second.now c.args.sizes.0 c.args.sizes.1 c.requires.same c.in_ok-both.both (rw c.requires.children at c.in_ok-both.ensures.reported) (sym c.in-None.ensures.exact))

pub returns : goal.returns
returns g c =
    sum_of_one g.G.Ord.cmp c.args.first.now c.args.second.now c.args.sizes.0 c.args.sizes.1 c.requires.same c.in_ok-both.both (rw c.requires.children at c.in_ok-both.ensures.reported) (c.in-Some.field-0-0.now, c.in-Some.size) c.in-Some.ensures.exact
