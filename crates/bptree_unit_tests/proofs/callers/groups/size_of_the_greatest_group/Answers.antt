use Rattle.bptree_unit_tests.proofs.Groups.{greatest_size}
use Rattle.bptree_unit_tests.proofs.callers.groups.size_of_the_greatest_group.Goals as goal

pub returns-in-Some-clause-size : goal.returns-in-Some-clause-size
returns-in-Some-clause-size g c = λ groups h summary bound there.
    greatest_size g.met.G.Ord.total groups c.in-Some.field-0-0.now h c.in-Some.size (c.in-Some.ensures.greatest groups summary) bound there
