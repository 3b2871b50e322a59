use Rattle.bptree_unit_tests.proofs.callers.groups.sizes_the_greatest_group_of_a_leaf.Goals as goal

pub returns : goal.returns
returns g c = λ h bound there. c.size_of_the_greatest_group.ensures.size _ h (c.in_ok-summary.ensures.summary c.requires.some c.requires.ascending) bound there
