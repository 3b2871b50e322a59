use Rattle.bptree_unit_tests.proofs.callers.groups.counts_the_groups_of_a_leaf.Goals as goal

pub returns-clause-groups : goal.returns-clause-groups
returns-clause-groups g c = λ some. c.group_count.ensures.different _ (c.in_ok-summary.ensures.summary some c.requires.ascending)
