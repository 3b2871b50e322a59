use Rattle.bptree_unit_tests.proofs.Groups.{leaf_of_result}
use Rattle.bptree_unit_tests.proofs.callers.groups.counts_a_group_of_a_leaf.Goals as goal

pub returns-clause-size : goal.returns-clause-size
returns-clause-size g c = leaf_of_result g.K.Ord.cmp g.G.Ord.cmp g.G.FromRef.group_of g.met.G.Ord.total c.new-visitor.result c.args.group c.new-visitor.ensures.group c.new-visitor.ensures.counted c.visit_leaf.result c.args.keys.now c.args.values.now c.requires.few c.requires.paired c.requires.ascending c.visit_leaf.ensures.outcome

pub returns-clause-absent : goal.returns-clause-absent
returns-clause-absent g c = λ none. rw none at (leaf_of_result g.K.Ord.cmp g.G.Ord.cmp g.G.FromRef.group_of g.met.G.Ord.total c.new-visitor.result c.args.group c.new-visitor.ensures.group c.new-visitor.ensures.counted c.visit_leaf.result c.args.keys.now c.args.values.now c.requires.few c.requires.paired c.requires.ascending c.visit_leaf.ensures.outcome)
