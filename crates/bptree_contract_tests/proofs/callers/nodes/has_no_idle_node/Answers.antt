use Rattle.std.proofs.Common.{◌∙◌}
use Rattle.bptree_invariant.proofs.Agreeing.{stored_if_present}
use Rattle.bptree_contract_tests.proofs.callers.nodes.has_no_idle_node.Goals as goal

pub returns-clause-leaves : goal.returns-clause-leaves
returns-clause-leaves g c = λ n present. c.returns_the_list.ensures.whole.leaves n ∙ stored_if_present _ present

pub returns-clause-inners : goal.returns-clause-inners
returns-clause-inners g c = λ n present. c.returns_the_list.ensures.whole.inners n ∙ stored_if_present _ present
