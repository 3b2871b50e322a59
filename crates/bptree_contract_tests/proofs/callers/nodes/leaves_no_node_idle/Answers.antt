use Rattle.std.proofs.Common.{◌∙◌, sym}
use Rattle.std.proofs.lemmas.Result.{IfOk-weaker}
use Rattle.bptree_invariant.proofs.Agreeing.{stored_if_present}
use Rattle.bptree_contract_tests.proofs.callers.nodes.leaves_no_node_idle.Goals as goal

pub returns-clause-leaves : goal.returns-clause-leaves
returns-clause-leaves g c = λ n present. c.insert.ensures.whole.shape.leaves n ∙ stored_if_present _ present

pub returns-clause-inners : goal.returns-clause-inners
returns-clause-inners g c = λ n present. c.insert.ensures.whole.shape.inners n ∙ stored_if_present _ present

-- The nodes have the list, and the pair was put into the list.
pub returns-clause-list : goal.returns-clause-list
returns-clause-list g c = IfOk-weaker c.insert.result _ _ (λ old ok. sym c.insert.ensures.whole.contents ∙ ok.1) c.insert.ensures.ok
