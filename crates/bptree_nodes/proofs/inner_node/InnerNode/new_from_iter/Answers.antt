use Rattle.std.proofs.Common.{arith}
use Rattle.std.proofs.lemmas.Result.{IfOk-weaker}
use Rattle.bptree_nodes.proofs.inner_node.InnerNode.new_from_iter.Goals as goal

pub new-requires-clause-keys : goal.new-requires-clause-keys
new-requires-clause-keys g c =
    let fit = c.requires.counts c.in_ok-keys.keys.items c.in_ok-children.children.items c.in_ok-arguments.arguments.items c.in_ok-keys.ensures c.in_ok-children.ensures c.in_ok-arguments.ensures in
    omega (arith, fit.0)

pub new-requires-clause-children : goal.new-requires-clause-children
new-requires-clause-children g c =
    let fit = c.requires.counts c.in_ok-keys.keys.items c.in_ok-children.children.items c.in_ok-arguments.arguments.items c.in_ok-keys.ensures c.in_ok-children.ensures c.in_ok-arguments.ensures in
    omega (arith, fit.1)

pub new-requires-clause-arguments : goal.new-requires-clause-arguments
new-requires-clause-arguments g c =
    let fit = c.requires.counts c.in_ok-keys.keys.items c.in_ok-children.children.items c.in_ok-arguments.arguments.items c.in_ok-keys.ensures c.in_ok-children.ensures c.in_ok-arguments.ensures in
    omega (arith, fit.2)

pub returns-clause-keys : goal.returns-clause-keys
returns-clause-keys g c = IfOk-weaker c.new.result _ _ (λ node is. rw is c.in_ok-keys.ensures) c.new.ensures

pub returns-clause-children : goal.returns-clause-children
returns-clause-children g c = IfOk-weaker c.new.result _ _ (λ node is. rw is c.in_ok-children.ensures) c.new.ensures

pub returns-clause-arguments : goal.returns-clause-arguments
returns-clause-arguments g c = IfOk-weaker c.new.result _ _ (λ node is. rw is c.in_ok-arguments.ensures) c.new.ensures
