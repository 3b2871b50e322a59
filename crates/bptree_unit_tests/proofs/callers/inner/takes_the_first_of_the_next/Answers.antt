use Rattle.std.proofs.Common.{arith}
use Rattle.bptree_unit_tests.proofs.Ends.{first_moves, first_turns}
use Rattle.bptree_unit_tests.proofs.callers.inner.takes_the_first_of_the_next.Goals as goal

pub returns-clause-keys : goal.returns-clause-keys
returns-clause-keys g c = first_turns _ _ c.args.node.now.keys c.args.right.now.keys c.args.key c.rotate_left.result c.rotate_left.ensures.keys c.rotate_left.ensures.left_len

pub returns-clause-children : goal.returns-clause-children
returns-clause-children g c =
    let sizes = c.rotate_left.ensures.left in
    first_moves _ _ c.args.node.now.children c.args.right.now.children c.rotate_left.ensures.children (omega (arith, c.requires.node, c.rotate_left.ensures.left_len, sizes.0.children, sizes.1.children))

pub returns-clause-arguments : goal.returns-clause-arguments
returns-clause-arguments g c =
    let sizes = c.rotate_left.ensures.left in
    first_moves _ _ c.args.node.now.arguments c.args.right.now.arguments c.rotate_left.ensures.arguments (omega (arith, c.requires.node, c.rotate_left.ensures.left_len, sizes.0.children, sizes.1.children, sizes.0.arguments, sizes.1.arguments))
