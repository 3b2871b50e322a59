use Rattle.std.proofs.Common.{refl, arith}
use Rattle.bptree_nodes.proofs.Pairs.{take_pairs, drop_pairs}
use Rattle.bptree_nodes.proofs.leaf_node.LeafNode.move_tail_to.Goals as goal

pub invariant_of-self : goal.invariant_of-self
invariant_of-self g c = (omega arith, omega arith, omega arith, omega arith)

pub invariant_of-right : goal.invariant_of-right
invariant_of-right g c = (omega arith, omega arith, omega arith, omega arith)

pub returns-clause-left : goal.returns-clause-left
returns-clause-left g c =
    rw (← c.self.view_is, c.move_tail.ensures.kept, c.move_tail-2.ensures.kept, take_pairs c.args.slot c.self.inside.keys.items c.self.inside.values.items) refl

pub returns-clause-right : goal.returns-clause-right
returns-clause-right g c =
    rw (← c.self.view_is, ← c.right.view_is, c.move_tail.ensures.moved, c.move_tail-2.ensures.moved, drop_pairs c.args.slot c.self.inside.keys.items c.self.inside.values.items) refl
