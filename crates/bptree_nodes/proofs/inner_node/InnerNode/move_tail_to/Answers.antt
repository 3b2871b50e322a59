use Rattle.std.proofs.Common.{refl, arith}
use Rattle.bptree_nodes.proofs.Splits.{last_taken}
use Rattle.bptree_nodes.proofs.inner_node.InnerNode.move_tail_to.Goals as goal

pub invariant_of-self : goal.invariant_of-self
invariant_of-self g c =
    let within = rw (← c.self.view_is) at c.requires.within in
    (omega (arith, within.0, within.1), omega (arith, within.0, within.1), omega (arith, within.0, within.1), omega (arith, within.0, within.1), omega (arith, within.0, within.1))

pub invariant_of-right : goal.invariant_of-right
invariant_of-right g c =
    let within = rw (← c.self.view_is) at c.requires.within in
    (omega (arith, within.0, within.1), omega (arith, within.0, within.1), omega (arith, within.0, within.1), omega (arith, within.0, within.1), omega (arith, within.0, within.1))

pub returns-clause-left : goal.returns-clause-left
returns-clause-left g c =
    let within = rw (← c.self.view_is) at c.requires.within in
    let last = c.take_last-promoted.ensures in
    let taken = last_taken c.self.inside.keys.items _ _ c.args.index _ _ (omega (arith, within.0)) c.move_tail.ensures.kept c.move_tail.ensures.len last.value last.items in
    rw (← c.self.view_is, taken.1, c.move_children.ensures.kept, c.move_tail-2.ensures.kept) refl

pub returns-clause-promoted : goal.returns-clause-promoted
returns-clause-promoted g c =
    let within = rw (← c.self.view_is) at c.requires.within in
    let last = c.take_last-promoted.ensures in
    rw (← c.self.view_is) (last_taken c.self.inside.keys.items _ _ c.args.index _ _ (omega (arith, within.0)) c.move_tail.ensures.kept c.move_tail.ensures.len last.value last.items).0

pub returns-clause-right : goal.returns-clause-right
returns-clause-right g c = rw (← c.self.view_is, c.move_tail.ensures.moved, c.move_children.ensures.moved, c.move_tail-2.ensures.moved) refl
