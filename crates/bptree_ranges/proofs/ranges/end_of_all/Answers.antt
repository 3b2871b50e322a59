use Rattle.std.proofs.Common.{arith}
use Rattle.bptree_ranges.proofs.Ranged.{last_index}
use Rattle.bptree_invariant.proofs.Whole.{right}
use Rattle.bptree_ranges.proofs.ranges.end_of_all.Goals as goal

pub returns-clause-end : goal.returns-clause-end
returns-clause-end g c =
    let slots = g.S.NodeStore.slots c.args.tree.now.store in
    let at = (last_index g.S.Argument.Argument.is_summary slots c.args.tree.now.height c.args.tree.now.root (right g.S.NodeStore.slots c.tree.view_is c.tree.invariant.0) c.last_leaf-leaf.result c.get_leaf.result.now c.last_leaf-leaf.ensures (rw (← c.tree.view_is) c.get_leaf.ensures)).1 in
    omega (arith, at, c.len-slot.ensures.value)
