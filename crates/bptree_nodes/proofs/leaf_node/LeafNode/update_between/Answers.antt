use Rattle.std.proofs.Common.{arith}
use Rattle.bptree_nodes.proofs.Pairs.{length_pairs}
use Rattle.bptree_nodes.proofs.leaf_node.LeafNode.update_between.Goals as goal

pub update_values-requires-clause-within : goal.update_values-requires-clause-within
update_values-requires-clause-within g c =
    let within = rw (← c.self.view_is) at c.requires.within in
    (within.0, omega (arith, within.1, c.deref.ensures.len, length_pairs c.self.inside.keys.items c.self.inside.values.items (omega arith)))

pub update_values-requires-clause-same : goal.update_values-requires-clause-same
update_values-requires-clause-same g c = omega (arith, c.deref.ensures.len, c.deref_mut.ensures.len)
