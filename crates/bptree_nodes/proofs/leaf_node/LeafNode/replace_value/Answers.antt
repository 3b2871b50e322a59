use Rattle.std.proofs.Common.{refl}
use Rattle.bptree_nodes.proofs.Pairs.{set_value_pairs}
use Rattle.bptree_nodes.proofs.leaf_node.LeafNode.replace_value.Goals as goal

pub returns-clause-after : goal.returns-clause-after
returns-clause-after g c =
    rw (← c.self.view_is, c.replace_at.ensures.items, set_value_pairs c.self.inside.keys.items c.self.inside.values.items c.args.slot c.args.value) refl
