use Rattle.std.proofs.Common.{refl, arith, [], ◌∷◌}
use Rattle.bptree_nodes.proofs.Pairs.{append_pairs, length_pairs}
use Rattle.bptree_nodes.proofs.leaf_node.LeafNode.push.Goals as goal

pub returns : goal.returns
returns g c =
    rw (← c.self.view_is, c.push_reserved.ensures.items, c.push_reserved-2.ensures.items, append_pairs c.self.inside.keys.items (c.args.key ∷ []) c.self.inside.values.items (c.args.value ∷ []) (omega arith)) refl

pub invariant_of-self : goal.invariant_of-self
invariant_of-self g c =
    let room = rw (← c.self.view_is) at c.requires in
    let long = length_pairs c.self.inside.keys.items c.self.inside.values.items (omega arith) in
    (omega arith, omega (arith, room, long), omega arith, omega arith)
