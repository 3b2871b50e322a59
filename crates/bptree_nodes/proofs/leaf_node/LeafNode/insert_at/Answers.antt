use Rattle.std.proofs.Common.{refl, arith, ap, length, ◌∙◌}
use Rattle.std.proofs.lemmas.List.Edits.{length-insert}
use Rattle.bptree_nodes.proofs.Pairs.{insert_pair, length_pairs}
use Rattle.bptree_nodes.proofs.leaf_node.LeafNode.insert_at.Goals as goal

pub returns-clause-after : goal.returns-clause-after
returns-clause-after g c =
    rw (← c.self.view_is, c.insert_reserved.ensures.items, c.insert_reserved-2.ensures.items, insert_pair c.self.inside.keys.items c.self.inside.values.items c.args.slot c.args.key c.args.value (omega arith)) refl

pub invariant_of-self : goal.invariant_of-self
invariant_of-self g c =
    let room = rw (← c.self.view_is) at c.requires.room in
    let long = length_pairs c.self.inside.keys.items c.self.inside.values.items (omega arith) in
    (omega arith, omega (arith, room, long), omega arith, omega arith)

pub returns-clause-len : goal.returns-clause-len
returns-clause-len g c =
    ap (λ leaf. length leaf.pairs) (returns-clause-after g c) ∙ length-insert c.args.self.now.pairs c.args.slot (c.args.key, c.args.value) c.requires.within
