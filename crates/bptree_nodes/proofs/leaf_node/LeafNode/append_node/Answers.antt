use Rattle.std.proofs.Common.{refl, arith, ap, length}
use Rattle.bptree_nodes.proofs.Pairs.{pairs_in, length_pairs, append_pairs}
use Rattle.bptree_nodes.proofs.leaf_node.LeafNode.append_node.Goals as goal

pub append_all-requires : goal.append_all-requires
append_all-requires g c = grind (arith, pairs_in, length_pairs)

pub append_all-requires-2 : goal.append_all-requires-2
append_all-requires-2 g c = grind (arith, pairs_in, length_pairs)

pub invariant_of-self : goal.invariant_of-self
invariant_of-self g c =
    let whole = ap (λ leaf. length leaf.pairs) c.self.view_is in
    let other = ap (λ leaf. length leaf.pairs) c.right.view_is in
    let long = length_pairs c.self.inside.keys.items c.self.inside.values.items (omega arith) in
    let short = length_pairs c.right.inside.keys.items c.right.inside.values.items (omega arith) in
    (omega arith, omega (arith, whole, other, long, short, c.requires), omega arith, omega arith)

pub invariant_of-right : goal.invariant_of-right
invariant_of-right g c = (omega arith, omega arith, omega arith, omega arith)

pub returns-clause-left : goal.returns-clause-left
returns-clause-left g c =
    rw (← c.self.view_is, ← c.right.view_is, c.append_all.ensures.items, c.append_all-2.ensures.items, append_pairs c.self.inside.keys.items c.right.inside.keys.items c.self.inside.values.items c.right.inside.values.items (omega arith)) refl

pub returns-clause-right : goal.returns-clause-right
returns-clause-right g c =
    rw (← c.right.view_is, c.append_all.ensures.other_items) refl
