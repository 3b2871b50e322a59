use Rattle.std.proofs.Common.{◌≡◌, ◌-◌, refl, arith, ap, length}
use Rattle.std.proofs.lemmas.List.Edits.{length-remove}
use Rattle.bptree_nodes.proofs.Pairs.{last_apart, length_pairs, pair_at, remove_pair}
use Rattle.bptree_nodes.proofs.leaf_node.LeafNode.delete_at.Goals as goal

pub returns-then-len-slot-eq1-clause-pair : goal.returns-then-len-slot-eq1-clause-pair
returns-then-len-slot-eq1-clause-pair g c =
    let pairs = c.args.self.now.pairs in
    let last : c.args.slot ≡ length pairs - 1 = omega (arith, c.len.ensures.value, c.if-len-slot-eq1.true, c.requires) in
    rw last (last_apart pairs c.pop.new.self.pairs c.pop.result c.pop.ensures.pair).0

pub returns-clause-pair : goal.returns-clause-pair
returns-clause-pair g c =
    let keys = c.self.inside.keys.items in
    let values = c.self.inside.values.items in
    let within = rw (← c.self.view_is) at c.requires in
    rw (← c.self.view_is) (pair_at keys values c.args.slot _ _ (omega arith) (omega (arith, within, length_pairs keys values (omega arith))) c.remove-key.ensures.value c.remove-value.ensures.value)

pub returns-clause-after : goal.returns-clause-after
returns-clause-after g c =
    rw (← c.self.view_is, c.remove-key.ensures.items, c.remove-value.ensures.items, remove_pair c.self.inside.keys.items c.self.inside.values.items c.args.slot (omega arith)) refl

pub invariant_of-self : goal.invariant_of-self
invariant_of-self g c = (omega arith, omega arith, omega arith, omega arith)

pub returns-clause-room : goal.returns-clause-room
returns-clause-room g c =
    omega (arith, ap (λ leaf. length leaf.pairs) (returns-clause-after g c), length-remove c.args.self.now.pairs c.args.slot c.requires, ap (λ leaf. length leaf.pairs) c.self.view_is, length_pairs c.self.inside.keys.items c.self.inside.values.items (omega arith))
