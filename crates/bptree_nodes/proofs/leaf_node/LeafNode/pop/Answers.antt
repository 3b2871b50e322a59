use Rattle.std.proofs.Common.{refl, arith}
use Rattle.bptree_nodes.proofs.Pairs.{length_pairs, last_pair}
use Rattle.bptree_nodes.proofs.leaf_node.LeafNode.pop.Goals as goal

pub invariant_of-self : goal.invariant_of-self
invariant_of-self g c = (omega arith, omega arith, omega arith, omega arith)

pub returns-clause-pair : goal.returns-clause-pair
returns-clause-pair g c = rw (← c.self.view_is) (last_pair _ _ _ _ _ _ c.take_last.ensures.items c.take_last-2.ensures.items (omega arith))

pub returns-clause-links : goal.returns-clause-links
returns-clause-links g c = rw (← c.self.view_is) refl

pub returns-clause-room : goal.returns-clause-room
returns-clause-room g c = omega (arith, length_pairs c.take_last.new.self.items c.take_last-2.new.self.items (omega arith))
