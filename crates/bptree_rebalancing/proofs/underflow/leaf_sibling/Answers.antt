use Rattle.bptree_invariant.specs.Shape.{inner_children}
use Rattle.bptree_rebalancing.proofs.Choosing.{nodes_of_leaves}
use Rattle.bptree_rebalancing.proofs.underflow.leaf_sibling.Goals as goal

pub sibling-requires-clause-children : goal.sibling-requires-clause-children
sibling-requires-clause-children g c = let slots = g.S.NodeStore.slots c.args.store.now in nodes_of_leaves slots (inner_children (slots.inner c.args.id.0)) c.requires.children
