use Rattle.std.proofs.Common.{◌∙◌, sym, ap, arith, length}
use Rattle.bptree_keys.specs.declared.node_id.NodeId.TheVariants as kind
use Rattle.bptree_invariant.specs.Shape.{inner_keys, leaf_pairs}
use Rattle.bptree_rebalancing.proofs.Choosing.{none_below, node_below, size_there}
use Rattle.bptree_rebalancing.proofs.underflow.child_len.Goals as goal

pub returns-then-index-len : goal.returns-then-index-len
returns-then-index-len g c = none_below (g.S.NodeStore.slots c.args.store.now) c.get_inner-node.ensures c.args.index c.requires.long (omega (arith, c.if-index-len.true, c.len.ensures.value))

pub get_leaf-requires : goal.get_leaf-requires
get_leaf-requires g c = node_below (g.S.NodeStore.slots c.args.store.now) c.get_inner-node.ensures c.args.index c.requires.children (kind.Leaf c.in-Leaf.leaf) c.in-Leaf.ensures

pub returns-in-Leaf : goal.returns-in-Leaf
returns-in-Leaf g c = c.len-in-Leaf.ensures.value ∙ (sym (ap (λ s. length (leaf_pairs s)) c.get_leaf.ensures) ∙ size_there (g.S.NodeStore.slots c.args.store.now) c.get_inner-node.ensures c.args.index (kind.Leaf c.in-Leaf.leaf) c.in-Leaf.ensures)

pub get_inner-requires : goal.get_inner-requires
get_inner-requires g c = node_below (g.S.NodeStore.slots c.args.store.now) c.get_inner-node.ensures c.args.index c.requires.children (kind.Inner c.in-Inner.inner) c.in-Inner.ensures

pub returns-in-Inner : goal.returns-in-Inner
returns-in-Inner g c = c.len-in-Inner.ensures.value ∙ (sym (ap (λ s. length (inner_keys s)) c.get_inner.ensures) ∙ size_there (g.S.NodeStore.slots c.args.store.now) c.get_inner-node.ensures c.args.index (kind.Inner c.in-Inner.inner) c.in-Inner.ensures)
