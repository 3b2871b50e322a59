use Rattle.std.proofs.Common.{arith, sym, ◌∙◌, None}
use Rattle.bptree_invariant.specs.Shape.{root_least}
use Rattle.bptree_invariant.proofs.Ends.{leaf_some}
use Rattle.bptree_invariant.proofs.Spot.{value_in_leaf, leaf_ascends}
use Rattle.bptree_invariant.proofs.Walk.{tree_ascends}
use Rattle.bptree_invariant.proofs.nodes.Nodes.get.Goals as goal

pub returns-clause-value : goal.returns-clause-value
returns-clause-value g c =
    let total = g.met.S.K.Ord.total in
    let tree = c.self.inside in
    let slots = g.S.NodeStore.slots tree.store in
    let leaf = c.leaf_for-hint.result.0 in
    let node = c.get_leaf.result.now in
    let leads = rw (← c.self.view_is) at c.leaf_for-hint.ensures.leaf in
    let ascending = tree_ascends total slots (root_least tree.height) tree.height tree.root None None c.self.invariant.0.tree in
    let sorted = leaf_ascends total slots tree.height tree.root leaf node leads.stored ascending c.get_leaf.ensures in
    rw (← c.self.view_is) ((c.locate_slot_with_value_counted.ensures.contents sorted).1 ∙ sym (value_in_leaf total slots tree.height tree.root c.args.key.now leaf node leads c.get_leaf.ensures))

pub returns-clause-counts : goal.returns-clause-counts
returns-clause-counts g c some =
    let tree = c.self.inside in
    let slots = g.S.NodeStore.slots tree.store in
    let leads = rw (← c.self.view_is) at c.leaf_for-hint.ensures.leaf in
    let filled = leaf_some g.S.K.Ord.cmp slots tree.height tree.root c.self.invariant.0.tree c.leaf_for-hint.result.0 c.get_leaf.result.now c.get_leaf.ensures leads.stored (rw (← c.self.view_is) at some) in
    omega (arith, c.leaf_for-hint.ensures.counts_on, c.locate_slot_with_value_counted.ensures.counts filled)
