use Rattle.std.proofs.Common.{◌∙◌, sym, None}
use Rattle.bptree_invariant.specs.Shape.{root_least}
use Rattle.bptree_invariant.proofs.Spot.{value_in_leaf, leaf_ascends}
use Rattle.bptree_invariant.proofs.Walk.{tree_ascends}
use Rattle.bptree_probes.proofs.uncached.value_at.Goals as goal

pub returns : goal.returns
returns g c =
    let total = g.met.S.K.Ord.total in
    let slots = g.S.NodeStore.slots c.args.store.now in
    let leaf = c.find_leaf.result in
    let node = c.get_leaf-leaf.result.now in
    let leads = c.find_leaf.ensures.leaf in
    let ascending = tree_ascends total slots (root_least c.args.height) c.args.height c.args.root None None c.requires.tree in
    let sorted = leaf_ascends total slots c.args.height c.args.root leaf node leads.stored ascending c.get_leaf-leaf.ensures in
    (c.locate_slot_with_value_counted.ensures.contents sorted).1 ∙ sym (value_in_leaf total slots c.args.height c.args.root c.args.key.now leaf node leads c.get_leaf-leaf.ensures)
