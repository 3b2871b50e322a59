use Rattle.bptree_keys.specs.Ends.{is_back}
use Rattle.bptree_ranges.proofs.Bordered.{border_index, key_falls, is_key_before, leaf_cut}
use Rattle.bptree_ranges.proofs.groups.index_of_group.Goals as goal

pub returns : goal.returns
returns g c =
    let total = g.met.S.K.Ord.total in
    let order = g.met.G.Ord.total in
    let keeps = g.met.G.FromRef.keeps_order in
    let group_of = g.G.FromRef.group_of in
    let sum = g.S.Argument.Argument.is_summary in
    let tree = c.tree.inside in
    let slots = g.S.NodeStore.slots tree.store in
    let border = c.in_ok-leaf.ensures in
    let parts = leaf_cut total order group_of keeps c.args.group.now sum slots tree.height tree.root c.tree.invariant.0 c.in_ok-leaf.leaf c.get_leaf.result.now border.stored c.get_leaf.ensures (is_back c.args.end) c.keys.result.now c.in_ok-slot.slot c.keys.ensures.value c.in_ok-slot.ensures.in_range c.in_ok-slot.ensures.border in
    rw (← c.tree.view_is)
    (border_index total (is_key_before total order group_of keeps c.args.group.now (is_back c.args.end)) (key_falls total order group_of keeps c.args.group.now (is_back c.args.end)) slots sum tree.height tree.root c.tree.invariant.0 c.in_ok-leaf.leaf c.get_leaf.result.now border c.get_leaf.ensures c.in_ok-slot.slot parts)
