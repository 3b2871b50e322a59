use Rattle.std.proofs.Common.{◌∙◌, ◌+◌, length, refl, Some}
use Rattle.bptree_nodes.specs.Leaf.{set_value_at}
use Rattle.bptree_search.specs.ByArgument.{IsSelectedAt}
use Rattle.bptree_invariant.specs.Leaves.{pairs_of}
use Rattle.bptree_tree.proofs.BorrowedAt.{borrowed_right, set_pairs, value_of_slot, slot_within}
use Rattle.bptree_tree.proofs.tree.lending.selected_mut.Goals as goal

-- if any value is written, the tree is well shaped
pub invariant_of-tree-lent : goal.invariant_of-tree-lent
invariant_of-tree-lent g c = λ w.
    let tree = c.tree.inside in
    let slots = g.S.NodeStore.slots in
    let leaf = c.in-Ok-Some.at.leaf in
    let node = c.get_mut_leaf.result.now in
    let found : IsSelectedAt g.S.Argument.SearchArgument.selects c.args.query (slots tree.store) tree.height tree.root (Some c.in-Ok-Some.at) = rw c.in-Ok-Some.field-0-is at c.in-Ok-Some.ensures.selected in
    let written = record node { pairs = set_value_at node.pairs c.in-Ok-Some.at.slot w } in
    borrowed_right g.S.K.Ord.cmp g.S.Argument.Argument.is_summary (slots tree.store) (slots (g.S.NodeStore.with_leaf tree.store leaf.0 written)) tree.height tree.root c.tree.invariant.0 leaf node c.get_mut_leaf.ensures.value found.0 c.in-Ok-Some.at.slot w (g.met.S.NodeStore.with_leaf_updates tree.store leaf.0 written found.0.present)
    tree.len c.tree.invariant.1 tree.summary c.tree.invariant.2

-- the value that is borrowed is at an allowed index, and the tree ends with what is written there
pub returns-in-Ok-Some : goal.returns-in-Ok-Some
returns-in-Ok-Some g c =
    let tree = c.tree.inside in
    let store = g.S.NodeStore.slots in
    let slots = store tree.store in
    let leaf = c.in-Ok-Some.at.leaf in
    let slot = c.in-Ok-Some.at.slot in
    let node = c.get_mut_leaf.result.now in
    let read = c.get_mut_leaf.ensures.value in
    let found : IsSelectedAt g.S.Argument.SearchArgument.selects c.args.query slots tree.height tree.root (Some c.in-Ok-Some.at) = rw c.in-Ok-Some.field-0-is at c.in-Ok-Some.ensures.selected in
    let within = slot_within slots leaf node slot read found.1 in
    let sum = g.S.Argument.Argument.is_summary in
    let index = length (pairs_of slots found.0.before) + slot in
    let value = value_of_slot slots tree.height tree.root leaf node read found.0 slot within ∙ c.value_at_mut.ensures.value in
    let pairs = λ (w : g.row.S-V.Denot).
    let written = record node { pairs = set_value_at node.pairs slot w } in
    let updates = g.met.S.NodeStore.with_leaf_updates tree.store leaf.0 written found.0.present in
    set_pairs g.S.K.Ord.cmp sum slots (store (g.S.NodeStore.with_leaf tree.store leaf.0 written)) tree.height tree.root c.tree.invariant.0 leaf node read found.0 slot within w updates in
    rw (← c.tree.view_is) (
      (refl, λ w ok. record { index = index; selected = found.2; value = value; contents = pairs w; leaf = leaf; slot = slot; node = node; stored = found.0; here = read; at = refl; store = refl; root = refl; height = refl; root_argument = refl }, tt),
      record { writes_back = tt; value = (index, found.2, value); absent = tt; infallible = λ _. tt },
    )
