use Rattle.std.proofs.Common.{arith, refl}
use Rattle.bptree_keys.specs.Ends.{is_back}
use Rattle.bptree_removal.proofs.EndPaths.{few_of}
use Rattle.bptree_removal.proofs.OneFewer.{index_within, one_fewer}
use Rattle.bptree_removal.proofs.Spared.{spared_end}
use Rattle.bptree_removal.proofs.removal.take_spare.Goals as goal

pub overflow_sub-tree : goal.overflow_sub-tree
overflow_sub-tree g c =
    let tree = c.tree.inside in
    let few = few_of tree.len _ c.tree.invariant.1 (omega arith) in
    let taken =
    spared_end g.met.S.K.Ord.total g.S.Argument.Argument.is_summary (g.S.NodeStore.slots tree.store) tree.height tree.root c.tree.invariant.0 c.args.leaf c.get_leaf.result.now c.get_leaf.ensures few c.end_index.result c.take_pair-pair.result c.take_pair-pair.ensures.pair
    (is_back c.args.end) (rw (← c.tree.view_is) at c.requires) (rw c.len-len.ensures.value at c.end_index.ensures) (g.S.NodeStore.slots c.take_pair-pair.new.store) c.take_pair-pair.ensures.takes tree.summary in
    omega (arith, index_within taken, c.tree.invariant.1)

pub invariant_of-tree : goal.invariant_of-tree
invariant_of-tree g c =
    let tree = c.tree.inside in
    let few = few_of tree.len _ c.tree.invariant.1 (omega arith) in
    let taken =
    spared_end g.met.S.K.Ord.total g.S.Argument.Argument.is_summary (g.S.NodeStore.slots tree.store) tree.height tree.root c.tree.invariant.0 c.args.leaf c.get_leaf.result.now c.get_leaf.ensures few c.end_index.result c.take_pair-pair.result c.take_pair-pair.ensures.pair
    (is_back c.args.end) (rw (← c.tree.view_is) at c.requires) (rw c.len-len.ensures.value at c.end_index.ensures) (g.S.NodeStore.slots c.take_pair-pair.new.store) c.take_pair-pair.ensures.takes tree.summary in
    one_fewer taken tree.len c.tree.invariant.1

pub returns-clause-removed : goal.returns-clause-removed
returns-clause-removed g c =
    let tree = c.tree.inside in
    let few = few_of tree.len _ c.tree.invariant.1 (omega arith) in
    let taken =
    spared_end g.met.S.K.Ord.total g.S.Argument.Argument.is_summary (g.S.NodeStore.slots tree.store) tree.height tree.root c.tree.invariant.0 c.args.leaf c.get_leaf.result.now c.get_leaf.ensures few c.end_index.result c.take_pair-pair.result c.take_pair-pair.ensures.pair
    (is_back c.args.end) (rw (← c.tree.view_is) at c.requires) (rw c.len-len.ensures.value at c.end_index.ensures) (g.S.NodeStore.slots c.take_pair-pair.new.store) c.take_pair-pair.ensures.takes tree.summary in
    rw (← c.tree.view_is) (taken.was, taken.pairs)

pub returns-clause-whole : goal.returns-clause-whole
returns-clause-whole g c =
    let tree = c.tree.inside in
    let few = few_of tree.len _ c.tree.invariant.1 (omega arith) in
    let taken =
    spared_end g.met.S.K.Ord.total g.S.Argument.Argument.is_summary (g.S.NodeStore.slots tree.store) tree.height tree.root c.tree.invariant.0 c.args.leaf c.get_leaf.result.now c.get_leaf.ensures few c.end_index.result c.take_pair-pair.result c.take_pair-pair.ensures.pair
    (is_back c.args.end) (rw (← c.tree.view_is) at c.requires) (rw c.len-len.ensures.value at c.end_index.ensures) (g.S.NodeStore.slots c.take_pair-pair.new.store) c.take_pair-pair.ensures.takes tree.summary in
    let one = one_fewer taken tree.len c.tree.invariant.1 in
    record { shape = one.0; contents = refl; summary = one.2 }
