use Rattle.std.proofs.Common.{length, ap, arith, refl, sym}
use Rattle.bptree_invariant.proofs.Low.{low_tree}
use Rattle.bptree_invariant.proofs.LeafFor.{node_ascends, absent_there}
use Rattle.bptree_removal.proofs.Removals.{found_there}
use Rattle.bptree_removal.proofs.removal.find_entry.Goals as goal

pub find_path-leaf-requires-clause-room : goal.find_path-leaf-requires-clause-room
find_path-leaf-requires-clause-room g c =
    let tree = c.tree.inside in
    let few = (rw (← c.tree.view_is) at c.recall.ensures.fits) in
    let low = low_tree g.S.K.Ord.cmp g.S.Argument.Argument.is_summary (g.S.NodeStore.slots tree.store) tree.height tree.root c.tree.invariant.0 few in
    omega (arith, low, ap length c.clear.ensures)

pub returns-in-Ok-clause-way : goal.returns-in-Ok-clause-way
returns-in-Ok-clause-way g c =
    let tree = c.tree.inside in
    rw (← c.tree.view_is) (
      record { shape = c.tree.invariant.0; few = (rw (← c.tree.view_is) at c.recall.ensures.fits); way = c.find_path-leaf.ensures.way tree.height tree.root (rw c.clear.ensures (refl, refl)); found = rw c.get_leaf.ensures c.in-Ok.ensures.found },
      c.find_path-leaf.ensures.leaf,
    )

pub returns-in-Ok-clause-there : goal.returns-in-Ok-clause-there
returns-in-Ok-clause-there g c =
    let tree = c.tree.inside in
    rw (← c.tree.view_is)
    (sym (found_there g.met.S.K.Ord.total g.S.Argument.Argument.is_summary (g.S.NodeStore.slots tree.store) tree.height tree.root c.args.k.now c.find_path-leaf.result c.get_leaf.result.now c.tree.invariant.0 c.find_path-leaf.ensures.leaf c.get_leaf.ensures c.in-Ok.slot c.in-Ok.ensures.found c.in-Ok.ensures.in_range))

pub returns-in-Err-clause-there : goal.returns-in-Err-clause-there
returns-in-Err-clause-there g c =
    let total = g.met.S.K.Ord.total in
    let sum = g.S.Argument.Argument.is_summary in
    let tree = c.tree.inside in
    let old = g.S.NodeStore.slots tree.store in
    let node = c.get_leaf.result.now in
    let index = c.in-Err.ensures.index (node_ascends total sum old tree.height tree.root c.args.k.now c.find_path-leaf.result node c.tree.invariant.0 c.find_path-leaf.ensures.leaf c.get_leaf.ensures) in
    rw (← c.tree.view_is) (sym (absent_there total sum old tree.height tree.root c.args.k.now c.find_path-leaf.result node c.tree.invariant.0 c.find_path-leaf.ensures.leaf c.get_leaf.ensures index.0))
