use Rattle.std.proofs.Common.{arith, refl}
use Rattle.bptree_removal.proofs.EndPaths.{there_of, taken_from, entry_taken}
use Rattle.bptree_removal.proofs.OneFewer.{one_fewer, index_within}
use Rattle.bptree_removal.proofs.removal.take_entry_by.Goals as goal

pub take_out-requires : goal.take_out-requires
take_out-requires g c =
    let at = rw (← c.tree.view_is) at c.requires.1 in
    (c.requires.0, there_of at.0, c.tree.invariant.2)

pub shrink_root-root-requires : goal.shrink_root-root-requires
shrink_root-root-requires g c =
    let at = rw (← c.tree.view_is) at c.requires.1 in
    (c.in_ok-pair.ensures.leaves c.requires.0 (there_of at.0) c.tree.invariant.2).loose

pub invariant_of-tree-2 : goal.invariant_of-tree-2
invariant_of-tree-2 g c =
    let at = rw (← c.tree.view_is) at c.requires.1 in
    let taken = taken_from _ _ _ _ _ _ _ _ c.requires.0 _ _ _ _ (c.in_ok-pair.ensures.leaves c.requires.0 (there_of at.0) c.tree.invariant.2) c.shrink_root-root.ensures.shape c.shrink_root-root.ensures.pairs in
    let r = entry_taken g.met.S.K.Ord.total _ _ _ _ _ _ _ _ c.requires.0 _ _ _ _ at taken in
    one_fewer r.2 c.tree.inside.len c.tree.invariant.1

pub returns-clause-taken : goal.returns-clause-taken
returns-clause-taken g c k there =
    let at = rw (← c.tree.view_is) at there in
    let taken = taken_from _ _ _ _ _ _ _ _ k _ _ _ _ (c.in_ok-pair.ensures.leaves k (there_of at.0) c.tree.invariant.2) c.shrink_root-root.ensures.shape c.shrink_root-root.ensures.pairs in
    let r = entry_taken g.met.S.K.Ord.total _ _ _ _ _ _ _ _ k _ _ _ _ at taken in
    rw (← c.tree.view_is) (taken.pair_was, r.1, taken.pairs)

pub overflow_sub-tree : goal.overflow_sub-tree
overflow_sub-tree g c =
    let at = rw (← c.tree.view_is) at c.requires.1 in
    let taken = taken_from _ _ _ _ _ _ _ _ c.requires.0 _ _ _ _ (c.in_ok-pair.ensures.leaves c.requires.0 (there_of at.0) c.tree.invariant.2) c.shrink_root-root.ensures.shape c.shrink_root-root.ensures.pairs in
    let r = entry_taken g.met.S.K.Ord.total _ _ _ _ _ _ _ _ c.requires.0 _ _ _ _ at taken in
    omega (arith, index_within r.2, c.tree.invariant.1)

pub returns-clause-whole : goal.returns-clause-whole
returns-clause-whole g c =
    let at = rw (← c.tree.view_is) at c.requires.1 in
    let taken = taken_from _ _ _ _ _ _ _ _ c.requires.0 _ _ _ _ (c.in_ok-pair.ensures.leaves c.requires.0 (there_of at.0) c.tree.invariant.2) c.shrink_root-root.ensures.shape c.shrink_root-root.ensures.pairs in
    let r = entry_taken g.met.S.K.Ord.total _ _ _ _ _ _ _ _ c.requires.0 _ _ _ _ at taken in
    let o = one_fewer r.2 c.tree.inside.len c.tree.invariant.1 in
    record { shape = o.0; contents = refl; summary = o.2 }
