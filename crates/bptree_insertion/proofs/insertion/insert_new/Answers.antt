use Rattle.std.proofs.Common.{arith, None, refl, subst}
use Rattle.bptree_invariant.proofs.Low.{low_tree}
use Rattle.bptree_invariant.specs.Shape.{root_least}
use Rattle.bptree_invariant.proofs.Walk.{tree_ascends}
use Rattle.bptree_insertion.specs.Puts.{IsPlacedUpTo}
use Rattle.bptree_insertion.proofs.Upserted.{one_more, placed_at, reported_for_due}
use Rattle.bptree_insertion.proofs.insertion.insert_new.Goals as goal

pub put_new-requires : goal.put_new-requires
put_new-requires g c =
    let tree = c.tree.inside in
    let due = rw (← c.tree.view_is) at c.requires.due in
    record {
      due = (due.0, due.1);
      reported = reported_for_due g.S.K.Ord.cmp g.S.Argument.Argument.is_summary (g.S.NodeStore.slots tree.store) tree.height tree.root c.args.path.now c.args.at.leaf c.args.at.slot c.args.k due.0 due.1 due.2 tree.summary c.tree.invariant.2;
    }

pub top_of-root-requires : goal.top_of-root-requires
top_of-root-requires g c =
    let tree = c.tree.inside in
    low_tree g.S.K.Ord.cmp g.S.Argument.Argument.is_summary (g.S.NodeStore.slots tree.store) tree.height tree.root c.tree.invariant.0 (omega (arith, c.tree.invariant.1))

pub invariant_of-tree-2 : goal.invariant_of-tree-2
invariant_of-tree-2 g c =
    let total = g.met.S.K.Ord.total in
    let cmp = g.S.K.Ord.cmp in
    let sum = g.S.Argument.Argument.is_summary in
    let tree = c.tree.inside in
    let old = g.S.NodeStore.slots tree.store in
    let new = g.S.NodeStore.slots c.put_new.new.store in
    let due = rw (← c.tree.view_is) at c.requires.due in
    let reached = subst (λ n. IsPlacedUpTo cmp sum old new n tree.root c.args.k c.args.v c.in_ok-top.top c.in_ok-top.summary) due.2 (c.in_ok-top.ensures.placed due.0 due.1) in
    let p = placed_at cmp sum old new tree.height tree.root c.args.k c.args.v c.in_ok-top.top c.in_ok-top.summary c.top_of-root.result c.top_of-root.ensures reached in
    one_more total tree.len c.tree.invariant.1 p (rw (← c.tree.view_is) at c.requires.absent) (tree_ascends total old (root_least tree.height) tree.height tree.root None None c.tree.invariant.0.tree)

pub returns-clause-put : goal.returns-clause-put
returns-clause-put g c =
    let cmp = g.S.K.Ord.cmp in
    let sum = g.S.Argument.Argument.is_summary in
    let tree = c.tree.inside in
    let old = g.S.NodeStore.slots tree.store in
    let new = g.S.NodeStore.slots c.put_new.new.store in
    let due = rw (← c.tree.view_is) at c.requires.due in
    let reached = subst (λ n. IsPlacedUpTo cmp sum old new n tree.root c.args.k c.args.v c.in_ok-top.top c.in_ok-top.summary) due.2 (c.in_ok-top.ensures.placed due.0 due.1) in
    let p = placed_at cmp sum old new tree.height tree.root c.args.k c.args.v c.in_ok-top.top c.in_ok-top.summary c.top_of-root.result c.top_of-root.ensures reached in
    rw (← c.tree.view_is) p.pairs

pub returns-clause-whole : goal.returns-clause-whole
returns-clause-whole g c =
    let cmp = g.S.K.Ord.cmp in
    let sum = g.S.Argument.Argument.is_summary in
    let tree = c.tree.inside in
    let old = g.S.NodeStore.slots tree.store in
    let new = g.S.NodeStore.slots c.put_new.new.store in
    let due = rw (← c.tree.view_is) at c.requires.due in
    let reached = subst (λ n. IsPlacedUpTo cmp sum old new n tree.root c.args.k c.args.v c.in_ok-top.top c.in_ok-top.summary) due.2 (c.in_ok-top.ensures.placed due.0 due.1) in
    let p = placed_at cmp sum old new tree.height tree.root c.args.k c.args.v c.in_ok-top.top c.in_ok-top.summary c.top_of-root.result c.top_of-root.ensures reached in
    record { shape = p.shape; contents = refl; summary = p.reported }
