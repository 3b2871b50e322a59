use Rattle.std.proofs.Common.{◌≡◌, ap, sym}
use Rattle.std.specs.Option.{option_copied}
use Rattle.bptree_invariant.specs.Shape.{pairs_at}
use Rattle.bptree_tree.proofs.UpdateLemmas.{updated_between, updated_right}
use Rattle.bptree_tree.proofs.tree.updating.update_within.Goals as goal

pub invariant_of-tree : goal.invariant_of-tree
invariant_of-tree g c =
    let updated = updated_between g.F.FnMut c.args.f g.S.K.Ord.cmp (option_copied c.args.lo) (option_copied c.args.hi) _ _ _ _ (rw (← c.tree.view_is) at c.indexes_between.ensures.rises) (rw (← c.tree.view_is) at c.indexes_between.ensures.pairs) c.update_leaves.ensures.changed in
    let right = updated_right g.S.Argument.Argument.is_summary c.tree.inside.len c.tree.inside.summary updated c.tree.invariant.1 c.tree.invariant.2 in
    (c.update_leaves.ensures.shape, right.0, right.1)

pub returns : goal.returns
returns g c =
    let tree = c.tree.inside in
    let same : c.args.tree.now.contents ≡ pairs_at (g.S.NodeStore.slots tree.store) tree.height tree.root = sym (ap (λ tree. tree.contents) c.tree.view_is) in
    rw same (updated_between g.F.FnMut c.args.f g.S.K.Ord.cmp (option_copied c.args.lo) (option_copied c.args.hi) _ _ _ _ (rw (← c.tree.view_is) at c.indexes_between.ensures.rises) (rw (← c.tree.view_is) at c.indexes_between.ensures.pairs) c.update_leaves.ensures.changed)
