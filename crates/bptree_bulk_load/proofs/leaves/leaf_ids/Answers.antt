use Rattle.std.proofs.Common.{◌∙◌, ap, sym}
use Rattle.bptree_invariant.specs.Shape.{leaf_next}
use Rattle.bptree_bulk_load.proofs.LeafIds.{left, walk_on, walk_there, walked}
use Rattle.bptree_bulk_load.proofs.leaves.leaf_ids.Goals as goal

pub get_leaf-requires : goal.get_leaf-requires
get_leaf-requires g c =
    let tree = c.tree.inside in
    walk_there g.S.K.Ord.cmp g.S.Argument.Argument.is_summary (g.S.NodeStore.slots tree.store) tree.height tree.root c.tree.invariant.0 c.leaves.ids.items c.leaves.invariant.rest (rw (← c.tree.view_is) at c.leaves.invariant.are) c.in-Some.id (sym c.leaves.invariant.at_is ∙ c.in-Some.is)

pub leaves-preserved : goal.leaves-preserved
leaves-preserved g c =
    let tree = c.tree.inside in
    let slots = g.S.NodeStore.slots tree.store in
    let at = sym c.leaves.invariant.at_is ∙ c.in-Some.is in
    let are = rw (← c.tree.view_is) at c.leaves.invariant.are in
    record {
      rest = left g.S.K.Ord.cmp g.S.Argument.Argument.is_summary slots tree.height tree.root c.tree.invariant.0 c.leaves.ids.items c.leaves.invariant.rest are c.in-Some.id at;
      are = rw (← c.tree.view_is) (walked g.S.K.Ord.cmp g.S.Argument.Argument.is_summary slots tree.height tree.root c.tree.invariant.0 c.leaves.ids.items c.leaves.invariant.rest are c.in-Some.id at c.push.new.self.items c.in_ok-push.ensures.items);
      at_is = c.next-at.ensures ∙ (sym (ap leaf_next c.get_leaf.ensures) ∙ walk_on g.S.K.Ord.cmp g.S.Argument.Argument.is_summary slots tree.height tree.root c.tree.invariant.0 c.leaves.ids.items c.leaves.invariant.rest are c.in-Some.id at);
    }
