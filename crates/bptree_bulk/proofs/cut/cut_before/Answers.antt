use Rattle.std.proofs.Common.{◌≡◌, ◌∙◌, length, arith, ap, refl, sym}
use Rattle.std.specs.List.{AllByRecursion}
use Rattle.bptree_bulk_load.specs.Rooms.{IsPresentAt}
use Rattle.bptree_bulk.specs.Cut.{BeginsBorder}
use Rattle.bptree_bulk.proofs.Cuts.{cut_made}
use Rattle.bptree_bulk.proofs.OwnLeaves.{all_read, own_at, own_least, own_pairs, own_present}
use Rattle.bptree_bulk.proofs.Placed.{IsAt}
use Rattle.bptree_invariant.specs.Shape.{leaf_pairs}
use Rattle.bptree_bulk.proofs.cut.cut_before.Given.{Over}
use Rattle.bptree_bulk.proofs.cut.cut_before.Goals.{After-index_of-i, After-leaf_before-from}
use Rattle.bptree_bulk.proofs.cut.cut_before.Goals as goal

-- the index of the leaf among the leaves
spot : (g : Over) (c : After-index_of-i g) → IsAt (g.S.NodeStore.slots c.args.tree.now.store) c.args.tree.now.height c.args.tree.now.root c.args.ids.now c.args.at.leaf c.index_of-i.result
spot g c = own_at c.recall.ensures.whole c.requires.ids c.requires.index.stored c.index_of-i.ensures

present : (g : Over) (c : After-index_of-i g) → AllByRecursion (IsPresentAt (g.S.NodeStore.slots c.tree.inside.store)) c.args.ids.now
present g c = all_read g.S.NodeStore.slots (ap (λ t. t.store) c.tree.view_is) refl IsPresentAt (own_present c.recall.ensures.whole c.requires.ids)

begins : (g : Over) (c : After-leaf_before-from g) → BeginsBorder (g.S.NodeStore.slots c.args.tree.now.store) c.args.ids.now c.index_of-i.result c.leaf_before-from.result.0 c.leaf_before-from.result.1
begins g c =
    let same : c.tree.inside.store ≡ c.args.tree.now.store = ap (λ t. t.store) c.tree.view_is in
    rw same at c.leaf_before-from.ensures

pub leaf_before-from-requires : goal.leaf_before-from-requires
leaf_before-from-requires g c =
    let at = (goal.at.leaf_before-from-requires g c).After-index_of-i in
    record { present = present g at; within = omega (arith, (spot g at).within) }

pub leaf_behind-to-requires : goal.leaf_behind-to-requires
leaf_behind-to-requires g c =
    let at = (goal.at.leaf_behind-to-requires g c).After-index_of-i in
    record { present = present g at; within = omega (arith, (spot g at).within) }

pub returns-clause-cut : goal.returns-clause-cut
returns-clause-cut g c =
    let at = goal.at.returns-clause-cut g c in
    let spot = spot g at.After-index_of-i in
    let slots = g.S.NodeStore.slots c.args.tree.now.store in
    let ids = c.args.ids.now in
    let same : c.tree.inside.store ≡ c.args.tree.now.store = ap (λ t. t.store) c.tree.view_is in
    let here : c.len-here.result ≡ length (leaf_pairs (slots.leaf c.args.at.leaf.0)) = c.len-here.ensures.value ∙ ap (λ l. length (leaf_pairs l)) (sym (rw same at c.get_leaf.ensures)) in
    cut_made slots ids c.index_of-i.result c.args.at.slot c.len-here.result c.leaf_before-from.result.0 c.leaf_before-from.result.1 c.leaf_behind-to.result.0 c.leaf_behind-to.result.1 c.half_of.result c.half_of-2.result
    (begins g at.After-leaf_before-from) (rw same at c.leaf_behind-to.ensures) (omega (arith, spot.next, here)) (omega (arith, here, c.requires.index.within)) spot.within (own_least c.recall.ensures.whole c.requires.ids)
    (omega (arith, c.requires.inside.0, spot.start_is)) (omega (arith, c.requires.inside.1, spot.start_is, ap length (own_pairs c.recall.ensures.whole c.requires.ids))) c.half_of.ensures c.half_of-2.ensures

pub returns-clause-index : goal.returns-clause-index
returns-clause-index g c =
    let at = goal.at.returns-clause-index g c in
    omega (arith, (spot g at.After-index_of-i).start_is, (begins g at.After-leaf_before-from).sum)
