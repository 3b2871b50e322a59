use Rattle.std.proofs.Common.{◌+◌, ◌∙◌, None, ap, length, subst, sym}
use Rattle.std.proofs.iter.runs.Sources.{from_front}
use Rattle.std.specs.Map.Iter.{TakesFirst, deref_pair}
use Rattle.bptree_keys.specs.Contents.{IsAscending}
use Rattle.bptree_ranges.specs.Ranges.{start}
use Rattle.bptree_invariant.specs.Shape.{pairs_at, root_least}
use Rattle.bptree_invariant.proofs.Walk.{tree_ascends}
use Rattle.bptree_tree.proofs.PartSpans.{part_between_indexes, part_ascends}
use Rattle.bptree_tree.proofs.tree.ranges.pairs_from.Goals as goal

pub new-requires : goal.new-requires
new-requires g c =
    let tree = c.tree.inside in
    let is = rw (← c.tree.view_is) at c.requires.1 in
    (part_between_indexes g.S.Argument.Argument.is_summary (g.S.NodeStore.slots tree.store) tree.height tree.root c.tree.invariant.0 c.args.part c.requires.0 is).0

pub returns-clause-rest : goal.returns-clause-rest
returns-clause-rest g c pairs of =
    let tree = c.tree.inside in
    let is = rw (← c.tree.view_is) at of in
    c.new.ensures ∙ (part_between_indexes g.S.Argument.Argument.is_summary (g.S.NodeStore.slots tree.store) tree.height tree.root c.tree.invariant.0 c.args.part pairs is).1

pub returns-clause-ascending : goal.returns-clause-ascending
returns-clause-ascending g c =
    let tree = c.tree.inside in
    let slots = g.S.NodeStore.slots tree.store in
    let is = rw (← c.tree.view_is) at c.requires.1 in
    let shown = c.new.ensures ∙ (part_between_indexes g.S.Argument.Argument.is_summary slots tree.height tree.root c.tree.invariant.0 c.args.part c.requires.0 is).1 in
    let all = tree_ascends g.met.S.K.Ord.total slots (root_least tree.height) tree.height tree.root None None c.tree.invariant.0.tree in
    subst (IsAscending g.S.K.Ord.cmp) (sym (shown ∙ is.pairs)) (part_ascends g.met.S.K.Ord.total (pairs_at slots tree.height tree.root) (start slots tree.height tree.root c.args.part.front.leaf + c.args.part.front.slot) _ all)

-- each step gives the first of what is left
pub returns-clause-runs : goal.returns-clause-runs
returns-clause-runs g c = from_front (TakesFirst deref_pair) deref_pair (λ s. s) (λ s t h. ap length h.0) (λ s x t h. h)
