use Rattle.std.proofs.Common.{ap, length, None, ◌∙◌}
use Rattle.std.proofs.iter.runs.Sources.{from_front}
use Rattle.std.specs.Map.Iter.{TakesFirst, deref_pair}
use Rattle.bptree_invariant.specs.Shape.{root_least}
use Rattle.bptree_tree.proofs.PartSpans.{whole_between}
use Rattle.bptree_invariant.proofs.Walk.{tree_ascends}
use Rattle.bptree_tree.proofs.tree.BPlusTree.iter.Goals as goal

pub new-requires : goal.new-requires
new-requires g c =
    let slots = g.S.NodeStore.slots c.nodes.inside.store in
    let tree = c.nodes.inside in
    rw c.len-end.ensures.value (whole_between g.S.Argument.Argument.is_summary slots tree.height tree.root c.nodes.invariant.0 c.first_leaf-first.result c.last_leaf-last.result c.get_leaf.result.now tree.len (rw (← c.nodes.view_is) at c.first_leaf-first.ensures) (rw (← c.nodes.view_is) at c.last_leaf-last.ensures) c.get_leaf.ensures c.nodes.invariant.1).0

pub returns-clause-rest : goal.returns-clause-rest
returns-clause-rest g c =
    let slots = g.S.NodeStore.slots c.nodes.inside.store in
    let tree = c.nodes.inside in
    let shown = (whole_between g.S.Argument.Argument.is_summary slots tree.height tree.root c.nodes.invariant.0 c.first_leaf-first.result c.last_leaf-last.result c.get_leaf.result.now tree.len (rw (← c.nodes.view_is) at c.first_leaf-first.ensures) (rw (← c.nodes.view_is) at c.last_leaf-last.ensures) c.get_leaf.ensures c.nodes.invariant.1).1 in
    rw (← c.self.view_is, ← c.nodes.view_is) (c.new.ensures ∙ rw c.len-end.ensures.value shown)

pub returns-clause-ascending : goal.returns-clause-ascending
returns-clause-ascending g c =
    rw (← c.self.view_is, ← c.nodes.view_is)
    (tree_ascends g.met.S.K.Ord.total (g.S.NodeStore.slots c.nodes.inside.store) (root_least c.nodes.inside.height) c.nodes.inside.height c.nodes.inside.root None None c.nodes.invariant.0.tree)

-- each step gives the first of what is left
pub returns-clause-runs : goal.returns-clause-runs
returns-clause-runs g c = from_front (TakesFirst deref_pair) deref_pair (λ s. s) (λ s t h. ap length h.0) (λ s x t h. h)
