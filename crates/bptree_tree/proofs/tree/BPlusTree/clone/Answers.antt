use Rattle.std.proofs.Common.{◌≡◌, length, refl, sym, ◌∙◌}
use Rattle.std.specs.Map.{keys_of}
use Rattle.bptree_invariant.specs.Shape.{pairs_at, IsWellShaped}
use Rattle.bptree_tree.proofs.Cloned.{long_alike, pairs_alike, shape_alike, reported_alike}
use Rattle.bptree_tree.proofs.tree.BPlusTree.clone.Given.{Over}
use Rattle.bptree_tree.proofs.tree.BPlusTree.clone.Goals.{In_ok-summary}
use Rattle.bptree_tree.proofs.tree.BPlusTree.clone.Goals as goal

-- the nodes of the clone are clones, under the same node ids
copied : (g : Over) (c : In_ok-summary g)
    → IsWellShaped g.S.K.Ord.cmp g.S.Argument.Argument.is_summary (g.S.NodeStore.slots c.in_ok-store.store) c.nodes.inside.height c.nodes.inside.root
    × (length (pairs_at (g.S.NodeStore.slots c.in_ok-store.store) c.nodes.inside.height c.nodes.inside.root) ≡ length (pairs_at (g.S.NodeStore.slots c.nodes.inside.store) c.nodes.inside.height c.nodes.inside.root))
    × g.S.Argument.Argument.is_summary c.in_ok-summary.summary (keys_of (pairs_at (g.S.NodeStore.slots c.in_ok-store.store) c.nodes.inside.height c.nodes.inside.root))
copied g c =
    let tree = c.nodes.inside in
    let old = g.S.NodeStore.slots tree.store in
    let new = g.S.NodeStore.slots c.in_ok-store.store in
    let same = g.met.S.CloneStore.clone_has_same_numbers tree.store c.in_ok-store.store c.in_ok-store.ensures.cases in
    let equal = g.met.S.K.Key.clone_is_equal in
    let summary = g.met.S.Argument.CloneArgument.clone_is_summary in
    let is_summary = g.S.Argument.Argument.is_summary in (
      shape_alike g.met.S.K.Ord.total is_summary g.S.K.Clone.is_clone g.S.V.Clone.is_clone g.S.Argument.Clone.is_clone equal summary old new same tree.height tree.root c.nodes.invariant.0,
      long_alike g.met.S.K.Ord.total is_summary g.S.K.Clone.is_clone g.S.V.Clone.is_clone g.S.Argument.Clone.is_clone equal summary old new same tree.height tree.root,
      reported_alike g.met.S.K.Ord.total is_summary g.S.K.Clone.is_clone g.S.V.Clone.is_clone g.S.Argument.Clone.is_clone equal summary old new same tree.height tree.root tree.summary c.in_ok-summary.summary c.in_ok-summary.ensures.cases c.nodes.invariant.2,
    )

pub invariant_of-copy : goal.invariant_of-copy
invariant_of-copy g c =
    let copied = copied g (goal.at.invariant_of-copy g c).In_ok-summary in
    (copied.0, c.nodes.invariant.1 ∙ sym copied.1, copied.2)

pub returns-clause-contents : goal.returns-clause-contents
returns-clause-contents g c =
    let tree = c.nodes.inside in
    rw (← c.self.view_is, ← c.nodes.view_is, c.of_nodes.ensures)
    (pairs_alike g.met.S.K.Ord.total g.S.Argument.Argument.is_summary g.S.K.Clone.is_clone g.S.V.Clone.is_clone g.S.Argument.Clone.is_clone g.met.S.K.Key.clone_is_equal g.met.S.Argument.CloneArgument.clone_is_summary (g.S.NodeStore.slots tree.store) (g.S.NodeStore.slots c.in_ok-store.store)
    (g.met.S.CloneStore.clone_has_same_numbers tree.store c.in_ok-store.store c.in_ok-store.ensures.cases) tree.height tree.root)

pub returns-clause-whole : goal.returns-clause-whole
returns-clause-whole g c =
    let copied = copied g (goal.at.returns-clause-whole g c).In_ok-summary in
    rw c.of_nodes.ensures (record { shape = copied.0; contents = refl; summary = copied.2 })

pub returns-clause-nodes : goal.returns-clause-nodes
returns-clause-nodes g c =
    rw (← c.self.view_is, ← c.nodes.view_is, c.of_nodes.ensures) (g.met.S.CloneStore.clone_has_same_numbers c.nodes.inside.store c.in_ok-store.store c.in_ok-store.ensures.cases)
