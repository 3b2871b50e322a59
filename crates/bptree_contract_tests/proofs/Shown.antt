-- What a tree shows of its nodes.
use Rattle.std.proofs.Common.{◌≡◌, ◌∙◌, ℕ, length, sym}
use Rattle.bptree_keys.specs.declared.node_id.NodeId.{NodeId}
use Rattle.bptree_nodes.specs.Inner.{Inner}
use Rattle.bptree_nodes.specs.Leaf.{Leaf}
use Rattle.bptree_nodes.specs.Slot.{Slots}
use Rattle.bptree_propagation.specs.NodeTree.{NodeTree}
use Rattle.bptree_invariant.specs.Shape.{leaf_pairs}
use Rattle.bptree_tree.specs.Whole.{IsUntouched}

-- An unchanged tree has the same root, the same height, and as many pairs in the leaf with an id.
pub shows_the_same : {S K V A : Type 0} (slots : S → Slots (Inner K A) (Leaf K V)) (n : ℕ) (old new : NodeTree S K V A) (before after : NodeId × ℕ × ℕ) → before ≡ (old.root, old.height, length (leaf_pairs ((slots old.store).leaf n))) → after ≡ (new.root, new.height, length (leaf_pairs ((slots new.store).leaf n))) → IsUntouched slots new old → before ≡ after
shows_the_same slots n old new before after was is untouched =
    let shown = sym is in
    was ∙ (rw (untouched.0, untouched.1, untouched.2) at shown)
