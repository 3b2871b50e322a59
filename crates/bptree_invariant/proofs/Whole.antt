-- Properties of a tree's nodes, for the value that contracts use.
use Rattle.std.proofs.Common.{◌≡◌, List, subst}
use Rattle.std.specs.declared.cmp.Ordering.{Ordering}
use Rattle.bptree_nodes.specs.Inner.{Inner}
use Rattle.bptree_nodes.specs.Leaf.{Leaf}
use Rattle.bptree_nodes.specs.Slot.{Slots}
use Rattle.bptree_invariant.specs.NodeTree.{NodeTree}
use Rattle.bptree_invariant.specs.Shape.{pairs_at, IsWellShaped}

-- the value of a tree is well shaped if the tree is
pub right : {S K V A : Type 0} {cmp : K → K → Ordering} {is_summary : A → List K → Type 0} (slots : S → Slots (Inner K A) (Leaf K V)) {tree value : NodeTree S K V A} → tree ≡ value → IsWellShaped cmp is_summary (slots tree.store) tree.height tree.root → IsWellShaped cmp is_summary (slots value.store) value.height value.root
right {S} {K} {V} {A} {cmp} {is_summary} slots same shape = subst (λ (t : NodeTree S K V A). IsWellShaped cmp is_summary (slots t.store) t.height t.root) same shape

-- the contents of the value are the pairs of its nodes
pub contents_of : {S K V A : Type 0} (slots : S → Slots (Inner K A) (Leaf K V)) {tree value : NodeTree S K V A} → tree ≡ value → tree.contents ≡ pairs_at (slots tree.store) tree.height tree.root → value.contents ≡ pairs_at (slots value.store) value.height value.root
contents_of {S} {K} {V} {A} slots same are = subst (λ (t : NodeTree S K V A). t.contents ≡ pairs_at (slots t.store) t.height t.root) same are
