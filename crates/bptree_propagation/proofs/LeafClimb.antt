-- The leaf at the end of a path is edited, and the edit is propagated from there.
use Rattle.std.proofs.Common.{◌≡◌, ℕ, ◌≤◌, inl, inr, false, List, length, sym, ap, subst, ◌∙◌}
use Rattle.std.specs.declared.cmp.Ordering.{Ordering}
use Rattle.std.proofs.lemmas.Bool.{cases_eq}
use Rattle.bptree_keys.specs.Contents.{IsAscending}
use Rattle.bptree_nodes.specs.Inner.{Inner}
use Rattle.bptree_nodes.specs.Leaf.{Leaf}
use Rattle.bptree_nodes.specs.Slot.{Slot, Slots, Held, Present, IsPresent, UpdatesLeaf}
use Rattle.bptree_keys.specs.declared.node_id.InnerNodeId.{InnerNodeId}
use Rattle.bptree_keys.specs.declared.node_id.LeafNodeId.{LeafNodeId}
use Rattle.bptree_keys.specs.declared.node_id.NodeId.{NodeId}
use Rattle.bptree_keys.specs.declared.node_id.NodeId.TheVariants as kind
use Rattle.bptree_propagation.specs.Climb.{StaysFew, Climb}
use Rattle.bptree_invariant.specs.Edit.{CanReach, IsLocal, Turn, Edits}
use Rattle.bptree_invariant.specs.Outcome.{Outcome}
use Rattle.bptree_invariant.specs.Path.{Way}
use Rattle.bptree_invariant.specs.Shape.{leaf_pairs, pairs_at, IsWellShaped}
use Rattle.bptree_propagation.proofs.Rooted.{reach_of}
use Rattle.bptree_propagation.proofs.SlotFacts.{none_is}
use Rattle.bptree_invariant.proofs.Ways.{way_can}

-- if no leaf was held, no leaf is held after one was written
pub none_held : {I K V : Type 0} (old mid : Slots I (Leaf K V)) (i : ℕ) (node : Leaf K V) → UpdatesLeaf old mid i (Present node) → ((n : ℕ) → old.leaf n ≡ Held → ⊥) → (n : ℕ) → mid.leaf n ≡ Held → ⊥
none_held old mid i node updates none n h =
    elim (cases_eq n i) [
      | inl same ↦ (let z = sym updates.leaf.changed ∙ (ap mid.leaf (sym same) ∙ h) in cc)
      | inr other ↦ none n (sym (updates.leaf.others n other) ∙ h)
    ]

module _ {K V A : Type 0} {cmp : K → K → Ordering} (is_summary : A → List K → Type 0) (old : Slots (Inner K A) (Leaf K V)) (path : List (InnerNodeId × ℕ × NodeId)) (leaf : LeafNodeId) (k : K) (top : ℕ) (root : NodeId)
    (shape : IsWellShaped cmp is_summary old top root) (way : Way cmp old k top root path 0 (kind.Leaf leaf)) where
  pub leaf_reached : CanReach cmp old 0 (kind.Leaf leaf) k
  leaf_reached = way_can cmp old k path top root 0 (kind.Leaf leaf) way (reach_of cmp is_summary old top root k shape)

  pub leaf_stored : IsPresent (old.leaf leaf.0)
  leaf_stored = leaf_reached.tree.0

  -- the leaf's pairs ascend, and it has no more than fit
  module _ (node : Leaf K V) (here : old.leaf leaf.0 ≡ Present node) where
    pub leaf_ascends : IsAscending cmp node.pairs
    leaf_ascends = subst (λ (s : Slot (Leaf K V)). IsAscending cmp (leaf_pairs s)) here leaf_reached.tree.2

    pub leaf_fits : length node.pairs ≤ 64
    leaf_fits = subst (λ (s : Slot (Leaf K V)). length (leaf_pairs s) ≤ 64) here leaf_reached.tree.4

  abbrev pub climb_from : {mid : Slots (Inner K A) (Leaf K V)} {turn : Turn} {outcome : Outcome K} (edit : List (K × V) → List (K × V)) (kept : ℕ) → StaysFew cmp edit (length (pairs_at old top root)) → IsLocal cmp k edit
      → Edits cmp is_summary edit kept old mid 0 (kind.Leaf leaf) k leaf turn outcome → mid.inner ≡ old.inner → ((n : ℕ) → mid.leaf n ≡ Held → ⊥) → Climb cmp is_summary mid path outcome
  climb_from {mid} {turn} {outcome} edit kept few local edits inner none = record {
    old = old;
    edit = edit;
    k = k;
    leaf = leaf;
    turn = turn;
    kept = kept;
    held_inner = λ n. false;
    held_leaf = λ n. false;
    top = top;
    root = root;
    height = 0;
    id = kind.Leaf leaf;
    shape = shape;
    few = few;
    local = local;
    way = way;
    edits = edits;
    free = record { inners = λ n. none_is (mid.inner n) (λ h. shape.no_inner_held n (ap (λ (f : ℕ → Slot (Inner K A)). f n) (sym inner) ∙ h)); leaves = λ n. none_is (mid.leaf n) (none n) };
  }
