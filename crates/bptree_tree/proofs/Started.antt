-- A tree of one empty leaf.
use Rattle.std.proofs.Common.{◌≡◌, ℕ, inl, inr, cond, List, [], refl, sym, ap, ◌∙◌, arith, None, eqb}
use Rattle.std.specs.declared.cmp.Ordering.{Ordering}
use Rattle.std.specs.List.Sorted.{IsStrictlySortedBy}
use Rattle.std.proofs.lemmas.Bool.Decides.{eqb_tells}
use Rattle.bptree_nodes.specs.Inner.{Inner}
use Rattle.bptree_nodes.specs.Leaf.{Leaf}
use Rattle.bptree_nodes.specs.Slot.{Slot, Slots, Free, Held, Present, IsEmpty, UpdatesLeaf}
use Rattle.bptree_keys.specs.declared.node_id.LeafNodeId.{LeafNodeId}
use Rattle.bptree_keys.specs.declared.node_id.NodeId.TheVariants as kind
use Rattle.bptree_invariant.specs.Shape.{stored, IsWellShaped}

module _ {K V A : Type 0} (cmp : K → K → Ordering) (is_summary : A → List K → Type 0) (old new : Slots (Inner K A) (Leaf K V)) (leaf : LeafNodeId)
    (empty : IsEmpty old) (added : UpdatesLeaf old new leaf.0 (Present (record { pairs = []; prev = None; next = None }))) where
  no_inner : (n : ℕ) → new.inner n ≡ Free
  no_inner n = ap (λ (f : ℕ → Slot (Inner K A)). f n) added.inner ∙ empty.inner n

  counted : (n : ℕ) → cond (eqb leaf.0 n) 1 0 ≡ stored (new.leaf n)
  counted n =
      elim (eqb_tells leaf.0 n) [
        | inl same ↦ rw same.0 (sym (ap stored (ap new.leaf (sym same.1) ∙ added.leaf.changed)))
        | inr other ↦ rw other.0 (sym (ap stored (added.leaf.others n (λ e. other.1 (sym e)) ∙ empty.leaf n)))
      ]

  no_held : (n : ℕ) → new.leaf n ≡ Held → ⊥
  no_held n held =
      elim (eqb_tells leaf.0 n) [
        | inl same ↦ (let e : Present (record { pairs = []; prev = None; next = None }) ≡ Held = sym added.leaf.changed ∙ (ap new.leaf same.1 ∙ held) in cc)
        | inr other ↦ (let e : Free ≡ Held = sym (empty.leaf n) ∙ (sym (added.leaf.others n (λ e. other.1 (sym e))) ∙ held) in cc)
      ]

  pub started : IsWellShaped cmp is_summary new 0 (kind.Leaf leaf)
  unfolding IsStrictlySortedBy
  started = record {
    tree = rw added.leaf.changed (tt, tt, tt, omega arith, omega arith);
    leaves = counted;
    inners = λ n. sym (ap stored (no_inner n));
    no_leaf_held = no_held;
    no_inner_held = λ n held. let e : Free ≡ Held = sym (no_inner n) ∙ held in cc;
    summed = tt;
    linked = rw added.leaf.changed (refl, refl);
  }
