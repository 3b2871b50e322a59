-- A root without a key is replaced by its only child.
use Rattle.std.proofs.Common.{◌≡◌, ℕ, zero, suc, ◌+◌, ◌-◌, ◌≤◌, inl, inr, cond, List, [], ◌∷◌, length, refl, sym, ap, subst, ◌∙◌, arith, Option, Some, None, eqb, append-nil, slice_get}
use Rattle.std.specs.declared.cmp.Ordering.{Ordering}
use Rattle.std.proofs.lemmas.Bool.{cases_eq, eq-eqb}
use Rattle.std.proofs.lemmas.Bool.Decides.{eqb_tells}
use Rattle.bptree_nodes.specs.Inner.{Inner}
use Rattle.bptree_nodes.specs.Leaf.{Leaf}
use Rattle.bptree_nodes.specs.Slot.{Slot, Slots, Free, Held, Present}
use Rattle.bptree_keys.specs.declared.node_id.InnerNodeId.{InnerNodeId}
use Rattle.bptree_keys.specs.declared.node_id.NodeId.{NodeId}
use Rattle.bptree_keys.specs.declared.node_id.NodeId.TheVariants as kind
use Rattle.bptree_invariant.specs.Edit.{SameLinks}
use Rattle.bptree_invariant.specs.Order.{Chain}
use Rattle.bptree_invariant.specs.Shape.{inner_keys, inner_children, pairs_at, leaves_at, inner_count, stored, root_least, IsTree, IsWellShaped}
use Rattle.bptree_rebalancing.specs.Trim.{IsLoose}
use Rattle.bptree_invariant.proofs.Agreeing.{stored_le}
use Rattle.bptree_invariant.proofs.Frame.{Same, same}
use Rattle.bptree_propagation.proofs.Relinked.{each_counted, same_links, linked_same}
use Rattle.bptree_invariant.proofs.Widen.{tree_less}

only_child : {K C : Type 0} (cmp : K → K → Ordering) (P : C → Option K → Option K → Type 0) (ks : List K) (cs : List C) (c : C) (lo hi : Option K) → length ks ≡ 0 → slice_get cs 0 ≡ Some c → Chain cmp P ks cs lo hi → (cs ≡ c ∷ []) × P c lo hi
only_child cmp P ks [] c lo hi none read h = absurd h
only_child cmp P [] (d ∷ []) c lo hi none read h = let e : d ≡ c = cc in (rw e refl, subst (λ x. P x lo hi) e h)
only_child cmp P [] (d ∷ f ∷ cs) c lo hi none read h = absurd h
only_child cmp P (k ∷ ks) (d ∷ cs) c lo hi none read h = absurd (omega arith)

least_low : (m : ℕ) → root_least m ≤ 16
least_low zero = omega arith
least_low (suc m) = omega arith

module _ {K V A : Type 0} {cmp : K → K → Ordering} {is_summary : A → List K → Type 0} (old new : Slots (Inner K A) (Leaf K V)) (id : InnerNodeId) (node : Inner K A) (child : NodeId) (here : old.inner id.0 ≡ Present node) (none : length node.keys ≡ 0) (read : slice_get node.children 0 ≡ Some child)
    (gone : new.inner id.0 ≡ Free) (others : (n : ℕ) → (n ≡ id.0 → ⊥) → new.inner n ≡ old.inner n) (leaf : new.leaf ≡ old.leaf) where
  module _ (m : ℕ) (loose : IsLoose cmp is_summary old (suc m) (kind.Inner id)) where
    only : (node.children ≡ child ∷ []) × IsTree cmp old 16 m child None None
    only =
        only_child cmp (IsTree cmp old 16 m) node.keys node.children child None None none read
        (subst (λ (x : Slot (Inner K A)). Chain cmp (IsTree cmp old 16 m) (inner_keys x) (inner_children x) None None) here loose.nodes.tree.1)

    children : inner_children (old.inner id.0) ≡ child ∷ []
    children = ap inner_children here ∙ only.0

    count : (n : ℕ) → cond (eqb id.0 n) 1 0 + inner_count old m child n ≡ stored (old.inner n)
    count n = let z = rw children at (loose.nodes.inners n) in omega (arith, z)

    leaf_at : (n : ℕ) → new.leaf n ≡ old.leaf n
    leaf_at n = ap (λ (f : ℕ → Slot (Leaf K V)). f n) leaf

    far : (n : ℕ) → 1 ≤ inner_count old m child n → n ≡ id.0 → ⊥
    far n some e = let q : ◌≡◌ {A = ℕ} (cond (eqb id.0 n) 1 0) 1 = rw (eq-eqb id.0 n (sym e)) refl in omega (arith, count n, q, stored_le (old.inner n))

    there : Same cmp is_summary old new m child
    there = same cmp is_summary old new m child ((λ n some. leaf_at n), (λ n some. others n (far n some)))

    inner_now : (n : ℕ) → inner_count new m child n ≡ stored (new.inner n)
    inner_now n =
        elim (cases_eq n id.0) [
          | inl e ↦ (let q : ◌≡◌ {A = ℕ} (cond (eqb id.0 n) 1 0) 1 = rw (eq-eqb id.0 n (sym e)) refl in let z : stored (new.inner n) ≡ 0 = ap (λ x. stored (new.inner x)) e ∙ ap stored gone in omega (arith, there.inners n, count n, q, stored_le (old.inner n)))
          | inr apart ↦ (let z = ap stored (others n apart) in let q : ◌≡◌ {A = ℕ} (cond (eqb id.0 n) 1 0) 0 = none_at n apart in omega (arith, there.inners n, count n, q))
        ]
      where
        none_at : (x : ℕ) → (x ≡ id.0 → ⊥) → ◌≡◌ {A = ℕ} (cond (eqb id.0 x) 1 0) 0
        none_at x apart = elim (eqb_tells id.0 x) [ inl e ↦ absurd (apart (sym e.1)) | inr e ↦ rw e.0 refl ]

    order : leaves_at new m child ≡ leaves_at old (suc m) (kind.Inner id)
    order = there.order ∙ rw children (sym (append-nil (leaves_at old m child)))

    pub shrunk_root_pairs : pairs_at new m child ≡ pairs_at old (suc m) (kind.Inner id)
    shrunk_root_pairs = there.pairs ∙ rw children (sym (append-nil (pairs_at old m child)))

    pub shrunk_root_shape : IsWellShaped cmp is_summary new m child
    shrunk_root_shape = record {
      tree = there.tree (root_least m) None None (tree_less cmp old 16 (root_least m) m child None None (least_low m) only.1);
      leaves = λ n. let z = rw children at (loose.nodes.leaves n) in omega (arith, z, there.leaves n, ap stored (leaf_at n));
      inners = inner_now;
      no_leaf_held = λ n h. loose.nodes.none_held.leaves n (sym (leaf_at n) ∙ h);
      no_inner_held = λ n h. elim (cases_eq n id.0) [ inl e ↦ (let z : Free ≡ Held = sym gone ∙ (ap new.inner (sym e) ∙ h) in cc) | inr apart ↦ loose.nodes.none_held.inners n (sym (others n apart) ∙ h) ];
      summed = there.summed (let z = rw children at loose.nodes.summed in z.1.0);
      linked = rw order (linked_same old new None (leaves_at old (suc m) (kind.Inner id)) None (each_counted (SameLinks old new) (leaves_at old (suc m) (kind.Inner id)) (λ l some. same_links old new l (leaf_at l.0))) loose.linked);
    }

  at_height : (h : ℕ) → IsLoose cmp is_summary old h (kind.Inner id) → IsWellShaped cmp is_summary new (h - 1) child × (pairs_at new (h - 1) child ≡ pairs_at old h (kind.Inner id))
  at_height zero loose = absurd loose.nodes.tree
  at_height (suc m) loose =
      let down : m ≡ suc m - 1 = omega arith in
      (subst (λ n. IsWellShaped cmp is_summary new n child) down (shrunk_root_shape m loose), subst (λ n. pairs_at new n child ≡ pairs_at old (suc m) (kind.Inner id)) down (shrunk_root_pairs m loose))

  -- the root is replaced, for any height and any name of the root
  pub shrunk_root_at : (h : ℕ) (root : NodeId) → root ≡ kind.Inner id → IsLoose cmp is_summary old h root → IsWellShaped cmp is_summary new (h - 1) child × (pairs_at new (h - 1) child ≡ pairs_at old h root)
  shrunk_root_at h root is loose =
      let shrunk = at_height h (subst (λ x. IsLoose cmp is_summary old h x) is loose) in
      (shrunk.0, shrunk.1 ∙ ap (λ x. pairs_at old h x) (sym is))
