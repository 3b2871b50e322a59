-- The bound on the height of a tree.
use Rattle.std.proofs.Common.{ℕ, zero, suc, ◌+◌, ◌*◌, ◌^◌, ◌<◌, ◌≤◌, inl, inr, List, [], ◌∷◌, length, ap, arith, Option, Some, None, length-append}
use Rattle.std.specs.declared.cmp.Ordering.{Ordering}
use Rattle.std.proofs.Math.Nat.{mul-le-mul_left, pow-le-pow_right}
use Rattle.std.proofs.lemmas.Bool.{cases_lt}
use Rattle.bptree_nodes.specs.Inner.{Inner}
use Rattle.bptree_nodes.specs.Leaf.{Leaf}
use Rattle.bptree_nodes.specs.Slot.{Slots}
use Rattle.bptree_keys.specs.declared.node_id.NodeId.{NodeId}
use Rattle.bptree_keys.specs.declared.node_id.NodeId.TheVariants as kind
use Rattle.bptree_invariant.specs.NodeTree.{IsWhole, NodeTree}
use Rattle.bptree_invariant.specs.Order.{flat, Chain}
use Rattle.bptree_invariant.specs.Shape.{inner_keys, inner_children, pairs_at, IsTree, IsWellShaped}

module _ {C K V : Type 0} (cmp : K → K → Ordering) (f : C → List (K × V)) (P : C → Option K → Option K → Type 0) (b : ℕ) (each : (c : C) (lo hi : Option K) → P c lo hi → b ≤ length (f c)) where
  chain_long : (ks : List K) (cs : List C) (lo hi : Option K) → Chain cmp P ks cs lo hi → b + b * length ks ≤ length (flat f cs)
  chain_long ks [] lo hi h = absurd h
  chain_long [] (c ∷ []) lo hi h = omega (arith, each c lo hi h, length-append (f c) [])
  chain_long [] (c ∷ d ∷ cs) lo hi h = absurd h
  chain_long (k ∷ ks) (c ∷ cs) lo hi h = omega (arith, each c lo (Some k) h.0, chain_long ks cs (Some k) hi h.2, length-append (f c) (flat f cs))

module _ {K V A : Type 0} (cmp : K → K → Ordering) (slots : Slots (Inner K A) (Leaf K V)) where
  -- a tree below a root has at least 16 * 17 ^ h pairs
  pub tree_long : (h : ℕ) (id : NodeId) (lo hi : Option K) → IsTree cmp slots 16 h id lo hi → 16 * 17 ^ h ≤ length (pairs_at slots h id)
  tree_long zero (kind.Leaf id) lo hi t = omega (arith, t.3)
  tree_long zero (kind.Inner id) lo hi t = absurd t
  tree_long (suc h) (kind.Leaf id) lo hi t = absurd t
  tree_long (suc h) (kind.Inner id) lo hi t =
      let b = 16 * 17 ^ h in
      let c = chain_long cmp (pairs_at slots h) (IsTree cmp slots 16 h) b (λ c x y u. tree_long h c x y u) (inner_keys (slots.inner id.0)) (inner_children (slots.inner id.0)) lo hi t.1 in
      let d : b * 16 ≤ b * length (inner_keys (slots.inner id.0)) = mul-le-mul_left b t.2 in
      omega (arith, c, d)

module _ {K V A : Type 0} (cmp : K → K → Ordering) (is_summary : A → List K → Type 0) (slots : Slots (Inner K A) (Leaf K V)) where
  -- a tree with a root of a height above 0 has at least twice as many pairs as a tree one level
  -- below
  pub root_long : (h : ℕ) (root : NodeId) → IsWellShaped cmp is_summary slots (suc h) root → 32 * 17 ^ h ≤ length (pairs_at slots (suc h) root)
  root_long h (kind.Leaf id) w = absurd w.tree
  root_long h (kind.Inner id) w =
      let b = 16 * 17 ^ h in
      let c = chain_long cmp (pairs_at slots h) (IsTree cmp slots 16 h) b (λ c x y u. tree_long cmp slots h c x y u) (inner_keys (slots.inner id.0)) (inner_children (slots.inner id.0)) None None w.tree.1 in
      let d : b * 1 ≤ b * length (inner_keys (slots.inner id.0)) = mul-le-mul_left b w.tree.2 in
      omega (arith, c, d)

  -- no tree has more than 15 levels of inner nodes
  pub low_tree : (h : ℕ) (root : NodeId) → IsWellShaped cmp is_summary slots h root → length (pairs_at slots h root) < 2 ^ 64 → h ≤ 15
  low_tree zero root w few = omega arith
  low_tree (suc h) root w few =
      elim (cases_lt h 15) [
        | inl low ↦ omega arith
        | inr high ↦ absurd (let p : 17 ^ 15 ≤ 17 ^ h = pow-le-pow_right (omega arith) high in omega (arith, few, root_long h root w))
      ]

-- `low_tree` for the value of a tree in contracts
pub known_low : {S K V A : Type 0} {cmp : K → K → Ordering} {is_summary : A → List K → Type 0} (slots : S → Slots (Inner K A) (Leaf K V)) {tree : NodeTree S K V A} → IsWhole cmp is_summary slots tree → length tree.contents < 2 ^ 64 → tree.height ≤ 15
known_low {cmp = cmp} {is_summary} slots {tree} whole fits = low_tree cmp is_summary (slots tree.store) tree.height tree.root whole.shape (omega (arith, ap length whole.contents, fits))
