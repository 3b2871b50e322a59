-- Two sibling inner nodes are rebalanced: they rotate a child or merge.
use Rattle.std.proofs.Common.{◌≡◌, ℕ, suc, ◌+◌, ◌<◌, ◌≤◌, inl, inr, true, cond, List, [], ◌∷◌, ◌++◌, length, map, refl, sym, ap, subst, ◌∙◌, arith, Option, Some, eqb, length-append}
use Rattle.std.specs.declared.cmp.Ordering.{Ordering}
use Rattle.std.specs.Cmp.{IsTotalOrder}
use Rattle.std.specs.List.{AllByRecursion, AllZip}
use Rattle.std.specs.Map.{keys_of}
use Rattle.std.proofs.lemmas.Bool.{cases_eq, eq-eqb}
use Rattle.std.proofs.lemmas.Bool.Decides.{eqb_tells}
use Rattle.std.proofs.lemmas.List.{length-map, map-append}
use Rattle.bptree_nodes.specs.Inner.{Inner, merged_inner}
use Rattle.bptree_nodes.specs.Leaf.{Leaf}
use Rattle.bptree_nodes.specs.Slot.{Slot, Slots, Held, Present}
use Rattle.bptree_keys.specs.declared.node_id.InnerNodeId.{InnerNodeId}
use Rattle.bptree_keys.specs.declared.node_id.NodeId.{NodeId}
use Rattle.bptree_keys.specs.declared.node_id.NodeId.TheVariants as kind
use Rattle.bptree_keys.proofs.PieceLemmas.{AllByRecursion-append, AllByRecursion-left, AllByRecursion-right, AllZip-append, AllZip-left, AllZip-right, AllByRecursion-weaker}
use Rattle.bptree_rebalancing.specs.Rebalance.{RebalancesPair}
use Rattle.bptree_invariant.specs.Order.{flat, total, Between, Chain}
use Rattle.bptree_invariant.specs.Outcome.{Done, Split}
use Rattle.bptree_invariant.specs.Shape.{inner_keys, inner_children, pairs_at, leaves_at, leaf_count, inner_count, stored, IsTree, IsSummed}
use Rattle.bptree_rebalancing.specs.Transfer.{MovesChild, MergesInner}
use Rattle.bptree_rebalancing.specs.declared.rotate_merge.Sibling.{Sibling}
use Rattle.bptree_invariant.proofs.Agreeing.{stored_le, flat_same, total_same, map_same, each_keeps, Chain-so}
use Rattle.bptree_invariant.proofs.Frame.{Same, all_same}
use Rattle.bptree_invariant.proofs.Hinted.{total-append}
use Rattle.bptree_propagation.proofs.Lift.{chain_cut}
use Rattle.bptree_invariant.proofs.Ordered.{AtMost-up}
use Rattle.bptree_invariant.proofs.Walk.{flat-append}

-- two chains with a separator between them are one
pub chain_join : {C K : Type 0} {cmp : K → K → Ordering} (total' : IsTotalOrder cmp) (P : C → Option K → Option K → Type 0) (ks : List K) (s : K) (ls : List K) (cs ds : List C) (lo hi : Option K)
    → Chain cmp P ks cs lo (Some s) → Between cmp lo hi s → Chain cmp P ls ds (Some s) hi → Chain cmp P (ks ++ (s ∷ ls)) (cs ++ ds) lo hi
chain_join total' P ks s ls [] ds lo hi h b t = absurd h
chain_join total' P [] s ls (c ∷ []) ds lo hi h b t = (h, b, t)
chain_join total' P [] s ls (c ∷ d ∷ cs) ds lo hi h b t = absurd h
chain_join total' P (k ∷ ks) s ls (c ∷ cs) ds lo hi h b t =
    (h.0, (h.1.0, AtMost-up total' hi k s b.1 h.1.1), chain_join total' P ks s ls cs ds (Some k) hi h.2 (h.1.1, b.1) t)

module _ {K V A : Type 0} {cmp : K → K → Ordering} (total' : IsTotalOrder cmp) (is_summary : A → List K → Type 0) (now after : Slots (Inner K A) (Leaf K V)) (h : ℕ) (id left right : InnerNodeId) (one other one' : Inner K A) (s : K)
    (at_left : now.inner left.0 ≡ Present one) (at_right : now.inner right.0 ≡ Present other) (is_left : after.inner left.0 ≡ Present one')
    (inners : (n : ℕ) → (n ≡ id.0 → ⊥) → (n ≡ left.0 → ⊥) → (n ≡ right.0 → ⊥) → after.inner n ≡ now.inner n) (leaf : after.leaf ≡ now.leaf) (apart : (left.0 ≡ right.0 → ⊥) × (left.0 ≡ id.0 → ⊥) × (right.0 ≡ id.0 → ⊥))
    (own : (x : ℕ) → cond (eqb id.0 x) 1 0 + (inner_count now (suc h) (kind.Inner left) x + inner_count now (suc h) (kind.Inner right) x) ≤ stored (now.inner x)) where
  abbrev all : List NodeId
  all = one.children ++ other.children

  own_parts : (x : ℕ) → cond (eqb id.0 x) 1 0 + (cond (eqb left.0 x) 1 0 + (cond (eqb right.0 x) 1 0 + total (λ c. inner_count now h c x) all)) ≤ 1
  own_parts x = let o = rw (at_left, at_right) at (own x) in omega (arith, o, stored_le (now.inner x), total-append (λ c. inner_count now h c x) one.children other.children)

  inner_agrees : (x : ℕ) → 1 ≤ total (λ c. inner_count now h c x) all → after.inner x ≡ now.inner x
  inner_agrees x some =
      inners x
      (λ e. let q : eqb id.0 x ≡ true = eq-eqb id.0 x (sym e) in let o = rw q at (own_parts x) in omega arith)
      (λ e. let q : eqb left.0 x ≡ true = eq-eqb left.0 x (sym e) in let o = rw q at (own_parts x) in omega arith)
      (λ e. let q : eqb right.0 x ≡ true = eq-eqb right.0 x (sym e) in let o = rw q at (own_parts x) in omega arith)

  same_all : AllByRecursion (Same cmp is_summary now after h) all
  same_all = all_same cmp is_summary now after h all ((λ x some. ap (λ (f : ℕ → Slot (Leaf K V)). f x) leaf), inner_agrees)

  none_above : total (λ c. inner_count now h c id.0) all ≡ 0
  none_above = let o = own_parts id.0 in let q = rw (eq-eqb id.0 id.0 refl) at o in omega arith

  all_pairs : flat (pairs_at after h) all ≡ flat (pairs_at now h) one.children ++ flat (pairs_at now h) other.children
  all_pairs = flat_same (pairs_at now h) (pairs_at after h) all (AllByRecursion-weaker _ _ (λ c x. x.pairs) all same_all) ∙ flat-append (pairs_at now h) one.children other.children

  all_leaves : (x : ℕ) → total (λ c. leaf_count after h c x) all ≡ total (λ c. leaf_count now h c x) one.children + total (λ c. leaf_count now h c x) other.children
  all_leaves x = omega (arith, total_same (λ c. leaf_count now h c x) (λ c. leaf_count after h c x) all (AllByRecursion-weaker _ _ (λ c y. y.leaves x) all same_all), total-append (λ c. leaf_count now h c x) one.children other.children)

  all_inners : (x : ℕ) → total (λ c. inner_count after h c x) all ≡ total (λ c. inner_count now h c x) one.children + total (λ c. inner_count now h c x) other.children
  all_inners x = omega (arith, total_same (λ c. inner_count now h c x) (λ c. inner_count after h c x) all (AllByRecursion-weaker _ _ (λ c y. y.inners x) all same_all), total-append (λ c. inner_count now h c x) one.children other.children)

  all_order : flat (leaves_at after h) all ≡ flat (leaves_at now h) one.children ++ flat (leaves_at now h) other.children
  all_order = flat_same (leaves_at now h) (leaves_at after h) all (AllByRecursion-weaker _ _ (λ c x. x.order) all same_all) ∙ flat-append (leaves_at now h) one.children other.children

  leaf_stored : (x : ℕ) → stored (after.leaf x) ≡ stored (now.leaf x)
  leaf_stored x = ap (λ (f : ℕ → Slot (Leaf K V)). stored (f x)) leaf

  left_stored : stored (now.inner left.0) ≡ 1
  left_stored = ap stored at_left

  right_stored : stored (now.inner right.0) ≡ 1
  right_stored = ap stored at_right

  one_chain : (lo hi : Option K) → IsTree cmp now 15 (suc h) (kind.Inner left) lo hi → Chain cmp (IsTree cmp now 16 h) one.keys one.children lo hi × (15 ≤ length one.keys) × (length one.keys ≤ 64)
  one_chain lo hi t = let c = subst (λ (x : Slot (Inner K A)). Chain cmp (IsTree cmp now 16 h) (inner_keys x) (inner_children x) lo hi × (15 ≤ length (inner_keys x)) × (length (inner_keys x) ≤ 64)) at_left (t.1, t.2, t.3) in c

  other_chain : (lo hi : Option K) → IsTree cmp now 15 (suc h) (kind.Inner right) lo hi → Chain cmp (IsTree cmp now 16 h) other.keys other.children lo hi × (15 ≤ length other.keys) × (length other.keys ≤ 64)
  other_chain lo hi t = let c = subst (λ (x : Slot (Inner K A)). Chain cmp (IsTree cmp now 16 h) (inner_keys x) (inner_children x) lo hi × (15 ≤ length (inner_keys x)) × (length (inner_keys x) ≤ 64)) at_right (t.1, t.2, t.3) in c

  whole_chain : (lo hi : Option K) → IsTree cmp now 15 (suc h) (kind.Inner left) lo (Some s) → Between cmp lo hi s → IsTree cmp now 15 (suc h) (kind.Inner right) (Some s) hi → Chain cmp (IsTree cmp after 16 h) (one.keys ++ s ∷ other.keys) all lo hi
  whole_chain lo hi l b r =
      Chain-so cmp (IsTree cmp now 16 h) (IsTree cmp after 16 h) (one.keys ++ s ∷ other.keys) all lo hi (AllByRecursion-weaker _ _ (λ c x a b. x.tree 16 a b) all same_all)
      (chain_join total' (IsTree cmp now 16 h) one.keys s other.keys one.children other.children lo hi (one_chain lo (Some s) l).0 b (other_chain (Some s) hi r).0)

  whole_zip : IsSummed now is_summary (suc h) (kind.Inner left) → IsSummed now is_summary (suc h) (kind.Inner right)
      → AllZip is_summary (one.arguments ++ other.arguments) (map (λ c. keys_of (pairs_at after h c)) all) × AllByRecursion (IsSummed after is_summary h) all
  whole_zip l r =
      let first : AllZip is_summary one.arguments (map (λ c. keys_of (pairs_at now h c)) one.children) × AllByRecursion (IsSummed now is_summary h) one.children = rw at_left at l in
      let second : AllZip is_summary other.arguments (map (λ c. keys_of (pairs_at now h c)) other.children) × AllByRecursion (IsSummed now is_summary h) other.children = rw at_right at r in (
        subst (AllZip is_summary (one.arguments ++ other.arguments)) (sym (map_same (λ c. keys_of (pairs_at now h c)) (λ c. keys_of (pairs_at after h c)) all (AllByRecursion-weaker _ _ (λ c x. ap keys_of x.pairs) all same_all) ∙ map-append (λ c. keys_of (pairs_at now h c)) one.children other.children))
            (AllZip-append is_summary one.arguments (map (λ c. keys_of (pairs_at now h c)) one.children) other.arguments (map (λ c. keys_of (pairs_at now h c)) other.children) first.0 second.0),
        each_keeps (IsSummed now is_summary h) (IsSummed after is_summary h) all (AllByRecursion-weaker _ _ (λ c x. x.summed) all same_all) (AllByRecursion-append (IsSummed now is_summary h) one.children other.children first.1 second.1),
      )

  far_left : (n : ℕ) → inner_count now (suc h) (kind.Inner left) n ≡ 0 → n ≡ left.0 → ⊥
  far_left n none e = let q : eqb left.0 n ≡ true = eq-eqb left.0 n (sym e) in let z = rw q at none in omega arith

  far_right : (n : ℕ) → inner_count now (suc h) (kind.Inner right) n ≡ 0 → n ≡ right.0 → ⊥
  far_right n none e = let q : eqb right.0 n ≡ true = eq-eqb right.0 n (sym e) in let z = rw q at none in omega arith

  not_left : ◌≡◌ {A = ℕ} (cond (eqb left.0 id.0) 1 0) 0
  not_left = elim (eqb_tells left.0 id.0) [ inl e ↦ absurd (apart.1 e.1) | inr e ↦ rw e.0 refl ]

  not_right : ◌≡◌ {A = ℕ} (cond (eqb right.0 id.0) 1 0) 0
  not_right = elim (eqb_tells right.0 id.0) [ inl e ↦ absurd (apart.2 e.1) | inr e ↦ rw e.0 refl ]

  -- the two nodes merge
  module _ (emptied : Inner K A) (is_right : after.inner right.0 ≡ Held) (merges : MergesInner one s other one' emptied) (fits : length one.keys + length other.keys < 64) where
    is_merged : after.inner left.0 ≡ Present (merged_inner one s other)
    is_merged = is_left ∙ ap Present merges.left_is

    stored_merged : (n : ℕ) → (n ≡ id.0 → ⊥) → stored (now.inner n) ≡ cond (eqb right.0 n) 1 0 + stored (after.inner n)
    stored_merged n far =
        elim (eqb_tells right.0 n) [
          | inl e ↦ (let z : stored (now.inner n) ≡ 1 = ap (λ x. stored (now.inner x)) (sym e.1) ∙ right_stored in let y : stored (after.inner n) ≡ 0 = ap (λ x. stored (after.inner x)) (sym e.1) ∙ ap stored is_right in rw e.0 (omega arith))
          | inr e ↦ (rw e.0 (elim (eqb_tells left.0 n) [
            | inl l ↦ (let z : stored (now.inner n) ≡ 1 = ap (λ x. stored (now.inner x)) (sym l.1) ∙ left_stored in let y : stored (after.inner n) ≡ 1 = ap (λ x. stored (after.inner x)) (sym l.1) ∙ ap stored is_left in omega arith)
            | inr l ↦ (let z = ap stored (inners n far (λ q. l.1 (sym q)) (λ q. e.1 (sym q))) in omega arith)
          ]))
        ]

    pub order_merged : leaves_at after (suc h) (kind.Inner left) ≡ leaves_at now (suc h) (kind.Inner left) ++ leaves_at now (suc h) (kind.Inner right)
    order_merged = rw (is_merged, at_left, at_right) all_order

    pub inners_merged : RebalancesPair cmp is_summary now after (suc h) id.0 (kind.Inner left) s (kind.Inner right) Done
    inners_merged = record {
      tree = λ lo hi l b r.
          let x = one_chain lo (Some s) l in
          let y = other_chain (Some s) hi r in
          rw is_merged (tt, whole_chain lo hi l b r, omega (arith, x.1, y.1, length-append one.keys (s ∷ other.keys)), omega (arith, fits, length-append one.keys (s ∷ other.keys)));
      pairs = rw (is_merged, at_left, at_right) all_pairs;
      leaves = λ n. rw (is_merged, at_left, at_right) (omega (arith, all_leaves n, leaf_stored n));
      inners = λ n far. rw (is_merged, at_left, at_right) (omega (arith, all_inners n, stored_merged n far));
      above = rw is_merged (omega (arith, not_left, all_inners id.0, none_above, total-append (λ c. inner_count now h c id.0) one.children other.children));
      other_leaves = λ n l r. ap (λ (f : ℕ → Slot (Leaf K V)). f n) leaf;
      other_inners = λ n far l r. inners n far (far_left n l) (far_right n r);
      summed = λ l r. rw is_merged (whole_zip l r);
    }

  -- one node rotates a child to the other
  module _ (giver : Sibling) (other' : Inner K A) (u : K) (is_right : after.inner right.0 ≡ Present other') (moves : MovesChild giver one s other one' u other') (least : (16 ≤ length one'.keys) × (16 ≤ length other'.keys)) where
    stored_rotated : (n : ℕ) → (n ≡ id.0 → ⊥) → stored (after.inner n) ≡ stored (now.inner n)
    stored_rotated n far =
        elim (cases_eq n right.0) [
          | inl e ↦ (rw e (ap stored is_right ∙ sym right_stored))
          | inr r ↦ elim (cases_eq n left.0) [ inl e ↦ (rw e (ap stored is_left ∙ sym left_stored)) | inr l ↦ ap stored (inners n far l r) ]
        ]

    one_long : length one'.children ≡ length one'.keys + 1
    one_long = omega (arith, least.0, moves.left_fits.0.children)

    parted : (lo hi : Option K) → IsTree cmp now 15 (suc h) (kind.Inner left) lo (Some s) → Between cmp lo hi s → IsTree cmp now 15 (suc h) (kind.Inner right) (Some s) hi
        → Chain cmp (IsTree cmp after 16 h) one'.keys one'.children lo (Some u) × Between cmp lo hi u × Chain cmp (IsTree cmp after 16 h) other'.keys other'.children (Some u) hi
    parted lo hi l b r =
        chain_cut total' (IsTree cmp after 16 h) one'.keys u other'.keys one'.children other'.children lo hi
        (subst (λ cs. Chain cmp (IsTree cmp after 16 h) (one'.keys ++ u ∷ other'.keys) cs lo hi) (sym moves.children) (subst (λ ks. Chain cmp (IsTree cmp after 16 h) ks all lo hi) (sym moves.keys) (whole_chain lo hi l b r))) one_long

    pub order_rotated : leaves_at after (suc h) (kind.Inner left) ++ leaves_at after (suc h) (kind.Inner right) ≡ leaves_at now (suc h) (kind.Inner left) ++ leaves_at now (suc h) (kind.Inner right)
    order_rotated = rw (is_left, is_right, at_left, at_right) (sym (flat-append (leaves_at after h) one'.children other'.children) ∙ (ap (flat (leaves_at after h)) moves.children ∙ all_order))

    pub inners_rotated : RebalancesPair cmp is_summary now after (suc h) id.0 (kind.Inner left) s (kind.Inner right) (Split u (kind.Inner right))
    inners_rotated = record {
      tree = λ lo hi l b r.
          let p = parted lo hi l b r in
          rw (is_left, is_right) ((tt, p.0, least.0, moves.left_fits.0.keys), p.1, (tt, p.2, least.1, moves.right_fits.0.keys));
      pairs = rw (is_left, is_right, at_left, at_right) (sym (flat-append (pairs_at after h) one'.children other'.children) ∙ (ap (flat (pairs_at after h)) moves.children ∙ all_pairs));
      leaves = λ n. rw (is_left, is_right, at_left, at_right)
          (omega (arith, all_leaves n, leaf_stored n, total-append (λ c. leaf_count after h c n) one'.children other'.children, ap (total (λ c. leaf_count after h c n)) moves.children));
      inners = λ n far. rw (is_left, is_right, at_left, at_right)
          (omega (arith, all_inners n, stored_rotated n far, total-append (λ c. inner_count after h c n) one'.children other'.children, ap (total (λ c. inner_count after h c n)) moves.children));
      above = rw (is_left, is_right)
          (omega (
            arith,
            not_left,
            not_right,
            all_inners id.0,
            none_above,
            total-append (λ c. inner_count now h c id.0) one.children other.children,
            total-append (λ c. inner_count after h c id.0) one'.children other'.children,
            ap (total (λ c. inner_count after h c id.0)) moves.children,
          ));
      other_leaves = λ n l r. ap (λ (f : ℕ → Slot (Leaf K V)). f n) leaf;
      other_inners = λ n far l r. inners n far (far_left n l) (far_right n r);
      summed = λ l r.
          let w = whole_zip l r in
          let keys = λ (c : NodeId). keys_of (pairs_at after h c) in
          let zip : AllZip is_summary (one'.arguments ++ other'.arguments) (map keys one'.children ++ map keys other'.children) =
          subst (AllZip is_summary (one'.arguments ++ other'.arguments)) (ap (map keys) (sym moves.children) ∙ map-append keys one'.children other'.children) (subst (λ xs. AllZip is_summary xs (map keys all)) (sym moves.arguments) w.0) in
          let each : AllByRecursion (IsSummed after is_summary h) (one'.children ++ other'.children) = subst (AllByRecursion (IsSummed after is_summary h)) (sym moves.children) w.1 in
          let long : length one'.arguments ≡ length (map keys one'.children) = moves.left_fits.0.arguments ∙ sym (length-map one'.children keys) in
          rw (is_left, is_right) (
            (AllZip-left is_summary one'.arguments (map keys one'.children) other'.arguments (map keys other'.children) long zip, AllByRecursion-left (IsSummed after is_summary h) one'.children other'.children each),
            (AllZip-right is_summary one'.arguments (map keys one'.children) other'.arguments (map keys other'.children) long zip, AllByRecursion-right (IsSummed after is_summary h) one'.children other'.children each),
          );
    }
