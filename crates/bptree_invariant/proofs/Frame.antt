-- A tree is the same in two stores that agree at the node ids that it reaches.
use Rattle.std.proofs.Common.{◌≡◌, ℕ, zero, suc, ◌+◌, ◌<◌, ◌≤◌, cond, List, [], ◌∷◌, length, get_or, refl, ap, sym, subst, arith, Option, eqb}
use Rattle.std.specs.declared.cmp.Ordering.{Ordering}
use Rattle.std.specs.List.{AllByRecursion}
use Rattle.std.specs.Map.{keys_of}
use Rattle.std.proofs.lemmas.Bool.{eq-eqb}
use Rattle.bptree_keys.specs.Contents.{IsAscending}
use Rattle.bptree_nodes.specs.Inner.{Inner}
use Rattle.bptree_nodes.specs.Leaf.{Leaf}
use Rattle.bptree_nodes.specs.Slot.{Slot, Slots, IsPresent}
use Rattle.bptree_keys.specs.declared.node_id.InnerNodeId.{InnerNodeId}
use Rattle.bptree_keys.specs.declared.node_id.LeafNodeId.{LeafNodeId}
use Rattle.bptree_keys.specs.declared.node_id.NodeId.{NodeId}
use Rattle.bptree_keys.specs.declared.node_id.NodeId.TheVariants as kind
use Rattle.bptree_keys.proofs.PieceLemmas.{AllByRecursion-weaker}
use Rattle.bptree_invariant.specs.Order.{total, Within}
use Rattle.bptree_invariant.specs.Shape.{leaf_pairs, inner_keys, inner_children, pairs_at, leaves_at, leaf_count, inner_count, stored, IsTree, IsSummed}
use Rattle.bptree_invariant.proofs.Agreeing.{stored_le, present_if_stored, flat_same, total_same, map_same, each_keeps, Chain-so}

-- P holds of each member but the one at index i
abbrev pub EachBut : {X : Type 0} → (X → Type 0) → List X → ℕ → Type 0
EachBut P [] i = Unit {0}
EachBut P (x ∷ xs) zero = AllByRecursion P xs
EachBut P (x ∷ xs) (suc i) = P x × EachBut P xs i

pub in_total : {X : Type 0} (f : X → ℕ) (xs : List X) (i : ℕ) (d : X) → i < length xs → f (get_or xs i d) ≤ total f xs
in_total f [] i d h = absurd (omega arith)
in_total f (x ∷ xs) zero d h = omega arith
in_total f (x ∷ xs) (suc i) d h = omega (arith, in_total f xs i d (omega arith))

pub but_so : {X : Type 0} (P Q : X → Type 0) → ((x : X) → P x → Q x) → (xs : List X) (i : ℕ) → EachBut P xs i → EachBut Q xs i
but_so P Q so [] i a = tt
but_so P Q so (x ∷ xs) zero a = AllByRecursion-weaker P Q so xs a
but_so P Q so (x ∷ xs) (suc i) a = (so x a.0, but_so P Q so xs i a.1)

module _ {K V A : Type 0} (cmp : K → K → Ordering) (is_summary : A → List K → Type 0) (old new : Slots (Inner K A) (Leaf K V)) where
  -- the tree is the same in both stores
  pub record Same (h : ℕ) (id : NodeId) : Type 0 where
    pub pairs : pairs_at new h id ≡ pairs_at old h id
    pub order : leaves_at new h id ≡ leaves_at old h id
    pub tree : (least : ℕ) (lo hi : Option K) → IsTree cmp old least h id lo hi → IsTree cmp new least h id lo hi
    pub leaves : (n : ℕ) → leaf_count new h id n ≡ leaf_count old h id n
    pub inners : (n : ℕ) → inner_count new h id n ≡ inner_count old h id n
    pub summed : IsSummed old is_summary h id → IsSummed new is_summary h id

  -- the stores agree at the node ids that some trees reach
  abbrev pub Agrees : ℕ → List NodeId → Type 0
  Agrees h cs =
      ((n : ℕ) → 1 ≤ total (λ c. leaf_count old h c n) cs → new.leaf n ≡ old.leaf n)
      × ((n : ℕ) → 1 ≤ total (λ c. inner_count old h c n) cs → new.inner n ≡ old.inner n)

  abbrev pub AgreesAt : ℕ → NodeId → Type 0
  AgreesAt h id =
      ((n : ℕ) → 1 ≤ leaf_count old h id n → new.leaf n ≡ old.leaf n) × ((n : ℕ) → 1 ≤ inner_count old h id n → new.inner n ≡ old.inner n)

  same_each : (h : ℕ) → ((id : NodeId) → AgreesAt h id → Same h id) → (cs : List NodeId) → Agrees h cs → AllByRecursion (Same h) cs
  same_each h below [] a = tt
  same_each h below (c ∷ cs) a = (
    below c ((λ n some. a.0 n (omega arith)), (λ n some. a.1 n (omega arith))),
    same_each h below cs ((λ n some. a.0 n (omega arith)), (λ n some. a.1 n (omega arith))),
  )

  same_leaf : (id : LeafNodeId) → AgreesAt 0 (kind.Leaf id) → Same 0 (kind.Leaf id)
  same_leaf id a =
      let e : new.leaf id.0 ≡ old.leaf id.0 = a.0 id.0 (rw (eq-eqb id.0 id.0 refl) (omega arith)) in
      record {
        pairs = ap leaf_pairs e;
        order = refl;
        tree = λ least lo hi t.
            subst (λ (x : Slot (Leaf K V)). IsPresent x × AllByRecursion (λ p. Within cmp lo hi p.0) (leaf_pairs x) × IsAscending cmp (leaf_pairs x) × (least ≤ length (leaf_pairs x)) × (length (leaf_pairs x) ≤ 64)) (sym e) t;
        leaves = λ n. refl;
        inners = λ n. refl;
        summed = λ s. s;
      }

  -- the tree of a node is the same if the node is, and if the tree of each child is
  pub same_inner : (h : ℕ) (id : InnerNodeId) → new.inner id.0 ≡ old.inner id.0 → AllByRecursion (Same h) (inner_children (old.inner id.0)) → Same (suc h) (kind.Inner id)
  same_inner h id e all =
      let cs = inner_children (old.inner id.0) in
      record {
        pairs = rw e (flat_same (pairs_at old h) (pairs_at new h) cs (AllByRecursion-weaker _ _ (λ c s. s.pairs) cs all));
        order = rw e (flat_same (leaves_at old h) (leaves_at new h) cs (AllByRecursion-weaker _ _ (λ c s. s.order) cs all));
        tree = λ least lo hi t.
            rw e (
              t.0,
              Chain-so cmp (IsTree cmp old 16 h) (IsTree cmp new 16 h) (inner_keys (old.inner id.0)) cs lo hi (AllByRecursion-weaker _ _ (λ c s a b. s.tree 16 a b) cs all) t.1,
              t.2,
              t.3,
            );
        leaves = λ n. rw e (total_same (λ c. leaf_count old h c n) (λ c. leaf_count new h c n) cs (AllByRecursion-weaker _ _ (λ c s. s.leaves n) cs all));
        inners = λ n. rw e (ap (λ x. cond (eqb id.0 n) 1 0 + x) (total_same (λ c. inner_count old h c n) (λ c. inner_count new h c n) cs (AllByRecursion-weaker _ _ (λ c s. s.inners n) cs all)));
        summed = λ s.
            rw e (
              rw (map_same (λ c. keys_of (pairs_at old h c)) (λ c. keys_of (pairs_at new h c)) cs (AllByRecursion-weaker _ _ (λ c s. ap keys_of s.pairs) cs all)) s.0,
              each_keeps (IsSummed old is_summary h) (IsSummed new is_summary h) cs (AllByRecursion-weaker _ _ (λ c s. s.summed) cs all) s.1,
            );
      }

  pub same : (h : ℕ) (id : NodeId) → AgreesAt h id → Same h id
  same zero (kind.Leaf id) a = same_leaf id a
  same zero (kind.Inner id) a = record { pairs = refl; order = refl; tree = λ least lo hi t. t; leaves = λ n. refl; inners = λ n. refl; summed = λ s. s }
  same (suc h) (kind.Leaf id) a = record { pairs = refl; order = refl; tree = λ least lo hi t. t; leaves = λ n. refl; inners = λ n. refl; summed = λ s. s }
  same (suc h) (kind.Inner id) a =
      same_inner h id (a.1 id.0 (rw (eq-eqb id.0 id.0 refl) (omega arith)))
      (same_each h (same h) (inner_children (old.inner id.0)) ((λ n some. a.0 n some), (λ n some. a.1 n (omega arith))))

  pub all_same : (h : ℕ) (cs : List NodeId) → Agrees h cs → AllByRecursion (Same h) cs
  all_same h cs a = same_each h (same h) cs a

  -- if one of several trees may have changed, and they share no node id, the others are the same
  pub others_same : (h : ℕ) (cs : List NodeId) (i : ℕ) (d : NodeId) → i < length cs
      → ((n : ℕ) → total (λ c. leaf_count old h c n) cs ≤ stored (old.leaf n)) → ((n : ℕ) → total (λ c. inner_count old h c n) cs ≤ stored (old.inner n))
      → ((n : ℕ) → leaf_count old h (get_or cs i d) n ≡ 0 → IsPresent (old.leaf n) → new.leaf n ≡ old.leaf n)
      → ((n : ℕ) → inner_count old h (get_or cs i d) n ≡ 0 → IsPresent (old.inner n) → new.inner n ≡ old.inner n)
      → EachBut (Same h) cs i
  others_same h [] i d below l m a b = tt
  others_same h (c ∷ cs) zero d below l m a b =
      all_same h cs (
        (λ n some. a n (omega (arith, l n, stored_le (old.leaf n))) (present_if_stored (old.leaf n) (omega (arith, l n)))),
        (λ n some. b n (omega (arith, m n, stored_le (old.inner n))) (present_if_stored (old.inner n) (omega (arith, m n)))),
      )
  others_same h (c ∷ cs) (suc i) d below l m a b = (
    same h c (
      (λ n some. a n (omega (arith, l n, stored_le (old.leaf n), in_total (λ c. leaf_count old h c n) cs i d (omega arith))) (present_if_stored (old.leaf n) (omega (arith, l n)))),
      (λ n some. b n (omega (arith, m n, stored_le (old.inner n), in_total (λ c. inner_count old h c n) cs i d (omega arith))) (present_if_stored (old.inner n) (omega (arith, m n)))),
    ),
    others_same h cs i d (omega arith) (λ n. omega (arith, l n)) (λ n. omega (arith, m n)) a b,
  )
