-- If leaves differ only in values, the tree keeps its shape and its keys.
use Rattle.std.proofs.Common.{◌≡◌, ℕ, zero, suc, ◌+◌, List, [], ◌∷◌, length, map, refl, sym, ap, subst, ◌∙◌, arith, Option, Some, None, cond, eqb}
use Rattle.std.specs.declared.cmp.Ordering.{Ordering}
use Rattle.std.specs.List.{AllByRecursion}
use Rattle.std.specs.Map.{keys_of}
use Rattle.std.proofs.lemmas.Map.Entries.{length-keys_of}
use Rattle.bptree_keys.specs.Pieces.{flatten}
use Rattle.bptree_keys.proofs.Ascending.{all_keys, all_pairs}
use Rattle.bptree_nodes.specs.Inner.{Inner}
use Rattle.bptree_nodes.specs.Leaf.{Leaf}
use Rattle.bptree_nodes.specs.Slot.{Slot, Slots, Held}
use Rattle.bptree_keys.specs.declared.node_id.LeafNodeId.{LeafNodeId}
use Rattle.bptree_keys.specs.declared.node_id.NodeId.{NodeId}
use Rattle.bptree_keys.specs.declared.node_id.NodeId.TheVariants as kind
use Rattle.bptree_invariant.specs.Order.{Within}
use Rattle.bptree_invariant.specs.Shape.{leaf_pairs, leaf_prev, leaf_next, inner_keys, inner_children, pairs_at, leaves_at, leaf_count, inner_count, stored, AreLinked, IsSummed, IsTree, IsWellShaped, root_least}
use Rattle.bptree_invariant.proofs.Agreeing.{present_if_stored, stored_if_present, flat_same, total_same, map_same, each_keeps, Chain-so}
use Rattle.bptree_invariant.proofs.NodePieces.{keys_of_flat}

-- both slots are free, both are held, or both have leaves of the same keys and links
pub record AreAlike {K V : Type 0} (old new : Slot (Leaf K V)) : Type 0 where
  pub keys : keys_of (leaf_pairs new) ≡ keys_of (leaf_pairs old)
  pub prev : leaf_prev new ≡ leaf_prev old
  pub next : leaf_next new ≡ leaf_next old
  pub stored : stored new ≡ stored old
  pub held : new ≡ Held → old ≡ Held

-- what holds of every value holds of each member of a list
pub every : {X : Type 0} (P : X → Type 0) → ((x : X) → P x) → (xs : List X) → AllByRecursion P xs
every P all [] = tt
every P all (x ∷ xs) = (all x, every P all xs)

module _ {K V A : Type 0} (cmp : K → K → Ordering) (is_summary : A → List K → Type 0) (inner : ℕ → Slot (Inner K A)) (old new : ℕ → Slot (Leaf K V)) (alike : (n : ℕ) → AreAlike (old n) (new n)) where
  abbrev was : Slots (Inner K A) (Leaf K V)
  was = record { inner = inner; leaf = old }

  abbrev now : Slots (Inner K A) (Leaf K V)
  now = record { inner = inner; leaf = new }

  sums_same : (h : ℕ) → ((id : NodeId) → keys_of (pairs_at now h id) ≡ keys_of (pairs_at was h id)) → (cs : List NodeId) → map (λ c. keys_of (pairs_at now h c)) cs ≡ map (λ c. keys_of (pairs_at was h c)) cs
  sums_same h each cs = map_same (λ c. keys_of (pairs_at was h c)) (λ c. keys_of (pairs_at now h c)) cs (every _ each cs)

  -- the keys of the tree stay
  pub keys_same : (h : ℕ) (id : NodeId) → keys_of (pairs_at now h id) ≡ keys_of (pairs_at was h id)
  keys_same zero (kind.Leaf id) = (alike id.0).keys
  keys_same zero (kind.Inner id) = refl
  keys_same (suc h) (kind.Leaf id) = refl
  keys_same (suc h) (kind.Inner id) =
      let cs = inner_children (inner id.0) in keys_of_flat (pairs_at now h) cs ∙ (ap flatten (sums_same h (keys_same h) cs) ∙ sym (keys_of_flat (pairs_at was h) cs))

  pub leaves_same : (h : ℕ) (id : NodeId) → leaves_at now h id ≡ leaves_at was h id
  leaves_same zero (kind.Leaf id) = refl
  leaves_same zero (kind.Inner id) = refl
  leaves_same (suc h) (kind.Leaf id) = refl
  leaves_same (suc h) (kind.Inner id) = let cs = inner_children (inner id.0) in flat_same (leaves_at was h) (leaves_at now h) cs (every _ (leaves_same h) cs)

  pub leaf_counts_same : (h : ℕ) (id : NodeId) (n : ℕ) → leaf_count now h id n ≡ leaf_count was h id n
  leaf_counts_same zero (kind.Leaf id) n = refl
  leaf_counts_same zero (kind.Inner id) n = refl
  leaf_counts_same (suc h) (kind.Leaf id) n = refl
  leaf_counts_same (suc h) (kind.Inner id) n = let cs = inner_children (inner id.0) in total_same (λ c. leaf_count was h c n) (λ c. leaf_count now h c n) cs (every _ (λ c. leaf_counts_same h c n) cs)

  pub inner_counts_same : (h : ℕ) (id : NodeId) (n : ℕ) → inner_count now h id n ≡ inner_count was h id n
  inner_counts_same zero (kind.Leaf id) n = refl
  inner_counts_same zero (kind.Inner id) n = refl
  inner_counts_same (suc h) (kind.Leaf id) n = refl
  inner_counts_same (suc h) (kind.Inner id) n =
      let cs = inner_children (inner id.0) in ap (λ m. cond (eqb id.0 n) 1 0 + m) (total_same (λ c. inner_count was h c n) (λ c. inner_count now h c n) cs (every _ (λ c. inner_counts_same h c n) cs))

  leaf_same : (least : ℕ) (id : LeafNodeId) (lo hi : Option K) → IsTree cmp was least 0 (kind.Leaf id) lo hi → IsTree cmp now least 0 (kind.Leaf id) lo hi
  leaf_same least id lo hi t =
      let a = alike id.0 in
      let long : length (leaf_pairs (new id.0)) ≡ length (leaf_pairs (old id.0)) = sym (length-keys_of (leaf_pairs (new id.0))) ∙ (ap length a.keys ∙ length-keys_of (leaf_pairs (old id.0))) in
      let P : K → Type 0 = Within cmp lo hi in (
        present_if_stored (new id.0) (omega (arith, a.stored, stored_if_present (old id.0) t.0)),
        all_pairs P P (λ key within. within) (leaf_pairs (new id.0)) (rw a.keys (all_keys P P (λ key within. within) (leaf_pairs (old id.0)) t.1)),
        rw a.keys t.2,
        rw long t.3,
        rw long t.4,
      )

  -- the tree stays a tree of the same bounds
  pub tree_same : (least h : ℕ) (id : NodeId) (lo hi : Option K) → IsTree cmp was least h id lo hi → IsTree cmp now least h id lo hi
  tree_same least zero (kind.Leaf id) lo hi t = leaf_same least id lo hi t
  tree_same least zero (kind.Inner id) lo hi t = absurd t
  tree_same least (suc h) (kind.Leaf id) lo hi t = absurd t
  tree_same least (suc h) (kind.Inner id) lo hi t =
      let cs = inner_children (inner id.0) in
      (t.0, Chain-so cmp (IsTree cmp was 16 h) (IsTree cmp now 16 h) (inner_keys (inner id.0)) cs lo hi (every _ (λ c a b u. tree_same 16 h c a b u) cs) t.1, t.2, t.3)

  -- the summaries stay right
  pub summed_same : (h : ℕ) (id : NodeId) → IsSummed was is_summary h id → IsSummed now is_summary h id
  summed_same zero id s = tt
  summed_same (suc h) (kind.Leaf id) s = tt
  summed_same (suc h) (kind.Inner id) s =
      let cs = inner_children (inner id.0) in (rw (sums_same h (keys_same h) cs) s.0, each_keeps (IsSummed was is_summary h) (IsSummed now is_summary h) cs (every _ (summed_same h) cs) s.1)

  linked_same : (p : Option LeafNodeId) (ids : List LeafNodeId) (q : Option LeafNodeId) → AreLinked was p ids q → AreLinked now p ids q
  linked_same p [] q l = tt
  linked_same p (x ∷ []) q l = ((alike x.0).prev ∙ l.0, (alike x.0).next ∙ l.1)
  linked_same p (x ∷ y ∷ ys) q l = ((alike x.0).prev ∙ l.0, (alike x.0).next ∙ l.1, linked_same (Some x) (y ∷ ys) q l.2)

  -- the tree stays well shaped
  pub shape_same : (h : ℕ) (root : NodeId) → IsWellShaped cmp is_summary was h root → IsWellShaped cmp is_summary now h root
  shape_same h root w = record {
    tree = tree_same (root_least h) h root None None w.tree;
    leaves = λ n. leaf_counts_same h root n ∙ (w.leaves n ∙ sym (alike n).stored);
    inners = λ n. inner_counts_same h root n ∙ w.inners n;
    no_leaf_held = λ n held. w.no_leaf_held n ((alike n).held held);
    no_inner_held = w.no_inner_held;
    summed = summed_same h root w.summed;
    linked = rw (leaves_same h root) (linked_same None (leaves_at was h root) None w.linked);
  }

-- the leaves of two stores are alike, and the inner nodes are the same
pub record AllAlike {K V A : Type 0} (old new : Slots (Inner K A) (Leaf K V)) : Type 0 where
  pub leaf : (n : ℕ) → AreAlike (old.leaf n) (new.leaf n)
  pub inner : new.inner ≡ old.inner

module _ {K V A : Type 0} where
  pub alike_itself : (slots : Slots (Inner K A) (Leaf K V)) → AllAlike slots slots
  alike_itself slots = record { leaf = λ n. record { keys = refl; prev = refl; next = refl; stored = refl; held = λ z. z }; inner = refl }

  pub alike_over : (old mid new : Slots (Inner K A) (Leaf K V)) → AllAlike old mid → AllAlike mid new → AllAlike old new
  alike_over old mid new one two = record {
    leaf = λ n. record {
      keys = (two.leaf n).keys ∙ (one.leaf n).keys;
      prev = (two.leaf n).prev ∙ (one.leaf n).prev;
      next = (two.leaf n).next ∙ (one.leaf n).next;
      stored = (two.leaf n).stored ∙ (one.leaf n).stored;
      held = λ z. (one.leaf n).held ((two.leaf n).held z);
    };
    inner = two.inner ∙ one.inner;
  }

module _ {K V A : Type 0} (cmp : K → K → Ordering) (is_summary : A → List K → Type 0) (old new : Slots (Inner K A) (Leaf K V)) (alike : AllAlike old new) (h : ℕ) (root : NodeId) where
  -- the tree stays well shaped
  pub shape_alike : IsWellShaped cmp is_summary old h root → IsWellShaped cmp is_summary new h root
  shape_alike shape =
      subst (λ (f : ℕ → Slot (Inner K A)). IsWellShaped cmp is_summary (record { inner = f; leaf = new.leaf }) h root) (sym alike.inner)
      (shape_same cmp is_summary old.inner old.leaf new.leaf alike.leaf h root shape)

  pub keys_alike : keys_of (pairs_at new h root) ≡ keys_of (pairs_at old h root)
  keys_alike =
      subst (λ (f : ℕ → Slot (Inner K A)). keys_of (pairs_at (record { inner = f; leaf = new.leaf }) h root) ≡ keys_of (pairs_at old h root)) (sym alike.inner)
      (keys_same cmp is_summary old.inner old.leaf new.leaf alike.leaf h root)

  pub leaves_alike : leaves_at new h root ≡ leaves_at old h root
  leaves_alike =
      subst (λ (f : ℕ → Slot (Inner K A)). leaves_at (record { inner = f; leaf = new.leaf }) h root ≡ leaves_at old h root) (sym alike.inner)
      (leaves_same cmp is_summary old.inner old.leaf new.leaf alike.leaf h root)
