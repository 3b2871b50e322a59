-- A value is written in the leaf that holds its key.
use Rattle.std.proofs.Common.{◌≡◌, ◌≢◌, ℕ, zero, suc, inl, inr, true, false, cond, List, [], ◌∷◌, ◌++◌, length, refl, sym, ap, subst, ◌∙◌, arith, Option, Some, None, append-nil, eqb, is_some}
use mathlib.Core.Bool.{true≢false}
use Rattle.std.specs.declared.cmp.Ordering.{Ordering}
use Rattle.std.specs.declared.cmp.Ordering.TheVariants.{Less}
use Rattle.std.specs.Cmp.{IsTotalOrder}
use Rattle.std.specs.Map.{keys_of}
use Rattle.std.proofs.lemmas.Bool.Decides.{eqb_tells}
use Rattle.std.proofs.lemmas.Bool.{eq-eqb}
use Rattle.std.proofs.lemmas.Map.Entries.{length-keys_of}
use Rattle.bptree_keys.specs.Contents.{IsAscending, has, value}
use Rattle.bptree_nodes.specs.Inner.{Inner}
use Rattle.bptree_nodes.specs.Leaf.{Leaf, set_value_at}
use Rattle.bptree_nodes.specs.LeafResults.{HasEqualAt}
use Rattle.bptree_keys.specs.Indexes.{AllCompare}
use Rattle.bptree_nodes.specs.Slot.{Slots, Present, UpdatesLeaf}
use Rattle.bptree_keys.specs.declared.node_id.LeafNodeId.{LeafNodeId}
use Rattle.bptree_keys.specs.declared.node_id.NodeId.{NodeId}
use Rattle.bptree_keys.proofs.Around.{set_value_around}
use Rattle.bptree_keys.proofs.Equal.{has_where_value}
use Rattle.bptree_keys.proofs.Found.{hit_at}
use Rattle.bptree_nodes.proofs.LeafContents.{put_at_index}
use Rattle.bptree_keys.proofs.Parted.{has_past, has_hit}
use Rattle.bptree_keys.proofs.PieceLemmas.{AllByRecursion-left, AllByRecursion-right}
use Rattle.bptree_invariant.specs.Leaves.{pairs_of, IsLeafOf, IsLeafFor}
use Rattle.bptree_propagation.specs.Borrowing.{holder, written, store_written}
use Rattle.bptree_invariant.specs.Shape.{leaf_pairs, pairs_at, leaves_at, leaf_count, stored, IsWellShaped}
use Rattle.bptree_propagation.proofs.Alike.{AllAlike, shape_alike, keys_alike, leaves_alike}
use Rattle.bptree_invariant.proofs.Down.{pairs_of_leaves}
use Rattle.bptree_invariant.proofs.Hinted.{count_of, count_leaves, total-append}
use Rattle.bptree_invariant.proofs.Spot.{parts_of_read, leaf_ascends}
use Rattle.bptree_invariant.proofs.Walk.{flat-append}

pub keys_stay : {K V : Type 0} (ps : List (K × V)) (i : ℕ) (v : V) → keys_of (set_value_at ps i v) ≡ keys_of ps
keys_stay [] i v = refl
keys_stay (p ∷ ps) zero v = refl
keys_stay (p ∷ ps) (suc i) v = ap (λ more. p.0 ∷ more) (keys_stay ps i v)

-- leaves other than the written one read the same
pub pairs_apart : {K V A : Type 0} (old new : Slots (Inner K A) (Leaf K V)) (number : ℕ) → ((n : ℕ) → n ≢ number → new.leaf n ≡ old.leaf n) → (ids : List LeafNodeId) → count_of ids number ≡ 0 → pairs_of new ids ≡ pairs_of old ids
pairs_apart old new number others [] none = refl
pairs_apart old new number others (l ∷ ids) none =
    elim (eqb_tells l.0 number) [
      | inl same ↦ absurd (let e = same.0 in let z = rw e at none in omega arith)
      | inr other ↦ (let e = other.0 in let z = rw e at none in rw (others l.0 other.1, pairs_apart old new number others ids (omega (arith, z))) refl)
    ]

-- one leaf has new pairs of the same keys
module _ {K V A : Type 0} (cmp : K → K → Ordering) (is_summary : A → List K → Type 0) (slots new : Slots (Inner K A) (Leaf K V)) (h : ℕ) (root : NodeId) (shape : IsWellShaped cmp is_summary slots h root)
    (leaf : LeafNodeId) (node : Leaf K V) (e : slots.leaf leaf.0 ≡ Present node) (in' : IsLeafOf slots h root leaf) (ps : List (K × V)) (keys : keys_of ps ≡ keys_of node.pairs)
    (updates : UpdatesLeaf slots new leaf.0 (Present (record node { pairs = ps }))) where
  pub set_alike : AllAlike slots new
  set_alike = record {
    leaf = λ n.
        elim (eqb_tells n leaf.0) [
          | inl same ↦ (rw same.1 (rw (updates.leaf.changed, e) (record { keys = keys; prev = refl; next = refl; stored = refl; held = λ z. cc })))
          | inr other ↦ (rw (updates.leaf.others n other.1) (record { keys = refl; prev = refl; next = refl; stored = refl; held = λ z. z }))
        ];
    inner = updates.inner;
  }

  -- the tree stays well shaped
  pub set_shape : IsWellShaped cmp is_summary new h root
  set_shape = shape_alike cmp is_summary slots new set_alike h root shape

  pub set_keys : keys_of (pairs_at new h root) ≡ keys_of (pairs_at slots h root)
  set_keys = keys_alike cmp is_summary slots new set_alike h root

  pub set_leaves : leaves_at new h root ≡ leaves_at slots h root
  set_leaves = leaves_alike cmp is_summary slots new set_alike h root

  once : (count_of in'.before leaf.0 ≡ 0) × (count_of in'.after leaf.0 ≡ 0)
  once =
      let one : leaf_count slots h root leaf.0 ≡ 1 = shape.leaves leaf.0 ∙ ap stored e in
      let all = ap (λ ids. count_of ids leaf.0) in'.leaves in
      let parts = total-append (λ (l : LeafNodeId). cond (eqb l.0 leaf.0) 1 0) in'.before (leaf ∷ in'.after) in
      let here : ◌≡◌ {A = ℕ} (cond (eqb leaf.0 leaf.0) 1 0) 1 = rw (eq-eqb leaf.0 leaf.0 refl) refl in
      (omega (arith, one, count_leaves slots h root leaf.0, all, parts, here), omega (arith, one, count_leaves slots h root leaf.0, all, parts, here))

  -- the contents are the new pairs, between those of the leaves before and after the leaf
  pub set_parts : pairs_at new h root ≡ pairs_of slots in'.before ++ (ps ++ pairs_of slots in'.after)
  set_parts =
      sym (pairs_of_leaves new h root)
      ∙ (ap (pairs_of new) (set_leaves ∙ in'.leaves)
      ∙ (flat-append (λ (l : LeafNodeId). leaf_pairs (new.leaf l.0)) in'.before (leaf ∷ in'.after)
      ∙ rw (pairs_apart slots new leaf.0 updates.leaf.others in'.before once.0, pairs_apart slots new leaf.0 updates.leaf.others in'.after once.1, updates.leaf.changed) refl))

  pub set_length : length (pairs_at new h root) ≡ length (pairs_at slots h root)
  set_length = sym (length-keys_of (pairs_at new h root)) ∙ (ap length set_keys ∙ length-keys_of (pairs_at slots h root))

-- if each key compares as `Less`, no key equals `k`
none_there : {K V : Type 0} (cmp : K → K → Ordering) (k : K) (l : List (K × V)) → AllCompare cmp k Less l → has cmp l k ≡ false
none_there cmp k l all = rw (← append-nil l, has_past cmp k Less l [] refl all) refl

module _ {K V A : Type 0} (cmp : K → K → Ordering) (slots : Slots (Inner K A) (Leaf K V)) (k : K) where
  -- the holder of a key is the leaf that has it, if the leaves before it have smaller keys
  held_by : (before : List LeafNodeId) (leaf : LeafNodeId) (after : List LeafNodeId) → AllCompare cmp k Less (pairs_of slots before) → has cmp (leaf_pairs (slots.leaf leaf.0)) k ≡ true → holder cmp slots (before ++ leaf ∷ after) k ≡ Some leaf
  held_by [] leaf after smaller there = rw there refl
  held_by (l ∷ before) leaf after smaller there =
      let here = leaf_pairs (slots.leaf l.0) in
      rw (none_there cmp k here (AllByRecursion-left (λ p. cmp p.0 k ≡ Less) here (pairs_of slots before) smaller))
      (held_by before leaf after (AllByRecursion-right (λ p. cmp p.0 k ≡ Less) here (pairs_of slots before) smaller) there)

module _ {K V A : Type 0} {cmp : K → K → Ordering} (total : IsTotalOrder cmp) (is_summary : A → List K → Type 0) (slots new : Slots (Inner K A) (Leaf K V)) (h : ℕ) (root : NodeId)
    (shape : IsWellShaped cmp is_summary slots h root) (ascending : IsAscending cmp (pairs_at slots h root)) (k : K) (leaf : LeafNodeId) (node : Leaf K V) (e : slots.leaf leaf.0 ≡ Present node)
    (for' : IsLeafFor cmp slots h root k leaf) (i : ℕ) (found : HasEqualAt cmp node.pairs k i) where
  sorted : IsAscending cmp node.pairs
  sorted = leaf_ascends total slots h root leaf node for'.stored ascending e

  there : has cmp node.pairs k ≡ true
  there =
      by_pairs node.pairs refl
    where
      by_pairs : (ps : List (K × V)) → node.pairs ≡ ps → has cmp node.pairs k ≡ true
      by_pairs [] is = absurd (subst (λ l. HasEqualAt cmp l k i) is found)
      by_pairs (p ∷ ps) is = has_hit cmp node.pairs _ _ _ k (hit_at cmp total node.pairs sorted k i p found).1

  -- the leaf's pairs have the value written at the key
  pub written_at : (w : V) → set_value_at node.pairs i w ≡ written cmp k node.pairs w
  written_at w = put_at_index cmp total node.pairs sorted k i w found ∙ rw there refl

  pub holder_is : holder cmp slots (leaves_at slots h root) k ≡ Some leaf
  holder_is = rw for'.stored.leaves (held_by cmp slots k for'.stored.before leaf for'.stored.after for'.smaller (rw e there))

  -- the contents have the value written at the key
  pub borrowed_pairs : (w : V) → UpdatesLeaf slots new leaf.0 (Present (record node { pairs = set_value_at node.pairs i w })) → pairs_at new h root ≡ written cmp k (pairs_at slots h root) w
  borrowed_pairs w updates =
      set_parts cmp is_summary slots new h root shape leaf node e for'.stored (set_value_at node.pairs i w) (keys_stay node.pairs i w) updates
      ∙ rw (written_at w)
      (sym (ap (λ l. written cmp k l w) (parts_of_read slots h root leaf for'.stored node e)
      ∙ set_value_around cmp k (pairs_of slots for'.stored.before) node.pairs (pairs_of slots for'.stored.after) for'.smaller for'.greater w))

-- the store has the value written at the key
module _ {S K V A : Type 0} {cmp : K → K → Ordering} (total : IsTotalOrder cmp) (is_summary : A → List K → Type 0) (slots : S → Slots (Inner K A) (Leaf K V)) (with_leaf : S → ℕ → Leaf K V → S) (store : S) (h : ℕ) (root : NodeId)
    (ascending : IsAscending cmp (pairs_at (slots store) h root)) (k : K) (leaf : LeafNodeId) (node : Leaf K V) (e : (slots store).leaf leaf.0 ≡ Present node)
    (for' : IsLeafFor cmp (slots store) h root k leaf) (i : ℕ) (found : HasEqualAt cmp node.pairs k i) (shape : IsWellShaped cmp is_summary (slots store) h root) where
  pub borrowed_store : (w : V) → with_leaf store leaf.0 (record node { pairs = set_value_at node.pairs i w }) ≡ store_written cmp slots with_leaf store (holder cmp (slots store) (leaves_at (slots store) h root) k) k w
  borrowed_store w =
      rw (holder_is total is_summary (slots store) (slots store) h root shape ascending k leaf node e for' i found, e)
      (ap (λ ps. with_leaf store leaf.0 (record node { pairs = ps })) (written_at total is_summary (slots store) (slots store) h root shape ascending k leaf node e for' i found w))

-- if no key equals `k`, there is no value at `k`
pub none_if_absent : {K V : Type 0} (cmp : K → K → Ordering) (l : List (K × V)) (k : K) → has cmp l k ≡ false → value cmp l k ≡ None
none_if_absent cmp l k absent = by_value (value cmp l k) (has_where_value cmp l k ∙ absent)
  where
    by_value : {V : Type 0} (o : Option V) → is_some o ≡ false → o ≡ None
    by_value None e = refl
    by_value (Some v) e = absurd (true≢false e)
