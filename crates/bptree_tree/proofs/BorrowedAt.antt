-- A value is written at a slot of one leaf.
use Rattle.std.proofs.Common.{◌≡◌, ℕ, zero, suc, ◌+◌, ◌<◌, List, [], ◌∷◌, ◌++◌, length, refl, sym, ap, subst, ◌∙◌, arith, slice_get}
use Rattle.std.specs.declared.cmp.Ordering.{Ordering}
use Rattle.std.specs.Map.{keys_of, values_of}
use Rattle.bptree_nodes.specs.Inner.{Inner}
use Rattle.bptree_nodes.specs.Leaf.{Leaf, set_value_at}
use Rattle.bptree_nodes.specs.Slot.{Slot, Slots, Present, UpdatesLeaf}
use Rattle.bptree_keys.specs.declared.node_id.LeafNodeId.{LeafNodeId}
use Rattle.bptree_keys.specs.declared.node_id.NodeId.{NodeId}
use Rattle.bptree_invariant.specs.Leaves.{pairs_of, IsLeafOf}
use Rattle.bptree_invariant.specs.Shape.{leaf_pairs, pairs_at, IsWellShaped}
use Rattle.bptree_propagation.proofs.Borrowed.{keys_stay, set_keys, set_length, set_parts, set_shape}
use Rattle.bptree_invariant.proofs.Spot.{parts_of_read}

set_past : {K V : Type 0} (xs ys : List (K × V)) (i : ℕ) (v : V) → set_value_at (xs ++ ys) (length xs + i) v ≡ xs ++ set_value_at ys i v
set_past [] ys i v = let n : 0 + i ≡ i = omega arith in rw n refl
set_past (x ∷ xs) ys i v = let n : length (x ∷ xs) + i ≡ suc (length xs + i) = omega arith in rw n (ap (λ rest. x ∷ rest) (set_past xs ys i v))

set_early : {K V : Type 0} (xs ys : List (K × V)) (i : ℕ) (v : V) → i < length xs → set_value_at (xs ++ ys) i v ≡ set_value_at xs i v ++ ys
set_early [] ys i v within = absurd (omega arith)
set_early (x ∷ xs) ys zero v within = refl
set_early (x ∷ xs) ys (suc i) v within = let small : i < length xs = omega arith in ap (λ rest. x ∷ rest) (set_early xs ys i v small)

values_past : {K V : Type 0} (xs ys : List (K × V)) (i : ℕ) → slice_get (values_of (xs ++ ys)) (length xs + i) ≡ slice_get (values_of ys) i
values_past [] ys i = let n : 0 + i ≡ i = omega arith in rw n refl
values_past (x ∷ xs) ys i = let n : length (x ∷ xs) + i ≡ suc (length xs + i) = omega arith in rw n (values_past xs ys i)

values_early : {K V : Type 0} (xs ys : List (K × V)) (i : ℕ) → i < length xs → slice_get (values_of (xs ++ ys)) i ≡ slice_get (values_of xs) i
values_early [] ys i within = absurd (omega arith)
values_early (x ∷ xs) ys zero within = refl
values_early (x ∷ xs) ys (suc i) within = let small : i < length xs = omega arith in values_early xs ys i small

-- the value at a slot of a leaf is the one at the index in the whole
pub value_of_slot : {K V A : Type 0} (slots : Slots (Inner K A) (Leaf K V)) (h : ℕ) (root : NodeId) (leaf : LeafNodeId) (node : Leaf K V) → slots.leaf leaf.0 ≡ Present node → (in' : IsLeafOf slots h root leaf) (i : ℕ) → i < length node.pairs
    → slice_get (values_of (pairs_at slots h root)) (length (pairs_of slots in'.before) + i) ≡ slice_get (values_of node.pairs) i
value_of_slot slots h root leaf node e in' i within =
    ap (λ l. slice_get (values_of l) (length (pairs_of slots in'.before) + i)) (parts_of_read slots h root leaf in' node e)
    ∙ (values_past (pairs_of slots in'.before) (node.pairs ++ pairs_of slots in'.after) i ∙ values_early node.pairs (pairs_of slots in'.after) i within)

-- a slot that is within the leaf is within the node that was read
pub slot_within : {K V A : Type 0} (slots : Slots (Inner K A) (Leaf K V)) (leaf : LeafNodeId) (node : Leaf K V) (i : ℕ) → slots.leaf leaf.0 ≡ Present node → i < length (leaf_pairs (slots.leaf leaf.0)) → i < length node.pairs
slot_within {K} {V} slots leaf node i e within = subst (λ (x : Slot (Leaf K V)). i < length (leaf_pairs x)) e within

module _ {K V A : Type 0} (cmp : K → K → Ordering) (is_summary : A → List K → Type 0) (slots new : Slots (Inner K A) (Leaf K V)) (h : ℕ) (root : NodeId) (shape : IsWellShaped cmp is_summary slots h root)
    (leaf : LeafNodeId) (node : Leaf K V) (e : slots.leaf leaf.0 ≡ Present node) (in' : IsLeafOf slots h root leaf) (i : ℕ) (w : V)
    (updates : UpdatesLeaf slots new leaf.0 (Present (record node { pairs = set_value_at node.pairs i w }))) where
  -- if any value is written, the tree is well shaped, counted and summed up
  pub borrowed_right : (len : ℕ) → len ≡ length (pairs_at slots h root) → (a : A) → is_summary a (keys_of (pairs_at slots h root)) → IsWellShaped cmp is_summary new h root × (len ≡ length (pairs_at new h root)) × is_summary a (keys_of (pairs_at new h root))
  borrowed_right len counted a reported =
      let written = set_value_at node.pairs i w in
      let same = keys_stay node.pairs i w in (
        set_shape cmp is_summary slots new h root shape leaf node e in' written same updates,
        counted ∙ sym (set_length cmp is_summary slots new h root shape leaf node e in' written same updates),
        rw (set_keys cmp is_summary slots new h root shape leaf node e in' written same updates) reported,
      )

module _ {K V A : Type 0} (cmp : K → K → Ordering) (is_summary : A → List K → Type 0) (slots new : Slots (Inner K A) (Leaf K V)) (h : ℕ) (root : NodeId) (shape : IsWellShaped cmp is_summary slots h root)
    (leaf : LeafNodeId) (node : Leaf K V) (e : slots.leaf leaf.0 ≡ Present node) (in' : IsLeafOf slots h root leaf) (i : ℕ) (within : i < length node.pairs) (w : V)
    (updates : UpdatesLeaf slots new leaf.0 (Present (record node { pairs = set_value_at node.pairs i w }))) where
  -- the contents have that one value written
  pub set_pairs : pairs_at new h root ≡ set_value_at (pairs_at slots h root) (length (pairs_of slots in'.before) + i) w
  set_pairs =
      set_parts cmp is_summary slots new h root shape leaf node e in' (set_value_at node.pairs i w) (keys_stay node.pairs i w) updates
      ∙ sym (ap (λ l. set_value_at l (length (pairs_of slots in'.before) + i) w) (parts_of_read slots h root leaf in' node e)
      ∙ (set_past (pairs_of slots in'.before) (node.pairs ++ pairs_of slots in'.after) i w
      ∙ ap (λ rest. pairs_of slots in'.before ++ rest) (set_early node.pairs (pairs_of slots in'.after) i w within)))
