-- A tree in a store: functions of the slots at its node ids, by recursion on its height.
use Rattle.std.specs.Prelude.{◌≡◌, ℕ, zero, suc, ◌+◌, ◌≤◌, ◌==◌, cond, false, List, [], ◌∷◌, length, map, Option, Some, None}
use Rattle.std.specs.declared.cmp.Ordering.{Ordering}
use Rattle.std.specs.List.{AllByRecursion, AllZip}
use Rattle.std.specs.Map.{keys_of}
use Rattle.bptree_keys.specs.Contents.{IsAscending, has, value}
use Rattle.bptree_nodes.specs.Inner.{Inner}
use Rattle.bptree_nodes.specs.Leaf.{Leaf}
use Rattle.bptree_nodes.specs.Slot.{Slot, Slots, Free, Held, Present, IsPresent}
use Rattle.bptree_keys.specs.declared.node_id.LeafNodeId.{LeafNodeId}
use Rattle.bptree_keys.specs.declared.node_id.NodeId.{NodeId}
use Rattle.bptree_keys.specs.declared.node_id.NodeId.TheVariants as kind
use Rattle.bptree_invariant.specs.Order.{flat, total, Within, Chain}

module _ {K V : Type 0} where
  -- the pairs and the links of a leaf; nothing if the slot has no node
  abbrev pub leaf_pairs : Slot (Leaf K V) → List (K × V)
  leaf_pairs Free = []
  leaf_pairs Held = []
  leaf_pairs (Present leaf) = leaf.pairs

  abbrev pub leaf_prev : Slot (Leaf K V) → Option LeafNodeId
  leaf_prev Free = None
  leaf_prev Held = None
  leaf_prev (Present leaf) = leaf.prev

  abbrev pub leaf_next : Slot (Leaf K V) → Option LeafNodeId
  leaf_next Free = None
  leaf_next Held = None
  leaf_next (Present leaf) = leaf.next

module _ {K A : Type 0} where
  -- the keys, the children and the arguments of an inner node; nothing if the slot has no node
  abbrev pub inner_keys : Slot (Inner K A) → List K
  inner_keys Free = []
  inner_keys Held = []
  inner_keys (Present node) = node.keys

  abbrev pub inner_children : Slot (Inner K A) → List NodeId
  inner_children Free = []
  inner_children Held = []
  inner_children (Present node) = node.children

  abbrev pub inner_arguments : Slot (Inner K A) → List A
  inner_arguments Free = []
  inner_arguments Held = []
  inner_arguments (Present node) = node.arguments

-- 1 if the slot has a node, and otherwise 0
abbrev pub stored : {N : Type 0} → Slot N → ℕ
stored Free = 0
stored Held = 0
stored (Present node) = 1

module _ {K V A : Type 0} (slots : Slots (Inner K A) (Leaf K V)) where
  -- the pairs of the tree of a height at a node id, in order
  abbrev pub pairs_at : ℕ → NodeId → List (K × V)
  pairs_at zero (kind.Leaf id) = leaf_pairs (slots.leaf id.0)
  pairs_at zero (kind.Inner id) = []
  pairs_at (suc h) (kind.Inner id) = flat (pairs_at h) (inner_children (slots.inner id.0))
  pairs_at (suc h) (kind.Leaf id) = []

  -- the ids of the tree's leaves, in order
  abbrev pub leaves_at : ℕ → NodeId → List LeafNodeId
  leaves_at zero (kind.Leaf id) = id ∷ []
  leaves_at zero (kind.Inner id) = []
  leaves_at (suc h) (kind.Inner id) = flat (leaves_at h) (inner_children (slots.inner id.0))
  leaves_at (suc h) (kind.Leaf id) = []

  -- how often the tree reaches the id of a leaf, or that of an inner node
  abbrev pub leaf_count : ℕ → NodeId → ℕ → ℕ
  leaf_count zero (kind.Leaf id) n = cond (id.0 == n) 1 0
  leaf_count zero (kind.Inner id) n = 0
  leaf_count (suc h) (kind.Inner id) n = total (λ c. leaf_count h c n) (inner_children (slots.inner id.0))
  leaf_count (suc h) (kind.Leaf id) n = 0

  abbrev pub inner_count : ℕ → NodeId → ℕ → ℕ
  inner_count zero id n = 0
  inner_count (suc h) (kind.Inner id) n = cond (id.0 == n) 1 0 + total (λ c. inner_count h c n) (inner_children (slots.inner id.0))
  inner_count (suc h) (kind.Leaf id) n = 0

  -- the links of leaves follow their order, from p to q
  abbrev pub AreLinked : Option LeafNodeId → List LeafNodeId → Option LeafNodeId → Type 0
  AreLinked p [] q = Unit {0}
  AreLinked p (x ∷ []) q = (leaf_prev (slots.leaf x.0) ≡ p) × (leaf_next (slots.leaf x.0) ≡ q)
  AreLinked p (x ∷ y ∷ ys) q = (leaf_prev (slots.leaf x.0) ≡ p) × (leaf_next (slots.leaf x.0) ≡ Some y) × AreLinked (Some x) (y ∷ ys) q

  -- each stored argument is a summary of its child's keys
  abbrev pub IsSummed : (A → List K → Type 0) → ℕ → NodeId → Type 0
  IsSummed is_summary zero id = Unit {0}
  IsSummed is_summary (suc h) (kind.Inner id) =
      AllZip is_summary (inner_arguments (slots.inner id.0)) (map (λ c. keys_of (pairs_at h c)) (inner_children (slots.inner id.0)))
      × AllByRecursion (IsSummed is_summary h) (inner_children (slots.inner id.0))
  IsSummed is_summary (suc h) (kind.Leaf id) = Unit {0}

module _ {K V A : Type 0} (cmp : K → K → Ordering) (slots : Slots (Inner K A) (Leaf K V)) where
  -- the node id is that of a tree of a height, with its keys between two bounds; its top node has
  -- at least `least` keys or pairs
  abbrev pub IsTree : ℕ → ℕ → NodeId → Option K → Option K → Type 0
  IsTree least zero (kind.Leaf id) lo hi =
      IsPresent (slots.leaf id.0) × AllByRecursion (λ p. Within cmp lo hi p.0) (leaf_pairs (slots.leaf id.0)) × IsAscending cmp (leaf_pairs (slots.leaf id.0))
      × (least ≤ length (leaf_pairs (slots.leaf id.0))) × (length (leaf_pairs (slots.leaf id.0)) ≤ 64)
  IsTree least zero (kind.Inner id) lo hi = ⊥
  IsTree least (suc h) (kind.Inner id) lo hi =
      IsPresent (slots.inner id.0) × Chain cmp (IsTree 16 h) (inner_keys (slots.inner id.0)) (inner_children (slots.inner id.0)) lo hi
      × (least ≤ length (inner_keys (slots.inner id.0))) × (length (inner_keys (slots.inner id.0)) ≤ 64)
  IsTree least (suc h) (kind.Leaf id) lo hi = ⊥

-- the least number of keys, or pairs, in a root
abbrev pub root_least : ℕ → ℕ
root_least zero = 0
root_least (suc h) = 1

-- The present nodes are those of one tree, each is reached once, and no slot is held. Every leaf is
-- as many levels below the root as the height; sizes and separators are within their bounds;
-- summaries and links are correct.
pub record IsWellShaped {K V A : Type 0} (cmp : K → K → Ordering) (is_summary : A → List K → Type 0) (slots : Slots (Inner K A) (Leaf K V)) (height : ℕ) (root : NodeId) : Type 0 where
  pub tree : IsTree cmp slots (root_least height) height root None None
  pub leaves : (n : ℕ) → leaf_count slots height root n ≡ stored (slots.leaf n)
  pub inners : (n : ℕ) → inner_count slots height root n ≡ stored (slots.inner n)
  pub no_leaf_held : (n : ℕ) → slots.leaf n ≡ Held → ⊥
  pub no_inner_held : (n : ℕ) → slots.inner n ≡ Held → ⊥
  pub summed : IsSummed slots is_summary height root
  pub linked : AreLinked slots None (leaves_at slots height root) None

-- no key of the tree of a height at a node id equals k
abbrev pub LacksKey : {K V A : Type 0} → (K → K → Ordering) → Slots (Inner K A) (Leaf K V) → ℕ → NodeId → K → Type 0
LacksKey cmp slots height root k = has cmp (pairs_at slots height root) k ≡ false

-- the value of a key in that tree
abbrev pub value_in : {K V A : Type 0} → (K → K → Ordering) → Slots (Inner K A) (Leaf K V) → ℕ → NodeId → K → Option V
value_in cmp slots height root k = value cmp (pairs_at slots height root) k
