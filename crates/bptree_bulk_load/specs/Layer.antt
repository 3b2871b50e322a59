-- Trees of one height that are beside each other in a store.
use Rattle.std.specs.Prelude.{◌≡◌, ℕ, suc, ◌+◌, ◌<◌, ◌≤◌, ◌^◌, List, [], ◌∷◌, ◌++◌, length, map, Option, None, Some}
use Rattle.std.specs.declared.cmp.Ordering.{Ordering}
use Rattle.std.specs.List.{AllByRecursion}
use Rattle.std.specs.Map.{keys_of}
use Rattle.bptree_keys.specs.Contents.{IsAscending}
use Rattle.bptree_keys.specs.declared.node_id.LeafNodeId.{LeafNodeId}
use Rattle.bptree_keys.specs.declared.node_id.NodeId.{NodeId}
use Rattle.bptree_nodes.specs.Inner.{Inner}
use Rattle.bptree_nodes.specs.Leaf.{Leaf}
use Rattle.bptree_nodes.specs.Slot.{Slot, Slots, Held, IsPresent}
use Rattle.bptree_invariant.specs.Order.{flat, total, Within}
use Rattle.bptree_invariant.specs.Shape.{pairs_at, leaves_at, leaf_count, inner_count, stored, AreLinked, IsSummed, IsTree, IsWellShaped, root_least}
use Rattle.bptree_propagation.specs.Change.{StartsAt}
use Rattle.bptree_bulk_load.specs.declared.building.Built.{Built}
use Rattle.bptree_bulk_load.specs.declared.subtree.Subtree.{Subtree}

module _ {K A : Type 0} where
  -- the ids of the top nodes, the keys that the trees start at, and their summaries
  abbrev pub roots : List (Subtree K A) → List NodeId
  roots trees = map (λ (tree : Subtree K A). tree.root) trees

  abbrev pub firsts : List (Subtree K A) → List K
  firsts trees = map (λ (tree : Subtree K A). tree.first) trees

  abbrev pub summaries : List (Subtree K A) → List A
  summaries trees = map (λ (tree : Subtree K A). tree.summary) trees

-- the last of some leaves, or the given one if there are no leaves
abbrev pub last_of : Option LeafNodeId → List LeafNodeId → Option LeafNodeId
last_of p [] = p
last_of p (x ∷ xs) = last_of (Some x) xs

-- a store with other leaves
abbrev pub with_leaves : {I L : Type 0} → Slots I L → (ℕ → Slot L) → Slots I L
with_leaves slots leaves = record { inner = slots.inner; leaf = leaves }

module _ {K V A : Type 0} (cmp : K → K → Ordering) (is_summary : A → List K → Type 0) (slots : Slots (Inner K A) (Leaf K V)) where
  -- a tree that fits between any bounds around its pairs, with the key that it starts at and a
  -- summary of its keys
  pub record IsSeated (least h : ℕ) (tree : Subtree K A) : Type 0 where
    pub lies_between : (lo hi : Option K) → AllByRecursion (λ p. Within cmp lo hi p.0) (pairs_at slots h tree.root) → IsTree cmp slots least h tree.root lo hi
    pub first : StartsAt cmp tree.first (pairs_at slots h tree.root)
    pub reported : is_summary tree.summary (keys_of (pairs_at slots h tree.root))
    pub summed : IsSummed slots is_summary h tree.root

  -- the nodes that are present are those of these trees, which contain the pairs
  pub record IsLayer (h : ℕ) (trees : List (Subtree K A)) (pairs : List (K × V)) : Type 0 where
    pub least : ℕ
    pub enough : root_least h ≤ least
    pub many : 1 < length trees → 16 ≤ least
    pub seated : AllByRecursion (IsSeated least h) trees
    pub pairs_are : flat (pairs_at slots h) (roots trees) ≡ pairs
    pub leaves : (n : ℕ) → total (λ c. leaf_count slots h c n) (roots trees) ≡ stored (slots.leaf n)
    pub inners : (n : ℕ) → total (λ c. inner_count slots h c n) (roots trees) ≡ stored (slots.inner n)
    pub no_leaf_held : (n : ℕ) → slots.leaf n ≡ Held → ⊥
    pub no_inner_held : (n : ℕ) → slots.inner n ≡ Held → ⊥
    pub linked : AreLinked slots None (flat (leaves_at slots h) (roots trees)) None

  -- the nodes that are present are those of trees with one more node at the top, and of trees that
  -- do not have it yet
  pub record IsRising (least h : ℕ) (done rest : List (Subtree K A)) (pairs : List (K × V)) : Type 0 where
    pub seated_done : AllByRecursion (IsSeated least (suc h)) done
    pub seated_rest : AllByRecursion (IsSeated 16 h) rest
    pub pairs_are : flat (pairs_at slots (suc h)) (roots done) ++ flat (pairs_at slots h) (roots rest) ≡ pairs
    pub leaves : (n : ℕ) → total (λ c. leaf_count slots (suc h) c n) (roots done) + total (λ c. leaf_count slots h c n) (roots rest) ≡ stored (slots.leaf n)
    pub inners : (n : ℕ) → total (λ c. inner_count slots (suc h) c n) (roots done) + total (λ c. inner_count slots h c n) (roots rest) ≡ stored (slots.inner n)
    pub no_leaf_held : (n : ℕ) → slots.leaf n ≡ Held → ⊥
    pub no_inner_held : (n : ℕ) → slots.inner n ≡ Held → ⊥
    pub linked : AreLinked slots None (flat (leaves_at slots (suc h)) (roots done) ++ flat (leaves_at slots h) (roots rest)) None

  -- the leaves that are present contain the first of the pairs, and one id is reserved for the next
  -- leaf
  pub record IsSpreading (least : ℕ) (done : List (Subtree K A)) (id : LeafNodeId) (prev : Option LeafNodeId) (rest pairs : List (K × V)) : Type 0 where
    pub seated : AllByRecursion (IsSeated least 0) done
    pub pairs_are : flat (pairs_at slots 0) (roots done) ++ rest ≡ pairs
    pub leaves : (n : ℕ) → total (λ c. leaf_count slots 0 c n) (roots done) ≡ stored (slots.leaf n)
    pub no_inner : (n : ℕ) → IsPresent (slots.inner n) → ⊥
    pub held : slots.leaf id.0 ≡ Held
    pub no_other_held : (n : ℕ) → slots.leaf n ≡ Held → n ≡ id.0
    pub no_inner_held : (n : ℕ) → slots.inner n ≡ Held → ⊥
    pub linked : AreLinked slots None (flat (leaves_at slots 0) (roots done)) (Some id)
    pub prev_is : prev ≡ last_of None (flat (leaves_at slots 0) (roots done))

  -- a complete tree of the pairs, with a summary of all keys
  pub record IsBuilt (root : NodeId) (h : ℕ) (summary : A) (pairs : List (K × V)) : Type 0 where
    pub shape : IsWellShaped cmp is_summary slots h root
    pub contents : pairs_at slots h root ≡ pairs
    pub reported : is_summary summary (keys_of pairs)

  -- a value of `Built` describes a complete tree of the pairs
  abbrev pub Builds : List (K × V) → Built A → Type 0
  Builds pairs built = IsBuilt built.root built.height built.summary pairs

-- if the leaves of a store, whatever they are, are trees of height 0 that contain the pairs, they
-- are below a complete tree
abbrev pub RaisesAll : {K V A : Type 0} → (K → K → Ordering) → (A → List K → Type 0) → Slots (Inner K A) (Leaf K V) → Slots (Inner K A) (Leaf K V) → List (Subtree K A) → Built A → Type 0
RaisesAll {K} {V} {A} cmp is_summary old new trees built =
    (new.leaf ≡ old.leaf)
    × ((leaves : ℕ → Slot (Leaf K V)) (pairs : List (K × V)) → IsAscending cmp pairs → length pairs < 2 ^ 64 → IsLayer cmp is_summary (with_leaves old leaves) 0 trees pairs
    → Builds cmp is_summary (with_leaves new leaves) pairs built)
