-- Leaves that are stored last, below a tree that is complete except for them.
use Rattle.std.specs.Prelude.{◌≡◌, ◌==◌, ℕ, ◌<◌, ◌≤◌, ◌^◌, cond, List, [], ◌∷◌, ◌++◌, length, map, Option, None, Some}
use Rattle.std.specs.declared.cmp.Ordering.{Ordering}
use Rattle.std.specs.List.{AllByRecursion}
use Rattle.std.specs.declared.alloc.Global.{Global}
use Rattle.std.specs.declared.boxed.Box.{Box}
use Rattle.std.specs.Map.{keys_of}
use Rattle.bptree_keys.specs.Contents.{IsAscending}
use Rattle.bptree_keys.specs.declared.node_id.LeafNodeId.{LeafNodeId}
use Rattle.bptree_keys.specs.declared.node_id.NodeId.TheVariants as kind
use Rattle.bptree_nodes.specs.Inner.{Inner}
use Rattle.bptree_nodes.specs.Leaf.{Leaf}
use Rattle.bptree_nodes.specs.Slot.{Slot, Slots, Free, Held, Present, IsPresent, UpdatesLeaf}
use Rattle.bptree_invariant.specs.Order.{flat, total}
use Rattle.bptree_invariant.specs.Shape.{leaf_pairs, pairs_at, leaves_at, leaf_count, stored, AreLinked}
use Rattle.bptree_propagation.specs.Change.{StartsAt}
use Rattle.bptree_bulk_load.specs.Layer.{roots, last_of, with_leaves, IsSeated, IsLayer, Builds}
use Rattle.bptree_bulk_load.specs.Steps.{leaf_tree}
use Rattle.bptree_bulk_load.specs.declared.building.Built.{Built}
use Rattle.bptree_bulk_load.specs.declared.subtree.Subtree.{Subtree}

-- the members of all lists, one list after the other
abbrev pub joined : {X : Type 0} → List (List X) → List X
joined = flat (λ part. part)

-- the pairs of each of some leaves
abbrev pub parts_of : {K V : Type 0} → List (Box (Leaf K V) Global) → List (List (K × V))
parts_of leaves = map (λ leaf. leaf.value.pairs) leaves

module _ {K V A : Type 0} (slots : Slots (Inner K A) (Leaf K V)) where
  -- the pairs of the leaf with an id, and whether that leaf is present
  abbrev pub pairs_under : LeafNodeId → List (K × V)
  pairs_under id = leaf_pairs (slots.leaf id.0)

  abbrev pub IsPresentAt : LeafNodeId → Type 0
  IsPresentAt id = IsPresent (slots.leaf id.0)

-- the leaf with an id is present and not empty, and its pairs ascend
abbrev pub IsFilledAt : {K V A : Type 0} → (K → K → Ordering) → Slots (Inner K A) (Leaf K V) → LeafNodeId → Type 0
IsFilledAt cmp slots id = IsPresentAt slots id × (0 < length (pairs_under slots id)) × IsAscending cmp (pairs_under slots id)

-- how often an id occurs in a list of ids
abbrev pub id_count : List LeafNodeId → ℕ → ℕ
id_count ids n = total (λ (id : LeafNodeId). cond (id.0 == n) 1 0) ids

-- the leaves with other ids are as before, and so are the inner nodes
abbrev pub KeepsLeaves : {K V A : Type 0} → Slots (Inner K A) (Leaf K V) → Slots (Inner K A) (Leaf K V) → List LeafNodeId → Type 0
KeepsLeaves old new ids = ((n : ℕ) → id_count ids n ≡ 0 → new.leaf n ≡ old.leaf n) × (new.inner ≡ old.inner)

-- the first of some ids, if there is one
abbrev pub first_id : List LeafNodeId → Option LeafNodeId
first_id [] = None
first_id (id ∷ ids) = Some id

-- 1 for a reserved id, and 0 for any other
abbrev pub held_of : {N : Type 0} → Slot N → ℕ
held_of Free = 0
held_of Held = 1
held_of (Present node) = 0

module _ {K V A : Type 0} where
  -- an id is reserved for a leaf after the others, and what is known of that leaf comes after what
  -- is known of the others
  pub record IsRoomAdded (old new : Slots (Inner K A) (Leaf K V)) (ids ids' : List LeafNodeId) (trees trees' : List (Subtree K A)) (first : K) (summary : A) (id : LeafNodeId) : Type 0 where
    pub was_free : old.leaf id.0 ≡ Free
    pub holds : UpdatesLeaf old new id.0 Held
    pub ids_are : ids' ≡ ids ++ id ∷ []
    pub trees_are : trees' ≡ trees ++ leaf_tree id first summary ∷ []

  abbrev pub AddsRoom : Slots (Inner K A) (Leaf K V) → Slots (Inner K A) (Leaf K V) → List LeafNodeId → List LeafNodeId → List (Subtree K A) → List (Subtree K A) → K → A → Type 0
  AddsRoom old new ids ids' trees trees' first summary = (id : LeafNodeId) × IsRoomAdded old new ids ids' trees trees' first summary id

  -- these ids of leaves are reserved, and no node is present
  pub record AreReady (slots : Slots (Inner K A) (Leaf K V)) (ids : List LeafNodeId) : Type 0 where
    pub held : (n : ℕ) → id_count ids n ≡ held_of (slots.leaf n)
    pub no_leaf : (n : ℕ) → stored (slots.leaf n) ≡ 0
    pub inner_free : (n : ℕ) → slots.inner n ≡ Free

module _ {K V A : Type 0} (cmp : K → K → Ordering) (is_summary : A → List K → Type 0) where
  -- what is known of a leaf with an id, which has or will have these pairs
  pub record FitsLeaf (least : ℕ) (tree : Subtree K A) (id : LeafNodeId) (part : List (K × V)) : Type 0 where
    pub root : tree.root ≡ kind.Leaf id
    pub enough : least ≤ length part
    pub most : length part ≤ 64
    pub starts : StartsAt cmp tree.first part
    pub reported : is_summary tree.summary (keys_of part)

  -- what is known of leaves, one for each part
  abbrev pub FitsRoom : ℕ → List (Subtree K A) → List LeafNodeId → List (List (K × V)) → Type 0
  FitsRoom least [] [] [] = Unit {0}
  FitsRoom least [] [] (part ∷ parts) = ⊥
  FitsRoom least [] (id ∷ ids) parts = ⊥
  FitsRoom least (tree ∷ trees) [] parts = ⊥
  FitsRoom least (tree ∷ trees) (id ∷ ids) [] = ⊥
  FitsRoom least (tree ∷ trees) (id ∷ ids) (part ∷ parts) = FitsLeaf least tree id part × FitsRoom least trees ids parts

  -- a store with ids that are reserved for leaves of these parts, below a tree that is complete
  -- once the leaves are stored
  pub record IsFrame (slots : Slots (Inner K A) (Leaf K V)) (ids : List LeafNodeId) (built : Built A) (parts : List (List (K × V))) : Type 0 where
    pub least : ℕ
    pub trees : List (Subtree K A)
    pub many : 1 < length trees → 16 ≤ least
    pub fits : FitsRoom least trees ids parts
    pub base : Slots (Inner K A) (Leaf K V)
    pub ready : AreReady base ids
    pub same : slots.leaf ≡ base.leaf
    pub raises : (leaves : ℕ → Slot (Leaf K V)) → IsLayer cmp is_summary (with_leaves base leaves) 0 trees (joined parts) → Builds cmp is_summary (with_leaves slots leaves) (joined parts) built

  -- the first leaves are stored, with their links, and ids are reserved for the others
  pub record IsPlanting (slots : Slots (Inner K A) (Leaf K V)) (least : ℕ) (done trees : List (Subtree K A)) (ids : List LeafNodeId) (prev : Option LeafNodeId) (parts : List (List (K × V))) (pairs : List (K × V)) : Type 0 where
    pub seated : AllByRecursion (IsSeated cmp is_summary slots least 0) done
    pub pairs_are : flat (pairs_at slots 0) (roots done) ++ joined parts ≡ pairs
    pub leaves : (n : ℕ) → total (λ c. leaf_count slots 0 c n) (roots done) ≡ stored (slots.leaf n)
    pub held : (n : ℕ) → id_count ids n ≡ held_of (slots.leaf n)
    pub inner_free : (n : ℕ) → slots.inner n ≡ Free
    pub linked : AreLinked slots None (flat (leaves_at slots 0) (roots done)) (first_id ids)
    pub prev_is : prev ≡ last_of None (flat (leaves_at slots 0) (roots done))
    pub fits : FitsRoom least trees ids parts

module _ {K V A : Type 0} (cmp : K → K → Ordering) (is_summary : A → List K → Type 0) (slots : Slots (Inner K A) (Leaf K V)) (ids : List LeafNodeId) (trees : List (Subtree K A)) where
  -- ids are reserved for leaves of these parts
  pub record ArePlanned (parts : List (List (K × V))) : Type 0 where
    pub ready : AreReady slots ids
    pub fits : FitsRoom cmp is_summary 0 trees ids parts

  -- the planned leaves are all the leaves of a tree
  pub record AreAllPlanned (parts : List (List (K × V))) : Type 0 where
    pub planned : ArePlanned parts
    pub some : 0 < length parts
    pub many : 1 < length parts → AllByRecursion (λ (part : List (K × V)). 16 ≤ length part) parts
    pub ascending : IsAscending cmp (joined parts)
    pub few : length (joined parts) < 2 ^ 64

-- a leaf with these pairs is stored at an id, with its links
abbrev pub IsPlanted : {K V A : Type 0} → Slots (Inner K A) (Leaf K V) → Slots (Inner K A) (Leaf K V) → LeafNodeId → List (K × V) → Option LeafNodeId → Option LeafNodeId → Type 0
IsPlanted old new id part prev next = UpdatesLeaf old new id.0 (Present (record { pairs = part; prev = prev; next = next }))
