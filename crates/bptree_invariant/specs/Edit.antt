-- The effect of an edit at one key on the tree of a height at a node id.
use Rattle.std.specs.Prelude.{◌≡◌, ℕ, ◌+◌, ◌≤◌, List, [], ◌∷◌, ◌++◌, Option, Some}
use Rattle.std.specs.declared.cmp.Ordering.{Ordering}
use Rattle.std.specs.declared.cmp.Ordering.TheVariants.{Less, Greater}
use Rattle.bptree_nodes.specs.Inner.{Inner}
use Rattle.bptree_nodes.specs.Leaf.{Leaf}
use Rattle.bptree_keys.specs.Indexes.{AllCompare}
use Rattle.bptree_nodes.specs.Slot.{Slots, IsPresent}
use Rattle.bptree_keys.specs.declared.node_id.LeafNodeId.{LeafNodeId}
use Rattle.bptree_keys.specs.declared.node_id.NodeId.{NodeId}
use Rattle.bptree_invariant.specs.Order.{Within, Between}
use Rattle.bptree_invariant.specs.Shape.{leaf_prev, leaf_next, pairs_at, leaves_at, leaf_count, inner_count, stored, IsTree, IsSummed}
use Rattle.bptree_invariant.specs.Outcome.{Outcome, Done, Split}

-- the edit of ascending pairs depends on, and changes, only the part between the smaller and the
-- greater keys
pub record IsLocal {K V : Type 0} (cmp : K → K → Ordering) (k : K) (edit : List (K × V) → List (K × V)) : Type 0 where
  pub around : (before l after : List (K × V)) → AllCompare cmp k Less before → AllCompare cmp k Greater after → edit (before ++ (l ++ after)) ≡ before ++ (edit l ++ after)

module _ {K V A : Type 0} (slots : Slots (Inner K A) (Leaf K V)) (h : ℕ) (id : NodeId) where
  -- the pairs, the leaves and the counts after the edit, of the one tree or of the two that it
  -- became
  abbrev pub pairs_after : Outcome K → List (K × V)
  pairs_after Done = pairs_at slots h id
  pairs_after (Split separator right) = pairs_at slots h id ++ pairs_at slots h right

  abbrev pub leaves_after : Outcome K → List LeafNodeId
  leaves_after Done = leaves_at slots h id
  leaves_after (Split separator right) = leaves_at slots h id ++ leaves_at slots h right

  abbrev pub leaf_count_after : Outcome K → ℕ → ℕ
  leaf_count_after Done n = leaf_count slots h id n
  leaf_count_after (Split separator right) n = leaf_count slots h id n + leaf_count slots h right n

  abbrev pub inner_count_after : Outcome K → ℕ → ℕ
  inner_count_after Done n = inner_count slots h id n
  inner_count_after (Split separator right) n = inner_count slots h id n + inner_count slots h right n

  abbrev pub SummedAfter : (A → List K → Type 0) → Outcome K → Type 0
  SummedAfter is_summary Done = IsSummed slots is_summary h id
  SummedAfter is_summary (Split separator right) = IsSummed slots is_summary h id × IsSummed slots is_summary h right

module _ {K V A : Type 0} (cmp : K → K → Ordering) (slots : Slots (Inner K A) (Leaf K V)) (h : ℕ) (id : NodeId) where
  abbrev pub TreeAfter : ℕ → Option K → Option K → Outcome K → Type 0
  TreeAfter least lo hi Done = IsTree cmp slots least h id lo hi
  TreeAfter least lo hi (Split separator right) =
      IsTree cmp slots 16 h id lo (Some separator) × Between cmp lo hi separator × IsTree cmp slots 16 h right (Some separator) hi

  -- each node id that the tree reaches is present, and reached once
  pub record Owns : Type 0 where
    pub leaves : (n : ℕ) → leaf_count slots h id n ≤ stored (slots.leaf n)
    pub inners : (n : ℕ) → inner_count slots h id n ≤ stored (slots.inner n)

  -- the node id is that of a tree that owns its nodes, and the key is between the tree's bounds
  pub record CanReach (k : K) : Type 0 where
    pub least : ℕ
    pub low : Option K
    pub high : Option K
    pub tree : IsTree cmp slots least h id low high
    pub fits : Within cmp low high k
    pub owns : Owns

-- the change to the leaves behind one: none is made, a new leaf is inserted, or the next leaf is
-- removed
pub data Turn : Type 0 where
  Stays : Turn
  Gains : LeafNodeId → Turn
  Loses : LeafNodeId → Turn

abbrev pub fresh_of : Turn → List LeafNodeId
fresh_of Stays = []
fresh_of (Gains fresh) = fresh ∷ []
fresh_of (Loses gone) = []

abbrev pub gone_of : Turn → List LeafNodeId
gone_of Stays = []
gone_of (Gains fresh) = []
gone_of (Loses gone) = gone ∷ []

-- the leaf is not the one that was removed
abbrev pub Spares : Turn → ℕ → Type 0
Spares Stays n = Unit {0}
Spares (Gains fresh) n = Unit {0}
Spares (Loses gone) n = n ≡ gone.0 → ⊥

-- the links of a leaf are unchanged
abbrev pub SameLinks : {K V A : Type 0} → Slots (Inner K A) (Leaf K V) → Slots (Inner K A) (Leaf K V) → LeafNodeId → Type 0
SameLinks old new x = (leaf_prev (new.leaf x.0) ≡ leaf_prev (old.leaf x.0)) × (leaf_next (new.leaf x.0) ≡ leaf_next (old.leaf x.0))

-- the links of the leaf after the edit: unchanged, with a new leaf behind it, or without the next
-- leaf
abbrev pub LinksAt : {K V A : Type 0} → Slots (Inner K A) (Leaf K V) → Slots (Inner K A) (Leaf K V) → LeafNodeId → Turn → Type 0
LinksAt old new leaf Stays = SameLinks old new leaf
LinksAt old new leaf (Gains fresh) =
    (leaf_prev (new.leaf leaf.0) ≡ leaf_prev (old.leaf leaf.0)) × (leaf_next (new.leaf leaf.0) ≡ Some fresh)
    × (leaf_prev (new.leaf fresh.0) ≡ Some leaf) × (leaf_next (new.leaf fresh.0) ≡ leaf_next (old.leaf leaf.0))
LinksAt old new leaf (Loses gone) = (leaf_prev (new.leaf leaf.0) ≡ leaf_prev (old.leaf leaf.0)) × (leaf_next (new.leaf leaf.0) ≡ leaf_next (old.leaf gone.0))

-- the leaves in order, before and after the change behind one leaf
pub record Extends (old : List LeafNodeId) (leaf : LeafNodeId) (turn : Turn) (new : List LeafNodeId) : Type 0 where
  pub before : List LeafNodeId
  pub after : List LeafNodeId
  pub was : old ≡ before ++ leaf ∷ (gone_of turn ++ after)
  pub is : new ≡ before ++ leaf ∷ (fresh_of turn ++ after)

-- The tree at a node id is changed by an edit at a key, and nothing outside the tree changes. If
-- the top node had at least `kept` keys or pairs, so many remain.
pub record Edits {K V A : Type 0} (cmp : K → K → Ordering) (is_summary : A → List K → Type 0) (edit : List (K × V) → List (K × V)) (kept : ℕ)
    (old new : Slots (Inner K A) (Leaf K V)) (h : ℕ) (id : NodeId) (k : K) (leaf : LeafNodeId) (turn : Turn) (outcome : Outcome K) : Type 0 where
  pub tree : (least : ℕ) (lo hi : Option K) → least ≤ kept → IsTree cmp old least h id lo hi → Within cmp lo hi k → TreeAfter cmp new h id least lo hi outcome
  pub pairs : pairs_after new h id outcome ≡ edit (pairs_at old h id)
  pub leaves : (n : ℕ) → leaf_count_after new h id outcome n + stored (old.leaf n) ≡ leaf_count old h id n + stored (new.leaf n)
  pub inners : (n : ℕ) → inner_count_after new h id outcome n + stored (old.inner n) ≡ inner_count old h id n + stored (new.inner n)
  pub other_leaves : (n : ℕ) → leaf_count old h id n ≡ 0 → IsPresent (old.leaf n) → new.leaf n ≡ old.leaf n
  pub other_inners : (n : ℕ) → inner_count old h id n ≡ 0 → IsPresent (old.inner n) → new.inner n ≡ old.inner n
  pub order : Extends (leaves_at old h id) leaf turn (leaves_after new h id outcome)
  pub links : LinksAt old new leaf turn
  pub untouched : (x : LeafNodeId) → (x.0 ≡ leaf.0 → ⊥) → Spares turn x.0 → IsPresent (old.leaf x.0) → SameLinks old new x × IsPresent (new.leaf x.0)
  pub summed : IsSummed old is_summary h id → SummedAfter new h id is_summary outcome
