-- Replacement of a key by one that equals it.
use Rattle.std.specs.Prelude.{◌≡◌, ℕ, zero, suc, cond, List, [], ◌∷◌, Some, Result, IfOk, slice_get}
use Rattle.std.specs.declared.cmp.Ordering.{Ordering}
use Rattle.std.specs.declared.cmp.Ordering.TheVariants.{Equal}
use Rattle.std.specs.Map.{keys_of}
use Rattle.std.specs.Ordering.{is_eq}
use Rattle.bptree_keys.specs.Contents.{del, put}
use Rattle.bptree_nodes.specs.Inner.{Inner}
use Rattle.bptree_nodes.specs.Leaf.{Leaf}
use Rattle.bptree_nodes.specs.Slot.{Slots, Present, UpdatesLeaf}
use Rattle.bptree_keys.specs.declared.node_id.InnerNodeId.{InnerNodeId}
use Rattle.bptree_keys.specs.declared.node_id.NodeId.{NodeId}
use Rattle.bptree_keys.specs.declared.node_id.Position.{Position}
use Rattle.bptree_invariant.specs.Shape.{leaf_pairs, pairs_at, IsWellShaped}
use Rattle.bptree_removal.specs.Removal.{IsThere}

module _ {K V : Type 0} where
  -- the pairs with another key at a slot, and its value kept
  abbrev pub set_key_at : List (K × V) → ℕ → K → List (K × V)
  set_key_at [] i k = []
  set_key_at (p ∷ ps) zero k = (k, p.1) ∷ ps
  set_key_at (p ∷ ps) (suc i) k = p ∷ set_key_at ps i k

  -- the pairs with k instead of each key that equals it
  abbrev pub rekeyed : (K → K → Ordering) → K → List (K × V) → List (K × V)
  rekeyed cmp k [] = []
  rekeyed cmp k (p ∷ ps) = cond (is_eq (cmp p.0 k)) (k, p.1) p ∷ rekeyed cmp k ps

  -- a pair with a key that equals k was removed, and k was put with its value
  abbrev pub RekeysPairs : (K → K → Ordering) → K → List (K × V) → List (K × V) → K → Type 0
  RekeysPairs cmp k old new gone =
      (index : ℕ) × (v : V) × (slice_get old index ≡ Some (gone, v)) × (cmp gone k ≡ Equal) × (new ≡ put cmp (del cmp old k) k v)

-- the leaf of a position has a key at its slot
abbrev pub HasKeyAt : {K V A : Type 0} → Slots (Inner K A) (Leaf K V) → Position → K → Type 0
HasKeyAt slots at key = slice_get (keys_of (leaf_pairs (slots.leaf at.leaf.0))) at.slot ≡ Some key

-- the leaf of a position takes another key at its slot
abbrev pub SetsKey : {K V A : Type 0} → Slots (Inner K A) (Leaf K V) → Slots (Inner K A) (Leaf K V) → Position → K → Type 0
SetsKey {K} {V} {A} old new at key =
    (was : Leaf K V) → old.leaf at.leaf.0 ≡ Present was → UpdatesLeaf old new at.leaf.0 (Present (record was { pairs = set_key_at was.pairs at.slot key }))

-- a key was replaced by one that equals it, in a whole tree
pub record IsRekeyed {K V A : Type 0} (cmp : K → K → Ordering) (is_summary : A → List K → Type 0) (old new : Slots (Inner K A) (Leaf K V)) (height : ℕ) (root : NodeId) (at : Position) (key gone : K) (a : A) : Type 0 where
  pub key_was : HasKeyAt old at gone
  pub shape : IsWellShaped cmp is_summary new height root
  pub pairs : pairs_at new height root ≡ rekeyed cmp key (pairs_at old height root)
  pub reported : is_summary a (keys_of (pairs_at new height root))

module _ {K V A : Type 0} (cmp : K → K → Ordering) (is_summary : A → List K → Type 0) where
  -- a key is stored at a position at the end of a path, and a value is a summary of the keys of the
  -- whole tree
  abbrev pub HasKey : Slots (Inner K A) (Leaf K V) → List (InnerNodeId × ℕ × NodeId) → A → Position → K → Type 0
  HasKey slots path whole at key =
      (there : IsThere cmp is_summary slots path at.leaf at.slot key) × is_summary whole (keys_of (pairs_at slots there.top there.root))

  -- if a call succeeded, that key was replaced in the tree
  abbrev pub Rekeys : {E : Type 0} → Slots (Inner K A) (Leaf K V) → Slots (Inner K A) (Leaf K V) → List (InnerNodeId × ℕ × NodeId) → A → Position → K → Result (K × A) E → Type 0
  Rekeys old new path whole at key done =
      (there : IsThere cmp is_summary old path at.leaf at.slot key) → is_summary whole (keys_of (pairs_at old there.top there.root))
      → IfOk done (λ d. IsRekeyed cmp is_summary old new there.top there.root at key d.0 d.1)
