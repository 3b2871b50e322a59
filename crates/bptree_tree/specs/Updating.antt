-- Changes that a closure makes to the values between two keys.
use Rattle.std.specs.Prelude.{◌≡◌, List, ◌++◌, Option, ◌≤◌, ℕ, drop, take}
use Rattle.std.specs.Borrow.{Bor, MutBor}
use Rattle.std.specs.Fn.{Mut}
use Rattle.std.specs.declared.cmp.Ordering.{Ordering}
use Rattle.bptree_keys.specs.Ranges.{between}
use Rattle.bptree_nodes.specs.Updating.{ChangesInTurn}
use Rattle.std.specs.Option.{option_copied}
use Rattle.bptree_keys.specs.declared.node_id.LeafNodeId.{LeafNodeId}
use Rattle.bptree_keys.specs.declared.node_id.NodeId.{NodeId}
use Rattle.bptree_keys.specs.declared.node_id.Position.{Position}
use Rattle.bptree_nodes.specs.Inner.{Inner}
use Rattle.bptree_nodes.specs.Leaf.{Leaf}
use Rattle.bptree_nodes.specs.Slot.{Slots, Present, UpdatesLeaf}
use Rattle.bptree_ranges.specs.Ranges.{index_on, IsSettled}
use Rattle.bptree_invariant.specs.Shape.{pairs_at}

module _ {F K V : Type 0} (calls : Mut F (Bor K × (MutBor V × Unit {0})) (Unit {0} × (MutBor V × Unit {0}))) where
  -- the values of the pairs between two keys were changed one after another, and the others stay
  pub record IsUpdatedBetween (f : F) (cmp : K → K → Ordering) (lo hi : Option K) (old new : List (K × V)) : Type 0 where
    pub before : List (K × V)
    pub changed : List (K × V)
    pub behind : List (K × V)
    pub after : F
    pub was : old ≡ before ++ (between cmp old lo hi ++ behind)
    pub is : new ≡ before ++ (changed ++ behind)
    pub changes : ChangesInTurn calls f (between cmp old lo hi) after changed

  -- the values of the pairs between two borrowed ends were changed one after another, and the
  -- others stay
  abbrev pub UpdatesBetween : F → (K → K → Ordering) → Option (Bor K) → Option (Bor K) → List (K × V) → List (K × V) → Type 0
  UpdatesBetween f cmp lo hi old new = IsUpdatedBetween f cmp (option_copied lo) (option_copied hi) old new

  -- the values of a leaf's slots from one on and below another were changed one after another
  abbrev pub UpdatesSlots : {A : Type 0} → F → Slots (Inner K A) (Leaf K V) → Slots (Inner K A) (Leaf K V) → LeafNodeId → ℕ → ℕ → F → Type 0
  UpdatesSlots f old new id from to after =
      (was : Leaf K V) → old.leaf id.0 ≡ Present was
      → (changed : List (K × V)) × ChangesInTurn calls f (drop from (take to was.pairs)) after changed
      × UpdatesLeaf old new id.0 (Present (record was { pairs = take from was.pairs ++ changed ++ drop to was.pairs }))

  -- the values between two positions of a tree were changed one after another
  abbrev pub UpdatesIndexes : {A : Type 0} → F → Slots (Inner K A) (Leaf K V) → Slots (Inner K A) (Leaf K V) → ℕ → NodeId → Position → Position → Type 0
  UpdatesIndexes f old new height root front back =
      (after : F) × (changed : List (K × V))
      × ChangesInTurn calls f (drop (index_on old height root front) (take (index_on old height root back) (pairs_at old height root))) after changed
      × (pairs_at new height root ≡ take (index_on old height root front) (pairs_at old height root) ++ changed ++ drop (index_on old height root back) (pairs_at old height root))

module _ {K V A : Type 0} (slots : Slots (Inner K A) (Leaf K V)) (height : ℕ) (root : NodeId) where
  -- the position is that of a pair, or the end of all pairs
  abbrev pub IsSettledAt : Position → Type 0
  IsSettledAt at = IsSettled slots height root (index_on slots height root at) at

  -- at most as many pairs are before one position as before another
  abbrev pub IsNotBehind : Position → Position → Type 0
  IsNotBehind front back = index_on slots height root front ≤ index_on slots height root back
