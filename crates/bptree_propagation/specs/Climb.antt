-- An edit below a node of a path, and its result at the root.
use Rattle.std.specs.Prelude.{◌≡◌, ℕ, suc, ◌<◌, ◌≤◌, ◌^◌, Bool, true, false, List, [], ◌∷◌, length, Option, Some, None, Result, IfOk}
use Rattle.std.specs.declared.cmp.Ordering.{Ordering}
use Rattle.std.specs.Map.{keys_of}
use Rattle.bptree_keys.specs.Contents.{IsAscending}
use Rattle.bptree_nodes.specs.Inner.{Inner}
use Rattle.bptree_nodes.specs.Leaf.{Leaf}
use Rattle.bptree_nodes.specs.Slot.{Slot, Slots, Free, Held, Present}
use Rattle.bptree_keys.specs.declared.node_id.InnerNodeId.{InnerNodeId}
use Rattle.bptree_keys.specs.declared.node_id.LeafNodeId.{LeafNodeId}
use Rattle.bptree_keys.specs.declared.node_id.NodeId.{NodeId}
use Rattle.bptree_keys.specs.declared.node_id.NodeId.TheVariants as kind
use Rattle.bptree_propagation.specs.Change.{Roots}
use Rattle.bptree_invariant.specs.Edit.{IsLocal, Turn, Edits}
use Rattle.bptree_invariant.specs.Outcome.{Outcome, Done, Split}
use Rattle.bptree_invariant.specs.Path.{Way}
use Rattle.bptree_invariant.specs.Shape.{pairs_at, leaf_count, inner_count, stored, root_least, IsTree, IsSummed, IsWellShaped}
use Rattle.bptree_propagation.specs.declared.node_changes.NodeSplit.{NodeSplit}

-- whether a slot is held
abbrev pub is_held : {N : Type 0} → Slot N → Bool
is_held Free = false
is_held Held = true
is_held (Present node) = false

-- which inner nodes and which leaves are held
pub record HeldAre {I L : Type 0} (inner leaf : ℕ → Bool) (slots : Slots I L) : Type 0 where
  pub inners : (n : ℕ) → is_held (slots.inner n) ≡ inner n
  pub leaves : (n : ℕ) → is_held (slots.leaf n) ≡ leaf n

-- no node is held
pub record NoneHeld {I L : Type 0} (slots : Slots I L) : Type 0 where
  pub inners : (n : ℕ) → slots.inner n ≡ Held → ⊥
  pub leaves : (n : ℕ) → slots.leaf n ≡ Held → ⊥

-- A well-shaped tree, but its top node may have fewer keys or pairs than a root, and nothing is
-- known of the links of its leaves.
pub record IsUnlinked {K V A : Type 0} (cmp : K → K → Ordering) (is_summary : A → List K → Type 0) (slots : Slots (Inner K A) (Leaf K V)) (least height : ℕ) (root : NodeId) : Type 0 where
  pub tree : IsTree cmp slots least height root None None
  pub leaves : (n : ℕ) → leaf_count slots height root n ≡ stored (slots.leaf n)
  pub inners : (n : ℕ) → inner_count slots height root n ≡ stored (slots.inner n)
  pub none_held : NoneHeld slots
  pub summed : IsSummed slots is_summary height root

-- an edit of at most `most` ascending pairs makes fewer than 2 to the power of 64
abbrev pub StaysFew : {K V : Type 0} → (K → K → Ordering) → (List (K × V) → List (K × V)) → ℕ → Type 0
StaysFew {K} {V} cmp edit most = (l : List (K × V)) → IsAscending cmp l → length l ≤ most → length (edit l) < 2 ^ 64

-- the least number of keys or pairs of the node at the end of a path
abbrev pub least_at : {X : Type 0} → ℕ → List X → ℕ
least_at top [] = root_least top
least_at top (x ∷ xs) = 16

-- A whole tree was edited below the last node of a path, and no node of the path has changed yet.
pub record Climb {K V A : Type 0} (cmp : K → K → Ordering) (is_summary : A → List K → Type 0) (now : Slots (Inner K A) (Leaf K V)) (path : List (InnerNodeId × ℕ × NodeId)) (outcome : Outcome K) : Type 0 where
  pub old : Slots (Inner K A) (Leaf K V)
  pub edit : List (K × V) → List (K × V)
  pub k : K
  pub leaf : LeafNodeId
  pub turn : Turn
  pub kept : ℕ
  pub held_inner : ℕ → Bool
  pub held_leaf : ℕ → Bool
  pub top : ℕ
  pub root : NodeId
  pub height : ℕ
  pub id : NodeId
  pub shape : IsWellShaped cmp is_summary old top root
  pub few : StaysFew cmp edit (length (pairs_at old top root))
  pub local : IsLocal cmp k edit
  pub way : Way cmp old k top root path height id
  pub edits : Edits cmp is_summary edit kept old now height id k leaf turn outcome
  pub free : HeldAre held_inner held_leaf now

-- an edit below the path, with the new summary of the edited node; `SplitBelow` has the summaries of
-- the two nodes that it was split into
pub record EditBelow {K V A : Type 0} (cmp : K → K → Ordering) (is_summary : A → List K → Type 0) (now : Slots (Inner K A) (Leaf K V)) (path : List (InnerNodeId × ℕ × NodeId)) (a : A) : Type 0 where
  pub climb : Climb cmp is_summary now path Done
  pub enough : least_at climb.top path ≤ climb.kept
  pub reported : is_summary a (keys_of (pairs_at now climb.height climb.id))

-- an edit below the path, with the new summary of the edited node and a summary of the keys that
-- the whole tree had
pub record EditBelowFrom {K V A : Type 0} (cmp : K → K → Ordering) (is_summary : A → List K → Type 0) (now : Slots (Inner K A) (Leaf K V)) (path : List (InnerNodeId × ℕ × NodeId)) (whole a : A) : Type 0 where
  pub climbs : EditBelow cmp is_summary now path a
  pub had : is_summary whole (keys_of (pairs_at climbs.climb.old climbs.climb.top climbs.climb.root))

pub record SplitBelow {K V A : Type 0} (cmp : K → K → Ordering) (is_summary : A → List K → Type 0) (now : Slots (Inner K A) (Leaf K V)) (path : List (InnerNodeId × ℕ × NodeId)) (division : NodeSplit K A) : Type 0 where
  pub climb : Climb cmp is_summary now path (Split division.separator division.node)
  pub enough : least_at climb.top path ≤ climb.kept
  pub none_held : (n : ℕ) → (climb.held_inner n ≡ false) × (climb.held_leaf n ≡ false)
  pub left : is_summary division.left (keys_of (pairs_at now climb.height climb.id))
  pub right : is_summary division.right (keys_of (pairs_at now climb.height division.node))

-- a split below the path, with the summaries of both nodes and a summary of the keys that the whole
-- tree had
abbrev pub SplitBelowFrom : {K V A : Type 0} → (K → K → Ordering) → (A → List K → Type 0) → Slots (Inner K A) (Leaf K V) → List (InnerNodeId × ℕ × NodeId) → A → NodeSplit K A → Type 0
SplitBelowFrom cmp is_summary now path whole division =
    (c : SplitBelow cmp is_summary now path division) × is_summary whole (keys_of (pairs_at c.climb.old c.climb.top c.climb.root))

module _ {K V A : Type 0} {cmp : K → K → Ordering} {is_summary : A → List K → Type 0} {now : Slots (Inner K A) (Leaf K V)} {path : List (InnerNodeId × ℕ × NodeId)} {outcome : Outcome K}
    (c : Climb cmp is_summary now path outcome) (new : Slots (Inner K A) (Leaf K V)) where
  -- the edit is one of the whole tree, below the root that it had
  pub record Propagated (a : A) : Type 0 where
    pub edits : Edits cmp is_summary c.edit (root_least c.top) c.old new c.top c.root c.k c.leaf c.turn Done
    pub free : HeldAre c.held_inner c.held_leaf new
    pub reported : is_summary a (keys_of (pairs_at new c.top c.root))

  -- the edit split the root, and a new root is above both nodes
  pub record PropagatedToNewRoot (id : InnerNodeId) (a : A) : Type 0 where
    pub mid : Slots (Inner K A) (Leaf K V)
    pub division : NodeSplit K A
    pub edits : Edits cmp is_summary c.edit (root_least c.top) c.old mid c.top c.root c.k c.leaf c.turn (Split division.separator division.node)
    pub left : is_summary division.left (keys_of (pairs_at mid c.top c.root))
    pub right : is_summary division.right (keys_of (pairs_at mid c.top division.node))
    pub roots : Roots mid new id c.root division.left division.separator division.node division.right
    pub free : HeldAre c.held_inner c.held_leaf mid
    pub reported : is_summary a (keys_of (pairs_at new (suc c.top) (kind.Inner id)))

  abbrev pub Reaches : Option InnerNodeId → A → Type 0
  Reaches None a = Propagated a
  Reaches (Some id) a = PropagatedToNewRoot id a

  -- if a call succeeded, the edit reaches the new root and the summary that it returned
  abbrev pub ReachesTop : {E : Type 0} → Result (Option InnerNodeId × A) E → Type 0
  ReachesTop result = IfOk result (λ top. Reaches top.0 top.1)

module _ {K V A : Type 0} (cmp : K → K → Ordering) (is_summary : A → List K → Type 0) (old new : Slots (Inner K A) (Leaf K V)) (path : List (InnerNodeId × ℕ × NodeId)) (whole a : A) where
  -- if a call succeeded, each edit below the path reaches the summary that it returned
  abbrev pub PropagatesFrom : {E : Type 0} → Result A E → Type 0
  PropagatesFrom result = (c : EditBelowFrom cmp is_summary old path whole a) → IfOk result (λ top. Propagated c.climbs.climb new top)

-- if a call succeeded, each division below the path in the tree of this root reaches the new root
-- and the summary that it returned
abbrev pub ReachesTopFrom : {K V A E : Type 0} → (K → K → Ordering) → (A → List K → Type 0) → (old new : Slots (Inner K A) (Leaf K V)) → List (InnerNodeId × ℕ × NodeId) → A → NodeId → NodeSplit K A → Result (Option InnerNodeId × A) E → Type 0
ReachesTopFrom cmp is_summary old new path whole root division result =
    (c : SplitBelowFrom cmp is_summary old path whole division) → c.0.climb.root ≡ root → ReachesTop c.0.climb new result
