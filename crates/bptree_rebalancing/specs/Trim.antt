-- A tree that loses a pair: the propagation up a path, and the whole tree.
use Rattle.std.specs.Prelude.{◌≡◌, ℕ, ◌+◌, ◌≤◌, false, List, [], ◌∷◌, ◌++◌, length, None, Result, IfOk}
use Rattle.std.specs.declared.cmp.Ordering.{Ordering}
use Rattle.std.specs.Map.{keys_of}
use Rattle.bptree_nodes.specs.Inner.{Inner}
use Rattle.bptree_nodes.specs.Leaf.{Leaf}
use Rattle.bptree_nodes.specs.Slot.{Slots}
use Rattle.bptree_keys.specs.declared.node_id.InnerNodeId.{InnerNodeId}
use Rattle.bptree_keys.specs.declared.node_id.NodeId.{NodeId}
use Rattle.bptree_keys.specs.declared.node_id.NodeId.TheVariants as kind
use Rattle.bptree_propagation.specs.Climb.{HeldAre, IsUnlinked, least_at, Climb}
use Rattle.bptree_invariant.specs.Edit.{Stays, Edits}
use Rattle.bptree_invariant.specs.Outcome.{Outcome, Done}
use Rattle.bptree_invariant.specs.Shape.{pairs_at, leaves_at, AreLinked}

-- an edit was propagated to an inner node that may have underflowed
pub record UnderflowBelow {K V A : Type 0} (cmp : K → K → Ordering) (is_summary : A → List K → Type 0) (now : Slots (Inner K A) (Leaf K V)) (path : List (InnerNodeId × ℕ × NodeId)) (id : InnerNodeId) (a : A) : Type 0 where
  pub climb : Climb cmp is_summary now path Done
  pub here : climb.id ≡ kind.Inner id
  pub enough : least_at climb.top path ≤ climb.kept + 1
  pub reported : is_summary a (keys_of (pairs_at now climb.height climb.id))

-- an edit was propagated to an inner node that may have underflowed; and a summary of the keys that
-- the whole tree had
abbrev pub UnderflowBelowFrom : {K V A : Type 0} → (K → K → Ordering) → (A → List K → Type 0) → Slots (Inner K A) (Leaf K V) → List (InnerNodeId × ℕ × NodeId) → A → InnerNodeId → A → Type 0
UnderflowBelowFrom cmp is_summary now path whole id a =
    (c : UnderflowBelow cmp is_summary now path id a) × is_summary whole (keys_of (pairs_at c.climb.old c.climb.top c.climb.root))

-- the edit is one of the whole tree, whose root may have lost its last key
pub record PropagatedUnderflow {K V A : Type 0} {cmp : K → K → Ordering} {is_summary : A → List K → Type 0} {now : Slots (Inner K A) (Leaf K V)} {path : List (InnerNodeId × ℕ × NodeId)} {outcome : Outcome K} (c : Climb cmp is_summary now path outcome) (new : Slots (Inner K A) (Leaf K V)) (a : A) : Type 0 where
  pub edits : Edits cmp is_summary c.edit 0 c.old new c.top c.root c.k c.leaf c.turn Done
  pub free : HeldAre c.held_inner c.held_leaf new
  pub reported : is_summary a (keys_of (pairs_at new c.top c.root))

-- a pair was removed from the leaf at the end of a path, which underflows by it, and no id is
-- reserved
pub record LeafUnderflow {K V A : Type 0} (cmp : K → K → Ordering) (is_summary : A → List K → Type 0) (now : Slots (Inner K A) (Leaf K V)) (path : List (InnerNodeId × ℕ × NodeId)) (id : InnerNodeId) (index : ℕ) : Type 0 where
  pub child : NodeId
  pub climb : Climb cmp is_summary now (path ++ (id, index, child) ∷ []) Done
  pub low : climb.height ≡ 0
  pub enough : 15 ≤ climb.kept
  pub short : length (pairs_at now climb.height climb.id) ≡ 15
  pub stays : climb.turn ≡ Stays
  pub none_held : (n : ℕ) → (climb.held_inner n ≡ false) × (climb.held_leaf n ≡ false)

-- a leaf underflows by the loss of a pair; and a summary of the keys that the whole tree had
abbrev pub LeafUnderflowFrom : {K V A : Type 0} → (K → K → Ordering) → (A → List K → Type 0) → Slots (Inner K A) (Leaf K V) → List (InnerNodeId × ℕ × NodeId) → A → InnerNodeId → ℕ → Type 0
LeafUnderflowFrom cmp is_summary now path whole id index =
    (c : LeafUnderflow cmp is_summary now path id index) × is_summary whole (keys_of (pairs_at c.climb.old c.climb.top c.climb.root))

-- a well-shaped tree, but its root may have no key
pub record IsLoose {K V A : Type 0} (cmp : K → K → Ordering) (is_summary : A → List K → Type 0) (slots : Slots (Inner K A) (Leaf K V)) (height : ℕ) (root : NodeId) : Type 0 where
  pub nodes : IsUnlinked cmp is_summary slots 0 height root
  pub linked : AreLinked slots None (leaves_at slots height root) None

-- the whole tree was edited, and its root may have no key
pub record PropagatedToRoot {K V A : Type 0} {cmp : K → K → Ordering} {is_summary : A → List K → Type 0} {now : Slots (Inner K A) (Leaf K V)} {path : List (InnerNodeId × ℕ × NodeId)} {outcome : Outcome K} (c : Climb cmp is_summary now path outcome) (new : Slots (Inner K A) (Leaf K V)) (a : A) : Type 0 where
  pub loose : IsLoose cmp is_summary new c.top c.root
  pub pairs : pairs_at new c.top c.root ≡ c.edit (pairs_at c.old c.top c.root)
  pub reported : is_summary a (keys_of (pairs_at new c.top c.root))

module _ {K V A : Type 0} (cmp : K → K → Ordering) (is_summary : A → List K → Type 0) (old new : Slots (Inner K A) (Leaf K V)) (path : List (InnerNodeId × ℕ × NodeId)) (whole : A) (id : InnerNodeId) where
  -- if a call succeeded, each edit below the path reaches the summary that it returned
  abbrev pub PropagatesUnderflowFrom : {E : Type 0} → A → Result A E → Type 0
  PropagatesUnderflowFrom a result = (c : UnderflowBelowFrom cmp is_summary old path whole id a) → IfOk result (λ top. PropagatedUnderflow c.0.climb new top)

  abbrev pub PropagatesToRootFrom : {E : Type 0} → ℕ → Result A E → Type 0
  PropagatesToRootFrom index result = (c : LeafUnderflowFrom cmp is_summary old path whole id index) → IfOk result (λ top. PropagatedToRoot c.0.climb new top)
