-- Rotations and merges of two siblings under one parent.
use Rattle.std.specs.Prelude.{◌≡◌, ℕ, ◌+◌, ◌<◌, ◌≤◌, [], ◌∷◌, ◌++◌, length, slice_get, Some}
use Rattle.std.specs.declared.cmp.Ordering.{Ordering}
use Rattle.bptree_nodes.specs.Inner.{Inner, Fits, with_entry, merged_inner}
use Rattle.bptree_nodes.specs.Leaf.{Leaf}
use Rattle.bptree_keys.specs.declared.node_id.NodeId.{NodeId}
use Rattle.bptree_propagation.specs.Sums.{HasChildAt, with_summary, with_split}
use Rattle.bptree_rebalancing.specs.declared.rotate_merge.ParentEntry.{ParentEntry}
use Rattle.bptree_rebalancing.specs.declared.rotate_merge.Sibling.{Sibling}
use Rattle.bptree_rebalancing.specs.declared.rotate_merge.Sibling.TheVariants.{Left, Right}

abbrev pub other_of : Sibling → Sibling
other_of Left = Right
other_of Right = Left

-- the giver has one to give, and its sibling has room
abbrev pub CanGive : Sibling → ℕ → ℕ → Type 0
CanGive Left a b = (0 < a) × (a ≤ 64) × (b < 64)
CanGive Right a b = (0 < b) × (b ≤ 64) × (a < 64)

-- one moves from the giver to its sibling
abbrev pub Moves : Sibling → ℕ → ℕ → ℕ → ℕ → Type 0
Moves Left a b c d = (c + 1 ≡ a) × (d ≡ b + 1)
Moves Right a b c d = (c ≡ a + 1) × (d + 1 ≡ b)

-- the giver has `count` to give, and its sibling has room for them
abbrev pub CanGiveMany : Sibling → ℕ → ℕ → ℕ → Type 0
CanGiveMany Left count a b = (count ≤ a) × (a ≤ 64) × (b + count ≤ 64)
CanGiveMany Right count a b = (count ≤ b) × (b ≤ 64) × (a + count ≤ 64)

-- the giver has enough left after it gives `count`, which is not zero
abbrev pub CanSpare : Sibling → ℕ → ℕ → ℕ → Type 0
CanSpare Left count a b = (0 < count) × (count + 16 ≤ a)
CanSpare Right count a b = (0 < count) × (count + 16 ≤ b)

-- `count` move from the giver to its sibling
abbrev pub MovesMany : Sibling → ℕ → ℕ → ℕ → ℕ → ℕ → Type 0
MovesMany Left count a b c d = (c + count ≡ a) × (d ≡ b + count)
MovesMany Right count a b c d = (c ≡ a + count) × (d + count ≡ b)

module _ {K V : Type 0} where
  -- `count` pairs move between two leaves, of which one follows the other
  pub record MovesPairs (giver : Sibling) (count : ℕ) (left right left' right' : Leaf K V) : Type 0 where
    pub left_links : left' ≡ record left { pairs = left'.pairs }
    pub right_links : right' ≡ record right { pairs = right'.pairs }
    pub pairs : left'.pairs ++ right'.pairs ≡ left.pairs ++ right.pairs
    pub sizes : MovesMany giver count (length left.pairs) (length right.pairs) (length left'.pairs) (length right'.pairs)

  -- two leaves merge: the left one takes all of the right one, and its link to the next
  pub record MergesLeaf (left right left' right' : Leaf K V) : Type 0 where
    pub left_is : left' ≡ record left { pairs = left.pairs ++ right.pairs; next = right.next }
    pub right_is : right' ≡ record right { pairs = [] }

module _ {K A : Type 0} where
  -- one child moves between two inner nodes, and another key separates the two
  pub record MovesChild (giver : Sibling) (left : Inner K A) (s : K) (right left' : Inner K A) (s' : K) (right' : Inner K A) : Type 0 where
    pub keys : left'.keys ++ s' ∷ right'.keys ≡ left.keys ++ s ∷ right.keys
    pub children : left'.children ++ right'.children ≡ left.children ++ right.children
    pub arguments : left'.arguments ++ right'.arguments ≡ left.arguments ++ right.arguments
    pub sizes : Moves giver (length left.keys) (length right.keys) (length left'.keys) (length right'.keys)
    pub left_fits : Fits left' × Fits left
    pub right_fits : Fits right' × Fits right

  pub record MergesInner (left : Inner K A) (s : K) (right left' right' : Inner K A) : Type 0 where
    pub left_is : left' ≡ merged_inner left s right
    pub right_is : right' ≡ record { keys = []; children = []; arguments = [] }

  -- a node has an entry at a slot, and is `bare` without it
  pub record HasEntry (node bare : Inner K A) (slot : ℕ) (s : K) (child : NodeId) (a : A) : Type 0 where
    pub index : HasChildAt bare slot
    pub is : node ≡ with_entry bare slot s child a

  -- a node takes new summaries of a child and of one to its right, behind a separator
  pub record Rotates (cmp : K → K → Ordering) (bare : Inner K A) (slot : ℕ) (child : NodeId) (left_told : A → Type 0) (parts : K → Type 0) (right_told : A → Type 0) (new : Inner K A) (before : A) : Type 0 where
    pub left : A
    pub separator : K
    pub right : A
    pub is : new ≡ with_split bare slot left separator child right
    pub summary : slice_get bare.arguments slot ≡ Some before
    pub reported_left : left_told left
    pub separates : parts separator
    pub reported_right : right_told right

  -- a separator, and the summaries of the children on both sides of it, replace others, which are
  -- returned
  pub record ExchangesJoint (slot : ℕ) (node : Inner K A) (joint out : ParentEntry K A) (new : Inner K A) : Type 0 where
    pub bare : Inner K A
    pub child : NodeId
    pub entry : HasEntry node bare slot out.separator child out.right
    pub summary : slice_get bare.arguments slot ≡ Some out.left
    pub is : new ≡ with_split bare slot joint.left joint.separator child joint.right

  -- a node takes a new summary of a child
  pub record Merges (bare : Inner K A) (slot : ℕ) (reported : A → Type 0) (new : Inner K A) (before : A) : Type 0 where
    pub both : A
    pub is : new ≡ with_summary bare slot both
    pub summary : slice_get bare.arguments slot ≡ Some before
    pub reported_both : reported both
