-- Positions in a tree at which a pair is.
use Rattle.std.specs.Prelude.{◌≡◌, ℕ, ◌+◌, ◌-◌, ◌<◌, ◌++◌, List, drop, length}
use Rattle.bptree_keys.specs.Ranges.{part}
use Rattle.bptree_keys.specs.declared.node_id.LeafNodeId.{LeafNodeId}
use Rattle.bptree_keys.specs.declared.node_id.Position.{Position}
use Rattle.bptree_nodes.specs.Inner.{Inner}
use Rattle.bptree_nodes.specs.Leaf.{Leaf}
use Rattle.bptree_nodes.specs.Slot.{Present, Slots}
use Rattle.bptree_ranges.specs.Ranges.{index_on, IsSettled}
use Rattle.bptree_invariant.specs.Leaves.{pairs_of}
use Rattle.bptree_invariant.specs.NodeTree.{NodeTree}

module _ {S K V A : Type 0} (slots : S → Slots (Inner K A) (Leaf K V)) (tree : NodeTree S K V A) where
  -- the number of pairs before a position
  abbrev pub index_of_position : Position → ℕ
  index_of_position at = index_on (slots tree.store) tree.height tree.root at

  -- the pairs from a position on
  abbrev pub rest_of : Position → List (K × V)
  rest_of at = drop (index_of_position at) tree.contents

  -- the position is that of a pair, or the end
  abbrev pub IsAtPair : Position → Type 0
  IsAtPair at = IsSettled (slots tree.store) tree.height tree.root (index_of_position at) at

  -- the leaf of a position is this one
  abbrev pub IsLeafOfPosition : Position → Leaf K V → Type 0
  IsLeafOfPosition at leaf = (slots tree.store).leaf at.leaf.0 ≡ Present leaf

  -- pairs are before a position, and one is at it or behind it
  abbrev pub IsInside : Position → Type 0
  IsInside at = (0 < index_of_position at) × (index_of_position at < length tree.contents)

  -- the pairs from one position up to another
  abbrev pub part_to : Position → Position → List (K × V)
  part_to from to = part tree.contents (index_of_position from) (index_of_position to - index_of_position from)

  -- so many pairs are at a position and behind it
  abbrev pub IsRest : Position → ℕ → Type 0
  IsRest at count = index_of_position at + count ≡ length tree.contents

  -- the pairs of these leaves are the last ones
  abbrev pub AreLast : List LeafNodeId → Type 0
  AreLast ids = (before : List (K × V)) × (tree.contents ≡ before ++ pairs_of (slots tree.store) ids)

  -- a position is so many pairs behind another, but for those that are missing at the end of all
  pub record IsBehind (from : Position) (count : ℕ) (at : Position) (missing : ℕ) : Type 0 where
    pub settled : IsAtPair at
    pub sum : index_of_position at + missing ≡ index_of_position from + count
    pub end : 0 < missing → index_of_position at ≡ length tree.contents
