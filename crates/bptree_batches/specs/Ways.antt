-- The states of the descents of many keys.
use Rattle.std.specs.Prelude.{◌≡◌, ℕ, zero, suc, List, [], ◌∷◌, Option}
use Rattle.std.specs.declared.cmp.Ordering.{Ordering}
use Rattle.std.specs.List.{AllZip}
use Rattle.bptree_keys.specs.Contents.{IsAscending, value}
use Rattle.bptree_keys.specs.declared.node_id.LeafNodeId.{LeafNodeId}
use Rattle.bptree_keys.specs.declared.node_id.NodeId.{NodeId}
use Rattle.bptree_keys.specs.declared.node_id.NodeId.TheVariants as kind
use Rattle.bptree_nodes.specs.Inner.{Inner}
use Rattle.bptree_nodes.specs.Leaf.{Leaf}
use Rattle.bptree_nodes.specs.Slot.{Slots, Present, IsPresent}
use Rattle.bptree_invariant.specs.Leaves.{IsStored, IsLeafFor}

module _ {K V A : Type 0} (cmp : K → K → Ordering) (slots : Slots (Inner K A) (Leaf K V)) where
  -- the node is the root of a tree of a height, and the leaf for the key in that tree is the leaf
  -- for it in the whole tree
  pub record IsOnWay (top : ℕ) (root : NodeId) (h : ℕ) (k : K) (node : NodeId) : Type 0 where
    pub stored : IsStored cmp slots h node
    pub leads : (leaf : LeafNodeId) → IsLeafFor cmp slots h node k leaf → IsLeafFor cmp slots top root k leaf

  -- the node is the leaf for the key
  abbrev pub IsLeafNodeFor : ℕ → NodeId → K → NodeId → Type 0
  IsLeafNodeFor h root k (kind.Leaf id) = IsLeafFor cmp slots h root k id
  IsLeafNodeFor h root k (kind.Inner id) = ⊥

  -- the node at each index is the leaf for the key at that index, and there are as many nodes as
  -- keys
  abbrev pub AreLeavesFor : ℕ → NodeId → List K → List NodeId → Type 0
  AreLeavesFor h root keys nodes = AllZip (IsLeafNodeFor h root) keys nodes

  -- the value of a key in the leaf at a node id
  abbrev pub ReadsLeaf : NodeId → K → Option V → Type 0
  ReadsLeaf id k found = (leaf : LeafNodeId) (node : Leaf K V) → id ≡ kind.Leaf leaf → slots.leaf leaf.0 ≡ Present node → IsAscending cmp node.pairs → found ≡ value cmp node.pairs k

module _ {K V A : Type 0} (slots : Slots (Inner K A) (Leaf K V)) where
  -- there is a leaf at the node id
  abbrev pub IsLeafThere : NodeId → Type 0
  IsLeafThere (kind.Leaf id) = IsPresent (slots.leaf id.0)
  IsLeafThere (kind.Inner id) = ⊥

-- P holds of the members of two lists at each of the first n indexes, and Q at each later one
abbrev pub AllSplit : {X Y : Type 0} → (X → Y → Type 0) → (X → Y → Type 0) → ℕ → List X → List Y → Type 0
AllSplit P Q n [] [] = Unit {0}
AllSplit P Q n [] (y ∷ ys) = ⊥
AllSplit P Q n (x ∷ xs) [] = ⊥
AllSplit P Q zero (x ∷ xs) (y ∷ ys) = Q x y × AllSplit P Q zero xs ys
AllSplit P Q (suc n) (x ∷ xs) (y ∷ ys) = P x y × AllSplit P Q n xs ys
