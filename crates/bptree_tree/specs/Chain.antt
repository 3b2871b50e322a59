-- Leaves of a store that are linked to one another. Each has a pair, and no leaf occurs twice.
use Rattle.std.specs.Prelude.{◌≡◌, ◌==◌, ℕ, ◌<◌, ◌≤◌, cond, List, [], ◌∷◌, ◌++◌, length, Option}
use Rattle.std.specs.List.{AllByRecursion}
use Rattle.std.specs.Map.Iter.{TakesFirst, TakesLast}
use Rattle.bptree_keys.specs.declared.end.End.{End}
use Rattle.bptree_keys.specs.declared.end.End.TheVariants.{Back, Front}
use Rattle.bptree_keys.specs.declared.node_id.LeafNodeId.{LeafNodeId}
use Rattle.bptree_nodes.specs.Inner.{Inner}
use Rattle.bptree_nodes.specs.Leaf.{Leaf}
use Rattle.bptree_nodes.specs.Slot.{Slots}
use Rattle.bptree_invariant.specs.Leaves.{pairs_of}
use Rattle.bptree_invariant.specs.Order.{total}
use Rattle.bptree_invariant.specs.Shape.{leaf_pairs, AreLinked}
use Rattle.bptree_iter.specs.Span.{leaves_of, pairs_left}
use Rattle.bptree_tree.specs.declared.chain.Ends.{Ends}

module _ {K V A : Type 0} (slots : Slots (Inner K A) (Leaf K V)) where
  -- xs are the pairs from the leaf `first` to the leaf `last`
  pub record IsChain (first last : LeafNodeId) (xs : List (K × V)) : Type 0 where
    pub ids : List LeafNodeId
    pub rest : List LeafNodeId
    pub starts : ids ≡ first ∷ rest
    pub ahead : List LeafNodeId
    pub ends : ids ≡ ahead ++ last ∷ []
    pub before : Option LeafNodeId
    pub after : Option LeafNodeId
    pub linked : AreLinked slots before ids after
    pub full : AllByRecursion (λ (id : LeafNodeId). 0 < length (leaf_pairs (slots.leaf id.0))) ids
    pub once : (n : ℕ) → total (λ (id : LeafNodeId). cond (id.0 == n) 1 0) ids ≤ 1
    pub pairs : xs ≡ pairs_of slots ids

  -- the first `len` pairs along the links from the start of a leaf on
  abbrev pub chain_pairs : LeafNodeId → ℕ → List (K × V)
  chain_pairs first len = pairs_left (leaves_of slots) first 0 len

  -- `len` pairs are left, which are those of the leaves of a chain if there are any
  pub record IsLeft (first last : LeafNodeId) (len : ℕ) : Type 0 where
    pub counted : len ≡ length (chain_pairs first len)
    pub chain : 0 < len → IsChain first last (chain_pairs first len)

-- no member is left, and the list was empty
abbrev pub AreEmpty : {X : Type 0} → List X → List X → Type 0
AreEmpty old new = (old ≡ []) × (new ≡ [])

-- the leaf at one end, its link to the next one inwards, and the ends with another leaf at one of
-- them
abbrev pub end_of : End → Ends → LeafNodeId
end_of Front ends = ends.first
end_of Back ends = ends.last

abbrev pub inward_link : {K V : Type 0} → End → Leaf K V → Option LeafNodeId
inward_link Front leaf = leaf.next
inward_link Back leaf = leaf.prev

abbrev pub with_end : End → Ends → LeafNodeId → Ends
with_end Front ends id = record { first = id; last = ends.last }
with_end Back ends id = record { first = ends.first; last = id }

module _ {X : Type 0} where
  -- members, one at least, were removed from the front of a list, or from its end
  abbrev pub LeaveAt : End → List X → List X → List X → Type 0
  LeaveAt Front gone old new = (old ≡ gone ++ new) × (0 < length gone)
  LeaveAt Back gone old new = (old ≡ new ++ gone) × (0 < length gone)

  -- the first member was removed, or the last one, or the list was empty
  abbrev pub TakesEnd : End → List X → Option X → List X → Type 0
  TakesEnd Front old gone new = TakesFirst (λ x. x) old gone new
  TakesEnd Back old gone new = TakesLast (λ x. x) old gone new

  -- three parts of a list, of which one is near the end in question
  abbrev pub all_from : End → List X → List X → List X → List X
  all_from Front near middle far = near ++ (middle ++ far)
  all_from Back near middle far = far ++ (middle ++ near)

  -- the first or last member of a list in three parts was removed, or the list was empty
  abbrev pub TakesEndOfAll : End → List X → List X → List X → Option X → List X → List X → List X → Type 0
  TakesEndOfAll at near middle far gone near' middle' far' = TakesEnd at (all_from at near middle far) gone (all_from at near' middle' far')
