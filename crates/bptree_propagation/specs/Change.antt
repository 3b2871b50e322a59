-- Changes of nodes, as changes of the slots of a store.
use Rattle.std.specs.Prelude.{◌≡◌, ℕ, suc, ◌+◌, ◌≤◌, ◌<◌, List, [], ◌∷◌, ◌++◌, length, slice_get, slice_set, Option, Some, None}
use Rattle.std.specs.declared.cmp.Ordering.{Ordering}
use Rattle.std.specs.declared.cmp.Ordering.TheVariants.{Equal}
use Rattle.std.specs.List.{insert}
use Rattle.bptree_nodes.specs.Inner.{Inner}
use Rattle.bptree_nodes.specs.Leaf.{Leaf}
use Rattle.bptree_nodes.specs.Slot.{Slots, Present, IsPresent, Updates, UpdatesLeaf}
use Rattle.bptree_keys.specs.declared.node_id.InnerNodeId.{InnerNodeId}
use Rattle.bptree_keys.specs.declared.node_id.LeafNodeId.{LeafNodeId}
use Rattle.bptree_keys.specs.declared.node_id.NodeId.{NodeId}
use Rattle.bptree_propagation.specs.Sums.{with_summary}
use Rattle.bptree_propagation.specs.declared.node_changes.NodeSplit.{NodeSplit}

-- the first key of the pairs equals the separator
abbrev pub StartsAt : {K V : Type 0} → (K → K → Ordering) → K → List (K × V) → Type 0
StartsAt cmp separator [] = ⊥
StartsAt cmp separator (p ∷ ps) = cmp separator p.0 ≡ Equal

module _ {K V A : Type 0} (old new : Slots (Inner K A) (Leaf K V)) where
  -- a node keeps its children, and takes a new summary of one
  pub record Keeps (id : InnerNodeId) (index : ℕ) (a : A) (was : Inner K A) : Type 0 where
    pub sets : Updates old.inner new.inner id.0 (Present (with_summary was index a))
    pub leaf : new.leaf ≡ old.leaf

  -- the node with this id keeps its children and takes a new summary of one, whose old summary was
  -- `before`
  abbrev pub TakesSummary : InnerNodeId → ℕ → A → A → Type 0
  TakesSummary id index a before = (was : Inner K A) → old.inner id.0 ≡ Present was → Keeps id index a was × (slice_get was.arguments index ≡ Some before)

  -- a node that has room takes a split child's new summary, a separator and the child behind it
  pub record Links (id : InnerNodeId) (index : ℕ) (l : A) (separator : K) (child : NodeId) (r : A) (was : Inner K A) : Type 0 where
    pub is : Inner K A
    pub sets : Updates old.inner new.inner id.0 (Present is)
    pub leaf : new.leaf ≡ old.leaf
    pub keys : is.keys ≡ insert was.keys index separator
    pub children : is.children ≡ insert was.children (suc index) child
    pub arguments : is.arguments ≡ insert (slice_set was.arguments index l) (suc index) r
    pub room : length was.keys < 64

  -- a full node takes a split child's new summary, a separator and the child behind it, and is
  -- split
  pub record Splits (id : InnerNodeId) (index : ℕ) (l : A) (separator : K) (child : NodeId) (r : A) (was : Inner K A) (up : K) (number : InnerNodeId) : Type 0 where
    pub left : Inner K A
    pub right : Inner K A
    pub absent : IsPresent (old.inner number.0) → ⊥
    pub at_left : new.inner id.0 ≡ Present left
    pub at_right : new.inner number.0 ≡ Present right
    pub others : (n : ℕ) → (n ≡ id.0 → ⊥) → (n ≡ number.0 → ⊥) → new.inner n ≡ old.inner n
    pub leaf : new.leaf ≡ old.leaf
    pub keys : left.keys ++ (up ∷ right.keys) ≡ insert was.keys index separator
    pub children : left.children ++ right.children ≡ insert was.children (suc index) child
    pub arguments : left.arguments ++ right.arguments ≡ insert (slice_set was.arguments index l) (suc index) r
    pub left_children : length left.children ≡ length left.keys + 1
    pub left_arguments : length left.arguments ≡ length left.children
    pub left_least : 16 ≤ length left.keys
    pub left_most : length left.keys ≤ 64
    pub right_least : 16 ≤ length right.keys
    pub right_most : length right.keys ≤ 64

  -- a new node is the parent of two others
  pub record Roots (id : InnerNodeId) (left : NodeId) (l : A) (separator : K) (right : NodeId) (r : A) : Type 0 where
    pub absent : IsPresent (old.inner id.0) → ⊥
    pub sets : Updates old.inner new.inner id.0 (Present (record { keys = separator ∷ []; children = left ∷ right ∷ []; arguments = l ∷ r ∷ [] }))
    pub leaf : new.leaf ≡ old.leaf

  -- a new node is the parent of the root and of the node that was split off it, with the summaries
  -- of a division
  abbrev pub GrowsRoot : NodeId → NodeSplit K A → InnerNodeId × A → Type 0
  GrowsRoot root division done = Roots done.0 root division.left division.separator division.node division.right

  -- the pairs of a leaf after an edit are divided between it and a new leaf behind it
  pub record SplitsLeaf (leaf fresh : LeafNodeId) (was : Leaf K V) (now left right : List (K × V)) : Type 0 where
    pub absent : IsPresent (old.leaf fresh.0) → ⊥
    pub at_left : new.leaf leaf.0 ≡ Present (record was { pairs = left; next = Some fresh })
    pub at_right : new.leaf fresh.0 ≡ Present (record { pairs = right; prev = Some leaf; next = was.next })
    pub others : (n : ℕ) → (n ≡ leaf.0 → ⊥) → (n ≡ fresh.0 → ⊥) → new.leaf n ≡ old.leaf n
    pub inner : new.inner ≡ old.inner
    pub parts : left ++ right ≡ now
    pub left_least : 16 ≤ length left
    pub left_most : length left ≤ 64
    pub right_least : 16 ≤ length right
    pub right_most : length right ≤ 64

  -- a leaf now names another as the one before it
  pub record Names (leaf prev : LeafNodeId) : Type 0 where
    pub was : Leaf K V
    pub here : old.leaf leaf.0 ≡ Present was
    pub sets : UpdatesLeaf old new leaf.0 (Present (record was { prev = Some prev }))

  -- the leaf that a link names, if it names one, has a new leaf before it
  abbrev pub RelinksNext : Option LeafNodeId → LeafNodeId → Type 0
  RelinksNext None fresh = new ≡ old
  RelinksNext (Some leaf) fresh = Names leaf fresh
