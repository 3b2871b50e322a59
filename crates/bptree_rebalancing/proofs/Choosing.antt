-- The children of a node, their sizes, and the sibling that is chosen for one that underflows.
use Rattle.std.proofs.Common.{◌≡◌, ℕ, zero, suc, ◌+◌, ◌<◌, ◌≤◌, inl, inr, ◌⊎◌, List, [], ◌∷◌, length, get_or, refl, ap, sym, arith, Option, Some, None, IsSome, slice_get, subst}
use Rattle.std.specs.declared.cmp.Ordering.{Ordering}
use Rattle.std.specs.List.{AllByRecursion, insert}
use Rattle.bptree_nodes.specs.Inner.{Inner}
use Rattle.bptree_nodes.specs.Leaf.{Leaf}
use Rattle.bptree_nodes.specs.Slot.{Slots, Present}
use Rattle.bptree_invariant.specs.Shape.{inner_children}
use Rattle.bptree_invariant.proofs.ListReads.{all_read}
use Rattle.bptree_keys.specs.Numbers.{inner_number, leaf_number}
use Rattle.bptree_keys.specs.declared.node_id.InnerNodeId.{InnerNodeId}
use Rattle.bptree_keys.specs.declared.node_id.NodeId.{NodeId}
use Rattle.bptree_keys.specs.declared.node_id.NodeId.TheVariants as kind
use Rattle.bptree_keys.proofs.PieceLemmas.{AllByRecursion-weaker}
use Rattle.bptree_propagation.specs.Climb.{least_at}
use Rattle.bptree_rebalancing.specs.ChooseSibling.{ChoosesSibling, HasOneChildMore, NodesBelow, node_size, child_size, size_below, IsInnerAt, IsLeafAt, IsNodeAt}
use Rattle.bptree_invariant.specs.Order.{total, Chain}
use Rattle.bptree_invariant.specs.Path.{Way}
use Rattle.bptree_rebalancing.specs.Transfer.{CanGive, CanGiveMany, CanSpare, Moves, MovesMany}
use Rattle.bptree_rebalancing.specs.declared.rotate_merge.Sibling.{Sibling}
use Rattle.bptree_rebalancing.specs.declared.rotate_merge.Sibling.TheVariants.{Left, Right}

module _ {K V A : Type 0} (slots : Slots (Inner K A) (Leaf K V)) where
  pub size_read : (cs : List NodeId) (i : ℕ) (c : NodeId) → slice_get cs i ≡ Some c → child_size slots cs i ≡ node_size slots c
  size_read [] i c read = cc
  size_read (d ∷ cs) zero c read = let same : d ≡ c = cc in ap (node_size slots) same
  size_read (d ∷ cs) (suc i) c read = size_read cs i c read

  pub size_past : (cs : List NodeId) (i : ℕ) → length cs ≤ i → child_size slots cs i ≡ 0
  size_past [] i past = refl
  size_past (d ∷ cs) zero past = absurd (omega arith)
  size_past (d ∷ cs) (suc i) past = size_past cs i (omega arith)

  -- facts of a child that is read from the node with this id
  module _ {id : InnerNodeId} {node : Inner K A} (here : slots.inner id.0 ≡ Present node) (index : ℕ) where
    pub none_below : HasOneChildMore slots id → length node.keys < index → 0 ≡ size_below slots id index
    none_below long past = sym (size_past (inner_children (slots.inner id.0)) index (rw here (let z = rw here at long in omega (arith, z, past))))

    pub node_below : NodesBelow slots id → (child : NodeId) → slice_get node.children index ≡ Some child → IsNodeAt slots child
    node_below all child read = all_read (IsNodeAt slots) (inner_children (slots.inner id.0)) index child all (rw here read)

    pub size_there : (child : NodeId) → slice_get node.children index ≡ Some child → node_size slots child ≡ size_below slots id index
    size_there child read = sym (size_read (inner_children (slots.inner id.0)) index child (rw here read))

  -- the id of an inner node is that of an inner node, and the id of a leaf is that of a leaf
  pub inner_numbered : (c : NodeId) → IsInnerAt slots c → IsSome (inner_number c)
  inner_numbered (kind.Leaf id) there = absurd there
  inner_numbered (kind.Inner id) there = refl

  pub leaf_numbered : (c : NodeId) → IsLeafAt slots c → IsSome (leaf_number c)
  leaf_numbered (kind.Leaf id) there = refl
  leaf_numbered (kind.Inner id) there = absurd there

  leaf_is_node : (c : NodeId) → IsLeafAt slots c → IsNodeAt slots c
  leaf_is_node (kind.Leaf id) there = there
  leaf_is_node (kind.Inner id) there = absurd there

  inner_is_node : (c : NodeId) → IsInnerAt slots c → IsNodeAt slots c
  inner_is_node (kind.Leaf id) there = absurd there
  inner_is_node (kind.Inner id) there = there

  -- present leaves are present nodes, and so are present inner nodes
  pub nodes_of_leaves : (cs : List NodeId) → AllByRecursion (IsLeafAt slots) cs → AllByRecursion (IsNodeAt slots) cs
  nodes_of_leaves cs all = AllByRecursion-weaker (IsLeafAt slots) (IsNodeAt slots) leaf_is_node cs all

  pub nodes_of_inners : (cs : List NodeId) → AllByRecursion (IsInnerAt slots) cs → AllByRecursion (IsNodeAt slots) cs
  nodes_of_inners cs all = AllByRecursion-weaker (IsInnerAt slots) (IsNodeAt slots) inner_is_node cs all

-- what follows of any child of a chain holds of each
pub chain_all : {C K : Type 0} (cmp : K → K → Ordering) (P : C → Option K → Option K → Type 0) (Q : C → Type 0) → ((c : C) (a b : Option K) → P c a b → Q c) → (ks : List K) (cs : List C) (lo hi : Option K) → Chain cmp P ks cs lo hi → AllByRecursion Q cs
chain_all cmp P Q so ks [] lo hi h = absurd h
chain_all cmp P Q so [] (c ∷ []) lo hi h = (so c lo hi h, tt)
chain_all cmp P Q so [] (c ∷ d ∷ cs) lo hi h = absurd h
chain_all cmp P Q so (k ∷ ks) (c ∷ cs) lo hi h = (so c lo (Some k) h.0, chain_all cmp P Q so ks cs (Some k) hi h.2)

module _ {X : Type 0} where
  -- two siblings count at most what all children do
  pub two_in_total : (f : X → ℕ) (xs : List X) (i : ℕ) (x y : X) → slice_get xs i ≡ Some x → slice_get xs (suc i) ≡ Some y → f x + f y ≤ total f xs
  two_in_total f [] i x y one other = cc
  two_in_total f (z ∷ []) zero x y one other = cc
  two_in_total f (z ∷ w ∷ xs) zero x y one other = let p : z ≡ x = cc in let q : w ≡ y = cc in omega (arith, ap f p, ap f q)
  two_in_total f (z ∷ xs) (suc i) x y one other = omega (arith, two_in_total f xs i x y one other)

  -- the item at the index of an insertion is the inserted one, and the item before it stays
  pub inserted_is : (xs : List X) (i : ℕ) (given x : X) → i ≤ length xs → slice_get (insert xs i given) i ≡ Some x → given ≡ x
  inserted_is xs zero given x below read = cc
  inserted_is [] (suc i) given x below read = absurd (omega arith)
  inserted_is (z ∷ xs) (suc i) given x below read = inserted_is xs i given x (omega arith) read

  pub before_is : (xs : List X) (i : ℕ) (given x d : X) → i < length xs → slice_get (insert xs (suc i) given) i ≡ Some x → get_or xs i d ≡ x
  before_is [] i given x d below read = absurd (omega arith)
  before_is (z ∷ xs) zero given x d below read = cc
  before_is (z ∷ xs) (suc i) given x d below read = before_is xs i given x d (omega arith) read

-- a node above others has a key
pub key_of : {K V A : Type 0} (cmp : K → K → Ordering) (slots : Slots (Inner K A) (Leaf K V)) (k : K) (root id : NodeId) (h : ℕ) (path : List (InnerNodeId × ℕ × NodeId)) (top : ℕ) → Way cmp slots k top root path (suc h) id → 1 ≤ least_at top path
key_of cmp slots k root id h [] zero way = absurd (omega (arith, way.0))
key_of cmp slots k root id h [] (suc m) way = omega arith
key_of cmp slots k root id h (x ∷ xs) top way = omega arith

-- the chosen sibling is beside the child that underflows
pub beside_of : (size : ℕ → ℕ) (i slot : ℕ) (giver : Option Sibling) → ChoosesSibling size i slot giver → (i ≡ slot) ⊎ (i ≡ suc slot)
beside_of size i slot None chosen = elim chosen [ inl h ↦ inr (sym h.0) | inr h ↦ inl (sym h.0) ]
beside_of size i slot (Some Left) chosen = inr (sym chosen.0)
beside_of size i slot (Some Right) chosen = inl (sym chosen.0)

size_some : {K V A : Type 0} (slots : Slots (Inner K A) (Leaf K V)) (cs : List NodeId) (j : ℕ) → 0 < child_size slots cs j → j < length cs
size_some slots [] j some = absurd (omega arith)
size_some slots (d ∷ cs) zero some = omega arith
size_some slots (d ∷ cs) (suc j) some = omega (arith, size_some slots cs j some)

-- the separator between the child and its sibling exists
pub within_of : {K V A : Type 0} (slots : Slots (Inner K A) (Leaf K V)) (cs : List NodeId) (keys i slot : ℕ) (giver : Option Sibling) → length cs ≡ keys + 1 → i ≤ keys → 1 ≤ keys → ChoosesSibling (child_size slots cs) i slot giver → slot < keys
within_of slots cs keys i slot None long within some chosen = elim chosen [ inl h ↦ omega (arith, h.0) | inr h ↦ omega (arith, h.0, h.1) ]
within_of slots cs keys i slot (Some Left) long within some chosen = omega (arith, chosen.0)
within_of slots cs keys i slot (Some Right) long within some chosen = omega (arith, size_some slots cs (suc slot) (omega (arith, chosen.1)))

-- the sizes of the two on both sides of the separator, if the child at the index is short
module _ (size : ℕ → ℕ) (i slot a b : ℕ) (left : size slot ≡ a) (right : size (suc slot) ≡ b) (short : size i < 16) where
  short_left : slot ≡ i → a < 16
  short_left e = let z = subst (λ n. size n < 16) (sym e) short in omega (arith, z)

  short_right : suc slot ≡ i → b < 16
  short_right e = let z = subst (λ n. size n < 16) (sym e) short in omega (arith, z)

  pub rotates_so : (giver : Sibling) → a ≤ 64 → b ≤ 64 → ChoosesSibling size i slot (Some giver) → CanGive giver a b
  rotates_so Left a_most b_most chosen = (omega (arith, chosen.1), a_most, omega (arith, short_right chosen.0))
  rotates_so Right a_most b_most chosen = (omega (arith, chosen.1), b_most, omega (arith, short_left chosen.0))

  -- after a rotation both have enough
  pub enough_so : (giver : Sibling) (x y : ℕ) → 15 ≤ a → 15 ≤ b → ChoosesSibling size i slot (Some giver) → Moves giver a b x y → (16 ≤ x) × (16 ≤ y)
  enough_so Left x y a_least b_least chosen moves = (omega (arith, chosen.1, moves.0), omega (arith, moves.1))
  enough_so Right x y a_least b_least chosen moves = (omega (arith, moves.0), omega (arith, chosen.1, moves.1))

  -- the giver has more than 16, so it can spare one
  pub spares_one : (giver : Sibling) → ChoosesSibling size i slot (Some giver) → CanSpare giver 1 a b
  spares_one Left chosen = (omega arith, omega (arith, chosen.1))
  spares_one Right chosen = (omega arith, omega (arith, chosen.1))

  pub gives_so : (giver : Sibling) (n : ℕ) → a ≤ 64 → b ≤ 64 → ChoosesSibling size i slot (Some giver) → CanSpare giver n a b → CanGiveMany giver n a b
  gives_so Left n a_most b_most chosen spares = (omega (arith, spares.1), a_most, omega (arith, spares.1, short_right chosen.0))
  gives_so Right n a_most b_most chosen spares = (omega (arith, spares.1), b_most, omega (arith, spares.1, short_left chosen.0))

  -- if neither gives, the two fit into one
  pub fits_so : ChoosesSibling size i slot None → a + b < 64
  fits_so chosen = elim chosen [ inl h ↦ omega (arith, h.1, short_right h.0) | inr h ↦ omega (arith, h.2, short_left h.0) ]

-- after a rotation of leaves both have enough, and neither has more than fit
pub enough_many : (giver : Sibling) (n a b x y : ℕ) → 15 ≤ a → 15 ≤ b → CanSpare giver n a b → MovesMany giver n a b x y → (16 ≤ x) × (16 ≤ y)
enough_many Left n a b x y a_least b_least spares moves = (omega (arith, spares.1, moves.0), omega (arith, spares.0, moves.1))
enough_many Right n a b x y a_least b_least spares moves = (omega (arith, spares.0, moves.0), omega (arith, spares.1, moves.1))

pub most_many : (giver : Sibling) (n a b x y : ℕ) → CanGiveMany giver n a b → MovesMany giver n a b x y → (x ≤ 64) × (y ≤ 64)
most_many Left n a b x y can moves = (omega (arith, can.1, moves.0), omega (arith, can.2, moves.1))
most_many Right n a b x y can moves = (omega (arith, can.2, moves.0), omega (arith, can.1, moves.1))

-- after a rotation of inner nodes neither has more than fit
pub most_so : (giver : Sibling) (a b x y : ℕ) → CanGive giver a b → Moves giver a b x y → (x ≤ 64) × (y ≤ 64)
most_so Left a b x y can moves = (omega (arith, can.1, moves.0), omega (arith, can.2, moves.1))
most_so Right a b x y can moves = (omega (arith, can.2, moves.0), omega (arith, can.1, moves.1))
