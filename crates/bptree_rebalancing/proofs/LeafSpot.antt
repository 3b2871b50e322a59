-- A leaf that underflows, at a child index of a node, and the leaves beside it.
use Rattle.std.proofs.Common.{◌≡◌, ℕ, suc, ◌+◌, ◌<◌, ◌≤◌, ◌^◌, inl, inr, ◌⊎◌, zero, List, [], ◌∷◌, ◌++◌, length, take, drop, refl, sym, ap, subst, ◌∙◌, arith, add-one, append_assoc, append-nil, Option, Some, None, slice_get}
use Rattle.std.specs.declared.cmp.Ordering.{Ordering}
use Rattle.std.specs.Cmp.{IsTotalOrder}
use Rattle.std.specs.List.{AllByRecursion}
use Rattle.std.proofs.lemmas.Bool.{eq-eqb}
use Rattle.std.proofs.lemmas.Bool.Decides.{eqb_tells}
use Rattle.std.proofs.lemmas.Option.{get_or_from_slice_get}
use Rattle.bptree_nodes.specs.Inner.{Inner}
use Rattle.bptree_nodes.specs.Leaf.{Leaf}
use Rattle.bptree_nodes.specs.Slot.{Slot, Slots, Present, IsPresent}
use Rattle.bptree_keys.specs.declared.node_id.InnerNodeId.{InnerNodeId}
use Rattle.bptree_keys.specs.declared.node_id.LeafNodeId.{LeafNodeId}
use Rattle.bptree_keys.specs.declared.node_id.NodeId.{NodeId}
use Rattle.bptree_keys.specs.declared.node_id.NodeId.TheVariants as kind
use Rattle.bptree_keys.proofs.PieceLemmas.{AllByRecursion-weaker}
use Rattle.bptree_propagation.specs.Climb.{least_at}
use Rattle.bptree_invariant.specs.Edit.{CanReach, Spares, SameLinks, LinksAt, Extends}
use Rattle.bptree_rebalancing.specs.ChooseSibling.{ChoosesSibling, node_size, child_size, IsLeafAt, AllLeaves}
use Rattle.bptree_invariant.specs.Order.{flat, Chain}
use Rattle.bptree_invariant.specs.Outcome.{Done}
use Rattle.bptree_invariant.specs.Path.{Way}
use Rattle.bptree_invariant.specs.Shape.{leaf_pairs, leaf_next, inner_keys, inner_children, pairs_at, leaves_at, leaf_count, stored, AreLinked, IsSummed, IsTree}
use Rattle.bptree_rebalancing.specs.Transfer.{CanGiveMany, CanSpare, MovesMany}
use Rattle.bptree_propagation.specs.Sums.{HasChildAt, IndexAt}
use Rattle.bptree_rebalancing.specs.Trim.{LeafUnderflow}
use Rattle.bptree_rebalancing.specs.declared.rotate_merge.Sibling.{Sibling}
use Rattle.bptree_invariant.proofs.Agreeing.{stored_le, present_if_stored, stored_if_present}
use Rattle.bptree_propagation.proofs.Climbing.{last, can, summed_there, stays, has_index, most, few_there}
use Rattle.bptree_rebalancing.proofs.Choosing as choosing
use Rattle.bptree_invariant.proofs.Hinted.{linked_next}
use Rattle.bptree_rebalancing.proofs.Seated.{SubtreeAt, seat_of, seat_size}
use Rattle.bptree_invariant.proofs.Walk.{flat_parts}
use Rattle.bptree_invariant.proofs.Ways.{LastStep}
use Rattle.bptree_invariant.proofs.Widen.{Grown, grown_done, own_leaves}
use Rattle.bptree_invariant.proofs.ListReads.{all_read, read_below}

-- a leaf of 15 to 64 pairs
abbrev pub IsFullLeaf : {K V A : Type 0} → Slots (Inner K A) (Leaf K V) → NodeId → Type 0
IsFullLeaf slots (kind.Leaf id) = IsPresent (slots.leaf id.0) × (15 ≤ length (leaf_pairs (slots.leaf id.0))) × (length (leaf_pairs (slots.leaf id.0)) ≤ 64)
IsFullLeaf slots (kind.Inner id) = ⊥

module _ {K V A : Type 0} (slots : Slots (Inner K A) (Leaf K V)) where
  full_of : (cmp : K → K → Ordering) (c : NodeId) (a b : Option K) → IsTree cmp slots 15 0 c a b → IsFullLeaf slots c
  full_of cmp (kind.Leaf id) a b t = (t.0, t.3, t.4)
  full_of cmp (kind.Inner id) a b t = absurd t

  leaf_of : (c : NodeId) → IsFullLeaf slots c → IsLeafAt slots c
  leaf_of (kind.Leaf id) f = f.0
  leaf_of (kind.Inner id) f = absurd f

  size_of : (c : NodeId) → IsFullLeaf slots c → node_size slots c ≡ length (pairs_at slots 0 c)
  size_of (kind.Leaf id) f = refl
  size_of (kind.Inner id) f = absurd f

-- a leaf is counted by its id alone
count_low : {K V A : Type 0} (s t : Slots (Inner K A) (Leaf K V)) (c : NodeId) (n : ℕ) → leaf_count s 0 c n ≡ leaf_count t 0 c n
count_low s t (kind.Leaf id) n = refl
count_low s t (kind.Inner id) n = refl

parts_moved : {X : Type 0} (l b x a r : List X) → l ++ ((b ++ (x ++ a)) ++ r) ≡ (l ++ b) ++ (x ++ (a ++ r))
parts_moved l b x a r = ap (λ y. l ++ y) (append_assoc b (x ++ a) r ∙ ap (λ y. b ++ y) (append_assoc x a r)) ∙ sym (append_assoc l b (x ++ (a ++ r)))

-- the leaves below a node of a path are contiguous among all leaves
way_leaves : {K V A : Type 0} (cmp : K → K → Ordering) (slots : Slots (Inner K A) (Leaf K V)) (k : K) (path : List (InnerNodeId × ℕ × NodeId)) (top : ℕ) (root : NodeId) (h : ℕ) (id : NodeId) → Way cmp slots k top root path h id
    → (before : List LeafNodeId) × (after : List LeafNodeId) × (leaves_at slots top root ≡ before ++ (leaves_at slots h id ++ after))
way_leaves cmp slots k [] top root h id way =
    ([], [], ap (λ n. leaves_at slots n root) way.0 ∙ (ap (λ x. leaves_at slots h x) way.1 ∙ sym (append-nil (leaves_at slots h id))))
way_leaves cmp slots k (entry ∷ path) zero root h id way = absurd way
way_leaves {K} {V} {A} cmp slots k ((n, j, c) ∷ path) (suc m) root h id (e, node, is, leads, read, below) =
    let r = way_leaves cmp slots k path m c h id below in
    let l = flat (leaves_at slots m) (take j node.children) in
    let s = flat (leaves_at slots m) (drop (suc j) node.children) in (
      l ++ r.0,
      r.1 ++ s,
      ap (λ x. leaves_at slots (suc m) x) e
          ∙ (ap (λ (x : Slot (Inner K A)). flat (leaves_at slots m) (inner_children x)) is
          ∙ (flat_parts (leaves_at slots m) node.children j c (read_below node.children j c read)
          ∙ (ap (λ x. l ++ (leaves_at slots m x ++ s)) (get_or_from_slice_get node.children j c c read)
          ∙ (ap (λ x. l ++ (x ++ s)) r.2 ∙ parts_moved l r.0 (leaves_at slots h id) r.1 s)))),
    )

module _ {K V A : Type 0} {cmp : K → K → Ordering} (total' : IsTotalOrder cmp) (is_summary : A → List K → Type 0) (now : Slots (Inner K A) (Leaf K V)) (path : List (InnerNodeId × ℕ × NodeId)) (number : InnerNodeId) (i : ℕ)
    (c : LeafUnderflow cmp is_summary now path number i) where
  abbrev pub step : LastStep cmp c.climb.old c.climb.k c.climb.top c.climb.root path number i c.climb.height c.climb.id
  step = last total' is_summary now (path ++ (number, i, c.child) ∷ []) Done c.climb path number i c.child refl

  abbrev pub node : Inner K A
  node = step.node

  pub at : CanReach cmp c.climb.old (suc c.climb.height) (kind.Inner number) c.climb.k
  at = can total' is_summary now (path ++ (number, i, c.child) ∷ []) Done c.climb path number i c.child refl

  pub here : now.inner number.0 ≡ Present node
  here = stays total' is_summary now (path ++ (number, i, c.child) ∷ []) Done c.climb path number i c.child refl

  pub index : HasChildAt node i
  index = has_index total' is_summary now (path ++ (number, i, c.child) ∷ []) Done c.climb path number i c.child refl

  pub low : length node.keys ≤ 64
  low = most total' is_summary now (path ++ (number, i, c.child) ∷ []) Done c.climb path number i c.child refl

  pub summed : IsSummed c.climb.old is_summary (suc c.climb.height) (kind.Inner number)
  summed = summed_there total' is_summary now (path ++ (number, i, c.child) ∷ []) Done c.climb path number i c.child refl

  pub few : length (c.climb.edit (pairs_at c.climb.old (suc c.climb.height) (kind.Inner number))) < 2 ^ 64
  few = few_there total' is_summary now (path ++ (number, i, c.child) ∷ []) Done c.climb path number i c.child refl

  pub seat : SubtreeAt cmp c.climb.old c.climb.k (least_at c.climb.top path) (suc c.climb.height) (kind.Inner number)
  seat = seat_of cmp c.climb.old c.climb.k path c.climb.top c.climb.root (suc c.climb.height) (kind.Inner number) step.way c.climb.shape

  grown : Grown total' is_summary c.climb.edit c.climb.kept c.climb.old now c.climb.height number c.climb.k node i c.climb.id c.climb.leaf c.climb.turn c.climb.local at step.is step.leads step.read 15 node.keys node.children
  grown = grown_done total' is_summary c.climb.edit c.climb.kept c.climb.old now c.climb.height number c.climb.k node i c.climb.id c.climb.leaf c.climb.turn c.climb.local at step.is step.leads step.read 15 c.enough (omega arith) c.climb.edits

  all_full : AllByRecursion (IsFullLeaf now) node.children
  all_full =
      choosing.chain_all cmp (IsTree cmp now 15 c.climb.height) (IsFullLeaf now) (λ x lo hi t. full_of now cmp x lo hi (subst (λ n. IsTree cmp now 15 n x lo hi) c.low t)) node.keys node.children at.low at.high
      (grown.chain at.low at.high (subst (λ (x : Slot (Inner K A)). Chain cmp (IsTree cmp c.climb.old 16 c.climb.height) (inner_keys x) (inner_children x) at.low at.high) step.is at.tree.1) at.fits)

  pub all_leaves : AllLeaves now node.children
  all_leaves = AllByRecursion-weaker (IsFullLeaf now) (IsLeafAt now) (leaf_of now) node.children all_full

  pub full_at : (j : ℕ) (x : LeafNodeId) → slice_get node.children j ≡ Some (kind.Leaf x) → IsFullLeaf now (kind.Leaf x)
  full_at j x read = all_read (IsFullLeaf now) node.children j (kind.Leaf x) all_full read

  size_at : (j : ℕ) (x : LeafNodeId) → slice_get node.children j ≡ Some (kind.Leaf x) → child_size now node.children j ≡ length (leaf_pairs (now.leaf x.0))
  size_at j x read = choosing.size_read now node.children j (kind.Leaf x) read

  size_here : child_size now node.children i < 16
  size_here =
      let full = all_read (IsFullLeaf now) node.children i c.climb.id all_full step.read in
      let size : length (pairs_at now 0 c.climb.id) ≡ 15 = subst (λ n. length (pairs_at now n c.climb.id) ≡ 15) c.low c.short in
      omega (arith, choosing.size_read now node.children i c.climb.id step.read, size_of now c.climb.id full, size)

  -- the leaves keep their order and their links
  pub same_order : flat (leaves_at c.climb.old c.climb.height) node.children ≡ flat (leaves_at now c.climb.height) node.children
  same_order =
      let o = subst (λ t. Extends (flat (leaves_at c.climb.old c.climb.height) node.children) c.climb.leaf t (flat (leaves_at now c.climb.height) node.children)) c.stays grown.order in
      o.was ∙ sym o.is

  same_stored : (x : ℕ) → stored (now.leaf x) ≡ stored (c.climb.old.leaf x)
  same_stored x =
      let e = subst (λ m. leaf_count now m c.climb.id x + stored (c.climb.old.leaf x) ≡ leaf_count c.climb.old m c.climb.id x + stored (now.leaf x)) c.low (c.climb.edits.leaves x) in
      omega (arith, e, count_low now c.climb.old c.climb.id x)

  pub there_now : (x : LeafNodeId) → IsPresent (c.climb.old.leaf x.0) → IsPresent (now.leaf x.0)
  there_now x some = present_if_stored (now.leaf x.0) (omega (arith, same_stored x.0, stored_if_present (c.climb.old.leaf x.0) some))

  pub there_was : (x : LeafNodeId) → IsPresent (now.leaf x.0) → IsPresent (c.climb.old.leaf x.0)
  there_was x some = present_if_stored (c.climb.old.leaf x.0) (omega (arith, same_stored x.0, stored_if_present (now.leaf x.0) some))

  pub links_now : (x : LeafNodeId) → IsPresent (c.climb.old.leaf x.0) → SameLinks c.climb.old now x
  links_now x some =
      elim (eqb_tells x.0 c.climb.leaf.0) [
        | inl same ↦ (let at_leaf : SameLinks c.climb.old now c.climb.leaf = subst (LinksAt c.climb.old now c.climb.leaf) c.stays c.climb.edits.links in rw same.1 at_leaf)
        | inr other ↦ (c.climb.edits.untouched x other.1 (subst (λ t. Spares t x.0) (sym c.stays) tt) some).0
      ]

  some_key : 1 ≤ length node.keys
  some_key =
      omega (
        arith,
        choosing.key_of cmp c.climb.old c.climb.k c.climb.root (kind.Inner number) c.climb.height path c.climb.top step.way,
        seat_size cmp c.climb.old c.climb.k (least_at c.climb.top path) c.climb.height number node step.is seat,
      )

  pub within_of : (slot : ℕ) (giver : Option Sibling) → ChoosesSibling (child_size now node.children) i slot giver → slot < length node.keys
  within_of slot giver chosen = choosing.within_of now node.children (length node.keys) i slot giver index.children index.within some_key chosen

  pub beside_of : (slot : ℕ) (giver : Option Sibling) → ChoosesSibling (child_size now node.children) i slot giver → (i ≡ slot) ⊎ (i ≡ suc slot)
  beside_of slot giver chosen = choosing.beside_of (child_size now node.children) i slot giver chosen

  -- two leaves on both sides of a separator
  module _ (slot : ℕ) (left right : LeafNodeId) (read_left : slice_get node.children slot ≡ Some (kind.Leaf left)) (read_right : slice_get node.children (slot + 1) ≡ Some (kind.Leaf right)) where
    owned : (x : ℕ) → leaf_count now 0 (kind.Leaf left) x + leaf_count now 0 (kind.Leaf right) x ≤ stored (now.leaf x)
    owned x =
        subst (λ m. leaf_count now m (kind.Leaf left) x + leaf_count now m (kind.Leaf right) x ≤ stored (now.leaf x)) c.low
        (omega (
          arith,
          grown.leaves x,
          own_leaves c.climb.old c.climb.height number c.climb.k node i c.climb.id at step.is step.leads x,
          choosing.two_in_total (λ d. leaf_count now c.climb.height d x) node.children slot (kind.Leaf left) (kind.Leaf right) read_left (rw add-one at read_right),
        ))

    pub apart : left.0 ≡ right.0 → ⊥
    apart q = let two = rw (eq-eqb left.0 left.0 refl, eq-eqb right.0 left.0 (sym q)) at (owned left.0) in omega (arith, two, stored_le (now.leaf left.0))

    left_size : child_size now node.children slot ≡ length (leaf_pairs (now.leaf left.0))
    left_size = size_at slot left read_left

    right_size : child_size now node.children (suc slot) ≡ length (leaf_pairs (now.leaf right.0))
    right_size = ap (child_size now node.children) (omega arith) ∙ size_at (slot + 1) right read_right

    pub spares_here : (giver : Sibling) → ChoosesSibling (child_size now node.children) i slot (Some giver) → CanSpare giver 1 (length (leaf_pairs (now.leaf left.0))) (length (leaf_pairs (now.leaf right.0)))
    spares_here giver chosen = choosing.spares_one (child_size now node.children) i slot _ _ left_size right_size size_here giver chosen

    pub rotates_here : (giver : Sibling) (n : ℕ) → ChoosesSibling (child_size now node.children) i slot (Some giver) → CanSpare giver n (length (leaf_pairs (now.leaf left.0))) (length (leaf_pairs (now.leaf right.0)))
        → CanGiveMany giver n (length (leaf_pairs (now.leaf left.0))) (length (leaf_pairs (now.leaf right.0)))
    rotates_here giver n chosen spares = choosing.gives_so (child_size now node.children) i slot _ _ left_size right_size size_here giver n (full_at slot left read_left).2 (full_at (slot + 1) right read_right).2 chosen spares

    pub enough_then : (giver : Sibling) (n x y : ℕ) → CanSpare giver n (length (leaf_pairs (now.leaf left.0))) (length (leaf_pairs (now.leaf right.0))) → MovesMany giver n (length (leaf_pairs (now.leaf left.0))) (length (leaf_pairs (now.leaf right.0))) x y → (16 ≤ x) × (16 ≤ y)
    enough_then giver n x y spares moves = choosing.enough_many giver n _ _ x y (full_at slot left read_left).1 (full_at (slot + 1) right read_right).1 spares moves

    pub fits_here : ChoosesSibling (child_size now node.children) i slot None → length (leaf_pairs (now.leaf left.0)) + length (leaf_pairs (now.leaf right.0)) ≤ 64
    fits_here chosen = omega (arith, choosing.fits_so (child_size now node.children) i slot _ _ left_size right_size size_here chosen)

-- the right leaf is the next of the left one
pub next_of : {K V A : Type 0} {cmp : K → K → Ordering} (total' : IsTotalOrder cmp) (is_summary : A → List K → Type 0) (now : Slots (Inner K A) (Leaf K V)) (path : List (InnerNodeId × ℕ × NodeId)) (number : InnerNodeId) (i : ℕ) (c : LeafUnderflow cmp is_summary now path number i)
    (left right : LeafNodeId) (before after : List LeafNodeId) → flat (leaves_at c.climb.old c.climb.height) (node total' is_summary now path number i c).children ≡ before ++ left ∷ (right ∷ after) → IsPresent (now.leaf left.0) → leaf_next (now.leaf left.0) ≡ Some right
next_of {K} {V} {A} {cmp} total' is_summary now path number i c left right before after was some =
    (links_now total' is_summary now path number i c left (there_was total' is_summary now path number i c left some)).1
    ∙ linked_next c.climb.old None (w.0 ++ before) left ((right ∷ after) ++ w.1) None (subst (λ ids. AreLinked c.climb.old None ids None) whole c.climb.shape.linked)
  where
    w : (b : List LeafNodeId) × (a : List LeafNodeId) × (leaves_at c.climb.old c.climb.top c.climb.root ≡ b ++ (leaves_at c.climb.old (suc c.climb.height) (kind.Inner number) ++ a))
    w = way_leaves cmp c.climb.old c.climb.k path c.climb.top c.climb.root (suc c.climb.height) (kind.Inner number) (step total' is_summary now path number i c).way

    whole : leaves_at c.climb.old c.climb.top c.climb.root ≡ (w.0 ++ before) ++ left ∷ ((right ∷ after) ++ w.1)
    whole =
        w.2
        ∙ (ap (λ (x : Slot (Inner K A)). w.0 ++ (flat (leaves_at c.climb.old c.climb.height) (inner_children x) ++ w.1)) (step total' is_summary now path number i c).is
        ∙ (ap (λ x. w.0 ++ (x ++ w.1)) was ∙ parts_moved w.0 before (left ∷ []) (right ∷ after) w.1))

-- The facts of the two leaves, by the slot of the node above.
module _ {K V A : Type 0} {cmp : K → K → Ordering} (total' : IsTotalOrder cmp) {is_summary : A → List K → Type 0} {now : Slots (Inner K A) (Leaf K V)} {path : List (InnerNodeId × ℕ × NodeId)} {number : InnerNodeId} {i : ℕ}
    (c : LeafUnderflow cmp is_summary now path number i) where
  at_number : now.inner number.0 ≡ Present (node total' is_summary now path number i c)
  at_number = here total' is_summary now path number i c

  pub node_there : IsPresent (now.inner number.0)
  node_there = rw at_number tt

  pub leaves_there : AllLeaves now (inner_children (now.inner number.0))
  leaves_there = rw at_number (all_leaves total' is_summary now path number i c)

  pub long_there : length (inner_children (now.inner number.0)) ≡ length (inner_keys (now.inner number.0)) + 1
  long_there = rw at_number (index total' is_summary now path number i c).children

  pub most_there : length (inner_keys (now.inner number.0)) ≤ 64
  most_there = rw at_number (low total' is_summary now path number i c)

  pub fits_there : length (inner_children (now.inner number.0)) ≤ 65
  fits_there = omega (arith, long_there, most_there)

  pub index_there : i < length (inner_children (now.inner number.0))
  index_there = let p = index total' is_summary now path number i c in rw at_number (omega (arith, p.within, p.children))

  module _ (slot : ℕ) (giver : Option Sibling) (chosen : ChoosesSibling (child_size now (inner_children (now.inner number.0))) i slot giver) where
    chosen_so : ChoosesSibling (child_size now (node total' is_summary now path number i c).children) i slot giver
    chosen_so = subst (λ (x : Slot (Inner K A)). ChoosesSibling (child_size now (inner_children x)) i slot giver) at_number chosen

    pub slot_there : slot + 1 < length (inner_children (now.inner number.0))
    slot_there = rw at_number (omega (arith, within_of total' is_summary now path number i c slot giver chosen_so, (index total' is_summary now path number i c).children))

    pub entry_there : IndexAt (now.inner number.0) (slot + 1)
    entry_there =
        let p = index total' is_summary now path number i c in
        rw at_number (record { within = omega (arith, within_of total' is_summary now path number i c slot giver chosen_so); children = p.children; arguments = p.arguments })

    pub beside_there : (i ≡ slot) ⊎ (i ≡ suc slot)
    beside_there = beside_of total' is_summary now path number i c slot giver chosen_so

  module _ (slot : ℕ) (left right : LeafNodeId) (read_left : slice_get (inner_children (now.inner number.0)) slot ≡ Some (kind.Leaf left)) (read_right : slice_get (inner_children (now.inner number.0)) (slot + 1) ≡ Some (kind.Leaf right)) where
    pub left_so : slice_get (node total' is_summary now path number i c).children slot ≡ Some (kind.Leaf left)
    left_so = subst (λ (x : Slot (Inner K A)). slice_get (inner_children x) slot ≡ Some (kind.Leaf left)) at_number read_left

    pub right_so : slice_get (node total' is_summary now path number i c).children (slot + 1) ≡ Some (kind.Leaf right)
    right_so = subst (λ (x : Slot (Inner K A)). slice_get (inner_children x) (slot + 1) ≡ Some (kind.Leaf right)) at_number read_right

    pub left_there : IsFullLeaf now (kind.Leaf left)
    left_there = full_at total' is_summary now path number i c slot left left_so

    pub right_there : IsFullLeaf now (kind.Leaf right)
    right_there = full_at total' is_summary now path number i c (slot + 1) right right_so

    pub apart_there : left.0 ≡ right.0 → ⊥
    apart_there = apart total' is_summary now path number i c slot left right left_so right_so

    pub spares_there : (giver : Sibling) → ChoosesSibling (child_size now (inner_children (now.inner number.0))) i slot (Some giver) → CanSpare giver 1 (length (leaf_pairs (now.leaf left.0))) (length (leaf_pairs (now.leaf right.0)))
    spares_there giver chosen = spares_here total' is_summary now path number i c slot left right left_so right_so giver (chosen_so slot (Some giver) chosen)

    pub rotates_there : (giver : Sibling) (n : ℕ) → ChoosesSibling (child_size now (inner_children (now.inner number.0))) i slot (Some giver) → CanSpare giver n (length (leaf_pairs (now.leaf left.0))) (length (leaf_pairs (now.leaf right.0)))
        → CanGiveMany giver n (length (leaf_pairs (now.leaf left.0))) (length (leaf_pairs (now.leaf right.0)))
    rotates_there giver n chosen spares = rotates_here total' is_summary now path number i c slot left right left_so right_so giver n (chosen_so slot (Some giver) chosen) spares

    pub enough_there : (giver : Sibling) (n x y : ℕ) → CanSpare giver n (length (leaf_pairs (now.leaf left.0))) (length (leaf_pairs (now.leaf right.0))) → MovesMany giver n (length (leaf_pairs (now.leaf left.0))) (length (leaf_pairs (now.leaf right.0))) x y → (16 ≤ x) × (16 ≤ y)
    enough_there giver n x y spares moves = enough_then total' is_summary now path number i c slot left right left_so right_so giver n x y spares moves

    pub merges_there : ChoosesSibling (child_size now (inner_children (now.inner number.0))) i slot None → length (leaf_pairs (now.leaf left.0)) + length (leaf_pairs (now.leaf right.0)) ≤ 64
    merges_there chosen = fits_here total' is_summary now path number i c slot left right left_so right_so (chosen_so slot None chosen)
