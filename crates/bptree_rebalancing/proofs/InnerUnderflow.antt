-- The children of a node, one of which may have underflowed, and the sibling that is chosen for it.
use Rattle.std.proofs.Common.{◌≡◌, ℕ, suc, ◌+◌, ◌<◌, ◌≤◌, ◌⊎◌, cond, List, [], ◌∷◌, ◌++◌, length, refl, sym, ap, subst, ◌∙◌, arith, Option, Some, None, Result, IfOk, eqb, slice_get}
use Rattle.std.specs.declared.cmp.Ordering.{Ordering}
use Rattle.std.specs.Cmp.{IsTotalOrder}
use Rattle.std.specs.List.{AllByRecursion}
use Rattle.std.specs.Map.{keys_of}
use Rattle.std.proofs.lemmas.Bool.{eq-eqb}
use Rattle.bptree_nodes.specs.Inner.{Inner, without_entry}
use Rattle.bptree_nodes.specs.Leaf.{Leaf}
use Rattle.bptree_nodes.specs.Slot.{Slot, Slots, Present, IsPresent}
use Rattle.bptree_keys.specs.declared.node_id.InnerNodeId.{InnerNodeId}
use Rattle.bptree_keys.specs.declared.node_id.NodeId.{NodeId}
use Rattle.bptree_keys.specs.declared.node_id.NodeId.TheVariants as kind
use Rattle.bptree_keys.proofs.PieceLemmas.{AllByRecursion-weaker}
use Rattle.bptree_propagation.specs.Climb.{least_at, EditBelow, Propagated}
use Rattle.bptree_invariant.specs.Edit.{Edits}
use Rattle.bptree_invariant.specs.Outcome.{Done}
use Rattle.bptree_rebalancing.specs.ChooseSibling.{ChoosesSibling, node_size, child_size, IsInnerAt, AllInner, NodesBelow}
use Rattle.bptree_invariant.specs.Order.{Chain}
use Rattle.bptree_invariant.specs.Path.{Way}
use Rattle.bptree_invariant.specs.Shape.{inner_keys, inner_children, pairs_at, inner_count, stored, root_least, IsTree}
use Rattle.bptree_rebalancing.specs.Transfer.{CanGive, Moves, HasEntry}
use Rattle.bptree_rebalancing.specs.RotateMerge.{AreInnersBeside}
use Rattle.bptree_propagation.specs.Sums.{HasChildAt, IndexAt}
use Rattle.bptree_rebalancing.specs.Trim.{UnderflowBelow, PropagatedUnderflow}
use Rattle.bptree_rebalancing.specs.declared.rotate_merge.Sibling.{Sibling}
use Rattle.bptree_invariant.proofs.Agreeing.{stored_le}
use Rattle.bptree_propagation.proofs.Climbing.{climb_on, has_index, stays, most, least_most, edits_less}
use Rattle.bptree_rebalancing.proofs.ClimbingUnderflow as short
use Rattle.bptree_rebalancing.proofs.Choosing as choosing
use Rattle.bptree_rebalancing.proofs.Choosing.{nodes_of_inners, size_read, chain_all, key_of, rotates_so, enough_so, fits_so}
use Rattle.bptree_rebalancing.proofs.Seated.{SubtreeAt, seat_of, seat_size, inner_high}
use Rattle.bptree_rebalancing.proofs.Transfers.{entry_out}
use Rattle.bptree_rebalancing.proofs.Triples.{ok_so}
use Rattle.bptree_invariant.proofs.Walk.{chain_length}
use Rattle.bptree_invariant.proofs.Widen.{tree_less, grown_done}
use Rattle.bptree_invariant.proofs.ListReads.{all_read, read_some}

-- an inner node with one child more than keys, of which there may be 15
abbrev pub IsFull : {K V A : Type 0} → Slots (Inner K A) (Leaf K V) → NodeId → Type 0
IsFull slots (kind.Leaf id) = ⊥
IsFull slots (kind.Inner id) = IsPresent (slots.inner id.0) × (15 ≤ length (inner_keys (slots.inner id.0))) × (length (inner_keys (slots.inner id.0)) ≤ 64) × (length (inner_children (slots.inner id.0)) ≡ length (inner_keys (slots.inner id.0)) + 1)

full_of : {K V A : Type 0} (cmp : K → K → Ordering) (slots : Slots (Inner K A) (Leaf K V)) (m : ℕ) (c : NodeId) (a b : Option K) → IsTree cmp slots 15 (suc m) c a b → IsFull slots c
full_of cmp slots m (kind.Leaf id) a b t = absurd t
full_of cmp slots m (kind.Inner id) a b t = (t.0, t.2, t.3, chain_length cmp (IsTree cmp slots 16 m) (inner_keys (slots.inner id.0)) (inner_children (slots.inner id.0)) a b t.1)

inner_of : {K V A : Type 0} (slots : Slots (Inner K A) (Leaf K V)) (c : NodeId) → IsFull slots c → IsInnerAt slots c
inner_of slots (kind.Leaf id) f = absurd f
inner_of slots (kind.Inner id) f = f.0

module _ {K V A : Type 0} {cmp : K → K → Ordering} (total : IsTotalOrder cmp) (is_summary : A → List K → Type 0) (now : Slots (Inner K A) (Leaf K V)) (path : List (InnerNodeId × ℕ × NodeId)) (nid : InnerNodeId) (a : A)
    (c : UnderflowBelow cmp is_summary now path nid a) where
  -- the node that may have underflowed is present
  pub top_present : IsPresent (now.inner nid.0)
  top_present =
      let d = c.climb in
      let high = inner_high cmp d.old d.k (least_at d.top path) d.height nid (subst (λ x. SubtreeAt cmp d.old d.k (least_at d.top path) d.height x) c.here (seat_of cmp d.old d.k path d.top d.root d.height d.id d.way d.shape)) in
      let s = seat_of cmp d.old d.k path d.top d.root d.height d.id d.way d.shape in
      let t = d.edits.tree 0 s.low s.high (omega arith) (tree_less cmp d.old (least_at d.top path) 0 d.height d.id s.low s.high (omega arith) s.tree) s.fits in
      let u = subst (λ n. IsTree cmp now 0 n (kind.Inner nid) s.low s.high) high.1 (subst (λ x. IsTree cmp now 0 d.height x s.low s.high) c.here t) in
      u.0

  -- if the node has enough keys, the climb is one of a whole node
  module _ (filled : 16 ≤ length (inner_keys (now.inner nid.0))) where
    at_top : (least : ℕ) (lo hi : Option K) → least ≤ 16 → IsTree cmp now 0 c.climb.height c.climb.id lo hi → IsTree cmp now least c.climb.height c.climb.id lo hi
    at_top least lo hi under t =
        let d = c.climb in
        let high = inner_high cmp d.old d.k (least_at d.top path) d.height nid (subst (λ x. SubtreeAt cmp d.old d.k (least_at d.top path) d.height x) c.here (seat_of cmp d.old d.k path d.top d.root d.height d.id d.way d.shape)) in
        let u = subst (λ n. IsTree cmp now 0 n (kind.Inner nid) lo hi) high.1 (subst (λ x. IsTree cmp now 0 d.height x lo hi) c.here t) in
        let v : IsTree cmp now least (suc high.0) (kind.Inner nid) lo hi = (u.0, u.1, omega (arith, filled), u.3) in
        subst (λ x. IsTree cmp now least d.height x lo hi) (sym c.here) (subst (λ n. IsTree cmp now least n (kind.Inner nid) lo hi) (sym high.1) v)

    pub filled_edits : Edits cmp is_summary c.climb.edit 16 c.climb.old now c.climb.height c.climb.id c.climb.k c.climb.leaf c.climb.turn Done
    filled_edits =
        let d = c.climb in
        record {
          tree = λ least lo hi under t w. at_top least lo hi under (d.edits.tree 0 lo hi (omega arith) (tree_less cmp d.old least 0 d.height d.id lo hi (omega arith) t) w);
          pairs = d.edits.pairs;
          leaves = d.edits.leaves;
          inners = d.edits.inners;
          other_leaves = d.edits.other_leaves;
          other_inners = d.edits.other_inners;
          order = d.edits.order;
          links = d.edits.links;
          untouched = d.edits.untouched;
          summed = d.edits.summed;
        }

    abbrev pub filled_climbs : EditBelow cmp is_summary now path a
    filled_climbs = record {
      climb = climb_on c.climb c.climb.height c.climb.id 16 c.climb.way filled_edits c.climb.free;
      enough = least_most c.climb.top path;
      reported = c.reported;
    }

    sunk_filled : (new : Slots (Inner K A) (Leaf K V)) (top : A) → Propagated filled_climbs.climb new top → PropagatedUnderflow c.climb new top
    sunk_filled new top r = record {
      edits = edits_less is_summary c.climb.edit (root_least c.climb.top) 0 c.climb.old new c.climb.top c.climb.root c.climb.k c.climb.leaf c.climb.turn Done (omega arith) r.edits;
      free = r.free;
      reported = r.reported;
    }

    pub filled_sinks : {E : Type 0} (new : Slots (Inner K A) (Leaf K V)) (r : Result A E) → IfOk r (λ top. Propagated filled_climbs.climb new top) → IfOk r (λ top. PropagatedUnderflow c.climb new top)
    filled_sinks new r rises = ok_so r (λ top. Propagated filled_climbs.climb new top) (λ top. PropagatedUnderflow c.climb new top) rises (sunk_filled new)

  -- if no node is above, the node is the root
  pub sunk_here : path ≡ [] → PropagatedUnderflow c.climb now a
  sunk_here none =
      let d = c.climb in
      let way : (d.top ≡ d.height) × (d.root ≡ d.id) = subst (λ p. Way cmp d.old d.k d.top d.root p d.height d.id) none d.way in
      record {
        edits = edits_less is_summary d.edit d.kept 0 d.old now d.top d.root d.k d.leaf d.turn Done (omega arith)
            (subst (λ n. Edits cmp is_summary d.edit d.kept d.old now n d.root d.k d.leaf d.turn Done) (sym way.0) (subst (λ x. Edits cmp is_summary d.edit d.kept d.old now d.height x d.k d.leaf d.turn Done) (sym way.1) d.edits));
        free = d.free;
        reported = subst (λ n. is_summary a (keys_of (pairs_at now n d.root))) (sym way.0) (subst (λ x. is_summary a (keys_of (pairs_at now d.height x))) (sym way.1) c.reported);
      }

  module _ (rest : List (InnerNodeId × ℕ × NodeId)) (number : InnerNodeId) (i : ℕ) (child : NodeId) (e : path ≡ rest ++ (number, i, child) ∷ []) where
    abbrev pub node : Inner K A
    node = (short.step total is_summary now now path nid a c rest number i child e).node

    pub here : now.inner number.0 ≡ Present node
    here = stays total is_summary now path _ c.climb rest number i child e

    pub index : HasChildAt node i
    index = has_index total is_summary now path _ c.climb rest number i child e

    pub low : length node.keys ≤ 64
    low = most total is_summary now path _ c.climb rest number i child e

    pub all_full : AllByRecursion (IsFull now) node.children
    all_full =
        let d = c.climb in
        let s = short.step total is_summary now now path nid a c rest number i child e in
        let at = short.at total is_summary now now path nid a c rest number i child e in
        let high = short.high total is_summary now now path nid a c rest number i child e in
        let g = grown_done total is_summary d.edit d.kept d.old now d.height number d.k s.node i d.id d.leaf d.turn d.local at s.is s.leads s.read 15 (short.short total is_summary now now path nid a c rest number i child e) (omega arith) d.edits in
        let chain = g.chain at.low at.high (subst (λ (x : Slot (Inner K A)). Chain cmp (IsTree cmp d.old 16 d.height) (inner_keys x) (inner_children x) at.low at.high) s.is at.tree.1) at.fits in
        chain_all cmp (IsTree cmp now 15 d.height) (IsFull now) (λ x lo hi t. full_of cmp now high.0 x lo hi (subst (λ n. IsTree cmp now 15 n x lo hi) high.1 t)) s.node.keys s.node.children at.low at.high chain

    pub all_inner : AllByRecursion (IsInnerAt now) node.children
    all_inner = AllByRecursion-weaker (IsFull now) (IsInnerAt now) (inner_of now) node.children all_full

    pub full_at : (j : ℕ) (x : InnerNodeId) → slice_get node.children j ≡ Some (kind.Inner x) → IsFull now (kind.Inner x)
    full_at j x read = all_read (IsFull now) node.children j (kind.Inner x) all_full read

    pub size_at : (j : ℕ) (x : InnerNodeId) → slice_get node.children j ≡ Some (kind.Inner x) → child_size now node.children j ≡ length (inner_keys (now.inner x.0))
    size_at j x read = size_read now node.children j (kind.Inner x) read

    -- the child at the index is the one that may have underflowed
    pub size_here : child_size now node.children i ≡ length (inner_keys (now.inner nid.0))
    size_here = size_read now node.children i c.climb.id (short.step total is_summary now now path nid a c rest number i child e).read ∙ ap (node_size now) c.here

    module _ (slot : ℕ) (left right : InnerNodeId) (beside : (i ≡ slot) ⊎ (i ≡ suc slot)) (within : slot < length node.keys)
        (read_left : slice_get node.children slot ≡ Some (kind.Inner left)) (read_right : slice_get node.children (slot + 1) ≡ Some (kind.Inner right)) where
      entry_there : (s : K) × (b : A) × HasEntry node (without_entry node slot) slot s (kind.Inner right) b
      entry_there =
          let p = index in
          let k = read_some node.keys slot within in
          let x = read_some node.arguments (slot + 1) (omega (arith, within, p.children, p.arguments)) in
          (k.0, x.0, entry_out node (without_entry node slot) slot k.0 (kind.Inner right) x.0 (record { within = omega (arith, within); children = p.children; arguments = p.arguments }) k.1 read_right x.1 refl)

      owned : (x : ℕ) → cond (eqb number.0 x) 1 0 + (inner_count now (suc (short.high total is_summary now now path nid a c rest number i child e).0) (kind.Inner left) x + inner_count now (suc (short.high total is_summary now now path nid a c rest number i child e).0) (kind.Inner right) x) ≤ stored (now.inner x)
      owned = short.own_high total is_summary now now path nid a c rest number i child e slot left right (without_entry node slot) (kind.Inner right) entry_there.0 entry_there.1 entry_there.2 beside read_left read_right

      pub apart : (left.0 ≡ right.0 → ⊥) × (left.0 ≡ number.0 → ⊥) × (right.0 ≡ number.0 → ⊥)
      apart = (
        (λ q. let one = rw (eq-eqb left.0 left.0 refl, eq-eqb right.0 left.0 (sym q)) at (owned left.0) in omega (arith, one, stored_le (now.inner left.0))),
        (λ q. let one = rw (eq-eqb number.0 left.0 (sym q), eq-eqb left.0 left.0 refl) at (owned left.0) in omega (arith, one, stored_le (now.inner left.0))),
        (λ q. let one = rw (eq-eqb number.0 right.0 (sym q), eq-eqb right.0 right.0 refl) at (owned right.0) in omega (arith, one, stored_le (now.inner right.0))),
      )

      -- the sizes of the two siblings, if the child at the index is short
      module _ (lacks : length (inner_keys (now.inner nid.0)) < 16) where
        size_short : child_size now node.children i < 16
        size_short = omega (arith, size_here, lacks)

        left_size : child_size now node.children slot ≡ length (inner_keys (now.inner left.0))
        left_size = size_at slot left read_left

        right_size : child_size now node.children (suc slot) ≡ length (inner_keys (now.inner right.0))
        right_size = ap (child_size now node.children) (omega arith) ∙ size_at (slot + 1) right read_right

        pub rotates_here : (giver : Sibling) → ChoosesSibling (child_size now node.children) i slot (Some giver) → CanGive giver (length (inner_keys (now.inner left.0))) (length (inner_keys (now.inner right.0)))
        rotates_here giver chosen = rotates_so (child_size now node.children) i slot _ _ left_size right_size size_short giver (full_at slot left read_left).2 (full_at (slot + 1) right read_right).2 chosen

        -- after a rotation both have enough
        pub enough_then : (giver : Sibling) (x y : ℕ) → ChoosesSibling (child_size now node.children) i slot (Some giver) → Moves giver (length (inner_keys (now.inner left.0))) (length (inner_keys (now.inner right.0))) x y → (16 ≤ x) × (16 ≤ y)
        enough_then giver x y chosen moves = enough_so (child_size now node.children) i slot _ _ left_size right_size size_short giver x y (full_at slot left read_left).1 (full_at (slot + 1) right read_right).1 chosen moves

        -- if neither gives, the two fit into one
        pub fits_here : ChoosesSibling (child_size now node.children) i slot None → length (inner_keys (now.inner left.0)) + length (inner_keys (now.inner right.0)) < 64
        fits_here chosen = fits_so (child_size now node.children) i slot _ _ left_size right_size size_short chosen

    -- the chosen sibling is beside the child
    pub beside_of : (slot : ℕ) (giver : Option Sibling) → ChoosesSibling (child_size now node.children) i slot giver → (i ≡ slot) ⊎ (i ≡ suc slot)
    beside_of slot giver chosen = choosing.beside_of (child_size now node.children) i slot giver chosen

    least_some_key : 1 ≤ least_at c.climb.top rest
    least_some_key = key_of cmp c.climb.old c.climb.k c.climb.root (kind.Inner number) c.climb.height rest c.climb.top (short.step total is_summary now now path nid a c rest number i child e).way

    some_key : 1 ≤ length node.keys
    some_key =
        let d = c.climb in
        omega (arith, least_some_key, seat_size cmp d.old d.k (least_at d.top rest) d.height number node (short.step total is_summary now now path nid a c rest number i child e).is (short.seat total is_summary now now path nid a c rest number i child e))

    pub within_of : (slot : ℕ) (giver : Option Sibling) → ChoosesSibling (child_size now node.children) i slot giver → slot < length node.keys
    within_of slot giver chosen = choosing.within_of now node.children (length node.keys) i slot giver index.children index.within some_key chosen

-- The facts of the two siblings, by the slot of the node above.
module _ {K V A : Type 0} {cmp : K → K → Ordering} (total : IsTotalOrder cmp) {is_summary : A → List K → Type 0} {now : Slots (Inner K A) (Leaf K V)} {path : List (InnerNodeId × ℕ × NodeId)} {nid : InnerNodeId} {a : A}
    (c : UnderflowBelow cmp is_summary now path nid a) (rest : List (InnerNodeId × ℕ × NodeId)) (number : InnerNodeId) (i : ℕ) (child : NodeId) (e : path ≡ rest ++ (number, i, child) ∷ []) where
  at_number : now.inner number.0 ≡ Present (node total is_summary now path nid a c rest number i child e)
  at_number = here total is_summary now path nid a c rest number i child e

  pub node_there : IsPresent (now.inner number.0)
  node_there = rw at_number tt

  pub inners_there : AllInner now (inner_children (now.inner number.0))
  inners_there = rw at_number (all_inner total is_summary now path nid a c rest number i child e)

  pub nodes_there : NodesBelow now number
  nodes_there = nodes_of_inners now (inner_children (now.inner number.0)) inners_there

  pub long_there : length (inner_children (now.inner number.0)) ≡ length (inner_keys (now.inner number.0)) + 1
  long_there = rw at_number (index total is_summary now path nid a c rest number i child e).children

  most_there : length (inner_keys (now.inner number.0)) ≤ 64
  most_there = rw at_number (low total is_summary now path nid a c rest number i child e)

  pub fits_there : length (inner_children (now.inner number.0)) ≤ 65
  fits_there = omega (arith, long_there, most_there)

  pub index_there : i < length (inner_children (now.inner number.0))
  index_there = let p = index total is_summary now path nid a c rest number i child e in rw at_number (omega (arith, p.within, p.children))

  module _ (slot : ℕ) (choose_sibling : Option Sibling) (chosen : ChoosesSibling (child_size now (inner_children (now.inner number.0))) i slot choose_sibling) where
    chosen_so : ChoosesSibling (child_size now (node total is_summary now path nid a c rest number i child e).children) i slot choose_sibling
    chosen_so = subst (λ (x : Slot (Inner K A)). ChoosesSibling (child_size now (inner_children x)) i slot choose_sibling) at_number chosen

    within_so : slot < length (node total is_summary now path nid a c rest number i child e).keys
    within_so = within_of total is_summary now path nid a c rest number i child e slot choose_sibling chosen_so

    pub slot_there : slot + 1 < length (inner_children (now.inner number.0))
    slot_there = rw at_number (omega (arith, within_so, (index total is_summary now path nid a c rest number i child e).children))

    entry_at : IndexAt (now.inner number.0) (slot + 1)
    entry_at = let p = index total is_summary now path nid a c rest number i child e in rw at_number (record { within = omega (arith, within_so); children = p.children; arguments = p.arguments })

    pub beside_there : (i ≡ slot) ⊎ (i ≡ suc slot)
    beside_there = beside_of total is_summary now path nid a c rest number i child e slot choose_sibling chosen_so

    module _ (left right : InnerNodeId) (read_left : slice_get (inner_children (now.inner number.0)) slot ≡ Some (kind.Inner left)) (read_right : slice_get (inner_children (now.inner number.0)) (slot + 1) ≡ Some (kind.Inner right)) where
      pub left_so : slice_get (node total is_summary now path nid a c rest number i child e).children slot ≡ Some (kind.Inner left)
      left_so = subst (λ (x : Slot (Inner K A)). slice_get (inner_children x) slot ≡ Some (kind.Inner left)) at_number read_left

      pub right_so : slice_get (node total is_summary now path nid a c rest number i child e).children (slot + 1) ≡ Some (kind.Inner right)
      right_so = subst (λ (x : Slot (Inner K A)). slice_get (inner_children x) (slot + 1) ≡ Some (kind.Inner right)) at_number read_right

      pub left_there : IsFull now (kind.Inner left)
      left_there = full_at total is_summary now path nid a c rest number i child e slot left left_so

      right_there : IsFull now (kind.Inner right)
      right_there = full_at total is_summary now path nid a c rest number i child e (slot + 1) right right_so

      apart_there : (left.0 ≡ right.0 → ⊥) × (left.0 ≡ number.0 → ⊥) × (right.0 ≡ number.0 → ⊥)
      apart_there = apart total is_summary now path nid a c rest number i child e slot left right beside_there within_so left_so right_so

      -- a change of the two requires only this, and their sizes
      pub siblings_there : AreInnersBeside now slot number left right
      siblings_there = record { index = entry_at; most = most_there; left_some = omega (arith, left_there.3); right_some = omega (arith, right_there.3); apart = apart_there }

      module _ (lacks : length (inner_keys (now.inner nid.0)) < 16) where
        pub rotates_there : (giver : Sibling) → choose_sibling ≡ Some giver → CanGive giver (length (inner_keys (now.inner left.0))) (length (inner_keys (now.inner right.0)))
        rotates_there giver same = rotates_here total is_summary now path nid a c rest number i child e slot left right beside_there within_so left_so right_so lacks giver (rw same at chosen_so)

        pub enough_there : (giver : Sibling) (x y : ℕ) → choose_sibling ≡ Some giver → Moves giver (length (inner_keys (now.inner left.0))) (length (inner_keys (now.inner right.0))) x y → (16 ≤ x) × (16 ≤ y)
        enough_there giver x y same moves = enough_then total is_summary now path nid a c rest number i child e slot left right beside_there within_so left_so right_so lacks giver x y (rw same at chosen_so) moves

        pub merges_there : choose_sibling ≡ None → length (inner_keys (now.inner left.0)) + length (inner_keys (now.inner right.0)) < 64
        merges_there same = fits_here total is_summary now path nid a c rest number i child e slot left right beside_there within_so left_so right_so lacks (rw same at chosen_so)
