-- A climb in which two inner nodes were relinked in a store, and the end of a climb.
use Rattle.std.proofs.Common.{◌≡◌, ℕ, suc, ◌+◌, ◌<◌, ◌≤◌, inl, inr, ◌⊎◌, true, false, cond, List, [], ◌∷◌, ◌++◌, length, refl, sym, ap, subst, ◌∙◌, arith, Option, Some, eqb, slice_get}
use Rattle.std.specs.declared.cmp.Ordering.{Ordering}
use Rattle.std.specs.Cmp.{IsTotalOrder}
use Rattle.std.specs.Map.{keys_of}
use Rattle.std.proofs.lemmas.Bool.{cases_eq, eq-eqb}
use Rattle.std.proofs.lemmas.Bool.Decides.{eqb_tells}
use Rattle.bptree_nodes.specs.Inner.{Inner}
use Rattle.bptree_nodes.specs.Leaf.{Leaf}
use Rattle.bptree_nodes.specs.Slot.{Slot, Slots, Free, Held, Present, IsPresent, UpdatesInner}
use Rattle.bptree_keys.specs.declared.node_id.InnerNodeId.{InnerNodeId}
use Rattle.bptree_keys.specs.declared.node_id.LeafNodeId.{LeafNodeId}
use Rattle.bptree_keys.specs.declared.node_id.NodeId.{NodeId}
use Rattle.bptree_keys.specs.declared.node_id.NodeId.TheVariants as kind
use Rattle.bptree_propagation.specs.Climb.{is_held, HeldAre, EditBelow, Propagated}
use Rattle.bptree_invariant.specs.Edit.{Turn, Edits}
use Rattle.bptree_rebalancing.specs.ChooseSibling.{ChoosesSibling, child_size}
use Rattle.bptree_rebalancing.specs.Rebalance.{RebalancesPair}
use Rattle.bptree_invariant.specs.Outcome.{Done, Split}
use Rattle.bptree_invariant.specs.Shape.{inner_children, inner_keys, pairs_at, leaves_at, inner_count, stored, root_least, IsWellShaped}
use Rattle.bptree_rebalancing.specs.Transfer.{HasEntry}
use Rattle.bptree_rebalancing.specs.RotateMerge.{RotatesInnersAt, MergesInnersAt}
use Rattle.bptree_propagation.specs.Sums.{SumsUpAt, with_split}
use Rattle.bptree_rebalancing.specs.Trim.{UnderflowBelow, PropagatedUnderflow}
use Rattle.bptree_rebalancing.specs.declared.rotate_merge.Sibling.{Sibling}
use Rattle.bptree_rebalancing.specs.declared.rotate_merge.ChildSummaries.{ChildSummaries}
use Rattle.bptree_propagation.proofs.Climbing.{edits_less, held_is}
use Rattle.bptree_rebalancing.proofs.ClimbingUnderflow as short
use Rattle.bptree_invariant.proofs.Frame.{Same, same}
use Rattle.bptree_propagation.proofs.Lift.{links_moved}
use Rattle.bptree_rebalancing.proofs.RebalanceInner as inner_step
use Rattle.bptree_rebalancing.proofs.InnerUnderflow as spot
use Rattle.bptree_rebalancing.proofs.Transfers.{entry_of}

-- an edit stays what it was once a held id that it does not reach is released
pub edits_released : {K V A : Type 0} {cmp : K → K → Ordering} (is_summary : A → List K → Type 0) (edit : List (K × V) → List (K × V)) (kept : ℕ) (old new final : Slots (Inner K A) (Leaf K V)) (h : ℕ) (root : NodeId) (k : K) (leaf : LeafNodeId) (turn : Turn) (right : InnerNodeId)
    → IsWellShaped cmp is_summary old h root → new.inner right.0 ≡ Held → UpdatesInner new final right.0 Free → Edits cmp is_summary edit kept old new h root k leaf turn Done → Edits cmp is_summary edit kept old final h root k leaf turn Done
edits_released {K} {V} {A} {cmp} is_summary edit kept old new final h root k leaf turn right shape held frees e = record {
  tree = λ least lo hi low t w. there.tree least lo hi (e.tree least lo hi low t w);
  pairs = there.pairs ∙ e.pairs;
  leaves = λ n. omega (arith, there.leaves n, e.leaves n, leaf_stored n);
  inners = λ n. omega (arith, there.inners n, e.inners n, inner_stored n);
  other_leaves = λ n none some. leaf_at n ∙ e.other_leaves n none some;
  other_inners = λ n none some. frees.inner.others n (λ q. gone n q (e.other_inners n none some) some) ∙ e.other_inners n none some;
  order = record { before = e.order.before; after = e.order.after; was = e.order.was; is = there.order ∙ e.order.is };
  links = links_moved old new final leaf turn leaf_at e.links;
  untouched = λ x other spares some. rw (leaf_at x.0) (e.untouched x other spares some);
  summed = λ s. there.summed (e.summed s);
}
  where
    leaf_at : (n : ℕ) → final.leaf n ≡ new.leaf n
    leaf_at n = ap (λ (f : ℕ → Slot (Leaf K V)). f n) frees.leaf

    leaf_stored : (n : ℕ) → stored (final.leaf n) ≡ stored (new.leaf n)
    leaf_stored n = ap stored (leaf_at n)

    inner_stored : (n : ℕ) → stored (final.inner n) ≡ stored (new.inner n)
    inner_stored n = elim (cases_eq n right.0) [ inl q ↦ (rw (q, frees.inner.changed, held) refl) | inr far ↦ ap stored (frees.inner.others n far) ]

    gone : (n : ℕ) → n ≡ right.0 → new.inner n ≡ old.inner n → IsPresent (old.inner n) → ⊥
    gone n q same' some = subst (λ (s : Slot (Inner K A)). IsPresent s) (sym same' ∙ (ap new.inner q ∙ held)) some

    unreached : (n : ℕ) → 1 ≤ inner_count new h root n → n ≡ right.0 → ⊥
    unreached n some q = let z : stored (new.inner n) ≡ 0 = ap (λ m. stored (new.inner m)) q ∙ ap stored held in omega (arith, some, z, e.inners n, shape.inners n)

    there : Same cmp is_summary new final h root
    there = same cmp is_summary new final h root ((λ n some. leaf_at n), (λ n some. frees.inner.others n (unreached n some)))

module _ {K V A : Type 0} {cmp : K → K → Ordering} (total : IsTotalOrder cmp) (is_summary : A → List K → Type 0) (now after : Slots (Inner K A) (Leaf K V)) (path : List (InnerNodeId × ℕ × NodeId)) (nid : InnerNodeId) (a : A)
    (c : UnderflowBelow cmp is_summary now path nid a) (rest : List (InnerNodeId × ℕ × NodeId)) (number : InnerNodeId) (i : ℕ) (child : NodeId) (e : path ≡ rest ++ (number, i, child) ∷ [])
    (slot : ℕ) (left right : InnerNodeId) (beside : (i ≡ slot) ⊎ (i ≡ suc slot)) where
  abbrev pub node : Inner K A
  node = (short.step total is_summary now after path nid a c rest number i child e).node

  abbrev pub high : (m : ℕ) × (c.climb.height ≡ suc m)
  high = short.high total is_summary now after path nid a c rest number i child e

  module _ (read_left : slice_get node.children slot ≡ Some (kind.Inner left)) (read_right : slice_get node.children (slot + 1) ≡ Some (kind.Inner right)) (sides : ChildSummaries A) where
    -- the two inner nodes merged
    module _ (emptied : Inner K A) (j : MergesInnersAt cmp is_summary slot now after number left right sides emptied) where
      pub j_entry : HasEntry node j.transfers.bare slot j.transfers.separator j.transfers.child sides.right
      j_entry = entry_of (now.inner number.0) node j.three.node (spot.here total is_summary now path nid a c rest number i child e) j.three.at_node j.transfers.entry

      pub merge_rebalances : RebalancesPair cmp is_summary now after c.climb.height number.0 (kind.Inner left) j.transfers.separator (kind.Inner right) Done
      merge_rebalances =
          subst (λ n. RebalancesPair cmp is_summary now after n number.0 (kind.Inner left) j.transfers.separator (kind.Inner right) Done) (sym high.1)
          (inner_step.inners_merged total is_summary now after high.0 number left right j.three.one j.three.other j.three.one' j.transfers.separator j.three.at_left j.three.at_right j.three.is_left j.inners j.leaf (j.three.apart, j.far.0, j.far.1)
          (short.own_high total is_summary now after path nid a c rest number i child e slot left right j.transfers.bare j.transfers.child j.transfers.separator sides.right j_entry beside read_left read_right) emptied j.three.is_right j.transfers.nodes j.fits)

      pub j_order : leaves_at after c.climb.height (kind.Inner left) ≡ leaves_at now c.climb.height (kind.Inner left) ++ leaves_at now c.climb.height (kind.Inner right)
      j_order =
          subst (λ n. leaves_at after n (kind.Inner left) ≡ leaves_at now n (kind.Inner left) ++ leaves_at now n (kind.Inner right)) (sym high.1)
          (inner_step.order_merged total is_summary now after high.0 number left right j.three.one j.three.other j.three.one' j.transfers.separator j.three.at_left j.three.at_right j.three.is_left j.inners j.leaf (j.three.apart, j.far.0, j.far.1)
          (short.own_high total is_summary now after path nid a c rest number i child e slot left right j.transfers.bare j.transfers.child j.transfers.separator sides.right j_entry beside read_left read_right) emptied j.three.is_right j.transfers.nodes j.fits)

      pub j_held : HeldAre (λ n. cond (eqb right.0 n) true (c.climb.held_inner n)) c.climb.held_leaf after
      j_held = record {
        inners = λ n.
            elim (eqb_tells right.0 n) [
              | inl q ↦ (rw q.0 (ap (λ m. is_held (after.inner m)) (sym q.1) ∙ ap is_held j.three.is_right))
              | inr far ↦ (rw far.0 (elim (cases_eq n number.0) [
                | inl q ↦ (rw q (ap is_held j.three.is_node ∙ (sym (ap is_held j.three.at_node) ∙ c.climb.free.inners number.0)))
                | inr apart ↦ elim (cases_eq n left.0) [
                  | inl q ↦ (rw q (ap is_held j.three.is_left ∙ (sym (ap is_held j.three.at_left) ∙ c.climb.free.inners left.0)))
                  | inr l ↦ ap is_held (j.inners n apart l (λ z. far.1 (sym z))) ∙ c.climb.free.inners n
                ]
              ]))
            ];
        leaves = λ n. ap (λ (f : ℕ → Slot (Leaf K V)). is_held (f n)) j.leaf ∙ c.climb.free.leaves n;
      }

      abbrev pub merged_climbs : (above : A) → SumsUpAt cmp is_summary (after.inner number.0) above → UnderflowBelow cmp is_summary after rest number above
      merged_climbs above sums =
          short.climbs_merged total is_summary now after path nid a c rest number i child e slot left right j.transfers.bare j.transfers.child j.transfers.separator sides.right j_entry beside read_left read_right j.leaf
          j.transfers.merges.both merge_rebalances j_order (j.three.is_node ∙ ap Present j.transfers.merges.is)
          (short.reported_merged total is_summary now after path nid a c rest number i child e slot left right j.transfers.bare j.transfers.child j.transfers.separator sides.right j_entry beside read_left read_right j.leaf j.transfers.merges.both merge_rebalances (rw j.three.is_left j.transfers.merges.reported_both)) j_held above sums

      -- the id of the removed node is released
      module _ (above : A) (sums : SumsUpAt cmp is_summary (after.inner number.0) above) (new : Slots (Inner K A) (Leaf K V)) (top : A) (sunk : PropagatedUnderflow (merged_climbs above sums).climb new top) where
        pub still_held : new.inner right.0 ≡ Held
        still_held = held_is (new.inner right.0) (sunk.free.inners right.0 ∙ rw (eq-eqb right.0 right.0 refl) refl)

        pub sunk_merged : (final : Slots (Inner K A) (Leaf K V)) → c.climb.held_inner right.0 ≡ false → UpdatesInner new final right.0 Free → PropagatedUnderflow c.climb final top
        sunk_merged final was_not frees =
            let edits = edits_released is_summary c.climb.edit 0 c.climb.old new final c.climb.top c.climb.root c.climb.k c.climb.leaf c.climb.turn right c.climb.shape still_held frees sunk.edits in
            record {
              edits = edits;
              free = record {
                inners = λ n.
                    elim (eqb_tells right.0 n) [
                      | inl q ↦ (ap (λ m. is_held (final.inner m)) (sym q.1) ∙ (ap is_held frees.inner.changed ∙ (sym was_not ∙ ap c.climb.held_inner q.1)))
                      | inr far ↦ ap is_held (frees.inner.others n (λ z. far.1 (sym z))) ∙ (sunk.free.inners n ∙ rw far.0 refl)
                    ];
                leaves = λ n. ap (λ (f : ℕ → Slot (Leaf K V)). is_held (f n)) frees.leaf ∙ sunk.free.leaves n;
              };
              reported = subst (λ l. is_summary top (keys_of l)) (sunk.edits.pairs ∙ sym edits.pairs) sunk.reported;
            }

        pub right_was_not : c.climb.held_inner right.0 ≡ false
        right_was_not = sym (c.climb.free.inners right.0) ∙ ap is_held j.three.at_right

    -- one of the two rotated a child to the other
    module _ (giver : Sibling) (l : RotatesInnersAt cmp is_summary slot now after number giver left right sides) (least : (16 ≤ length l.three.one'.keys) × (16 ≤ length l.other'.keys)) where
      pub l_entry : HasEntry node l.transfers.bare slot l.transfers.separator l.transfers.child sides.right
      l_entry = entry_of (now.inner number.0) node l.three.node (spot.here total is_summary now path nid a c rest number i child e) l.three.at_node l.transfers.entry

      pub l_given : l.transfers.child ≡ kind.Inner right
      l_given = short.given_is total is_summary now after path nid a c rest number i child e slot left right l.transfers.bare l.transfers.child l.transfers.separator sides.right l_entry beside read_left read_right

      pub left_rebalances : RebalancesPair cmp is_summary now after c.climb.height number.0 (kind.Inner left) l.transfers.separator (kind.Inner right) (Split l.transfers.up (kind.Inner right))
      left_rebalances =
          subst (λ n. RebalancesPair cmp is_summary now after n number.0 (kind.Inner left) l.transfers.separator (kind.Inner right) (Split l.transfers.up (kind.Inner right))) (sym high.1)
          (inner_step.inners_rotated total is_summary now after high.0 number left right l.three.one l.three.other l.three.one' l.transfers.separator l.three.at_left l.three.at_right l.three.is_left l.inners l.leaf (l.three.apart, l.far.0, l.far.1)
          (short.own_high total is_summary now after path nid a c rest number i child e slot left right l.transfers.bare l.transfers.child l.transfers.separator sides.right l_entry beside read_left read_right) giver l.other' l.transfers.up l.three.is_right l.transfers.moves least)

      pub l_order : leaves_at after c.climb.height (kind.Inner left) ++ leaves_at after c.climb.height (kind.Inner right) ≡ leaves_at now c.climb.height (kind.Inner left) ++ leaves_at now c.climb.height (kind.Inner right)
      l_order =
          subst (λ n. leaves_at after n (kind.Inner left) ++ leaves_at after n (kind.Inner right) ≡ leaves_at now n (kind.Inner left) ++ leaves_at now n (kind.Inner right)) (sym high.1)
          (inner_step.order_rotated total is_summary now after high.0 number left right l.three.one l.three.other l.three.one' l.transfers.separator l.three.at_left l.three.at_right l.three.is_left l.inners l.leaf (l.three.apart, l.far.0, l.far.1)
          (short.own_high total is_summary now after path nid a c rest number i child e slot left right l.transfers.bare l.transfers.child l.transfers.separator sides.right l_entry beside read_left read_right) giver l.other' l.transfers.up l.three.is_right l.transfers.moves least)

      pub l_held : HeldAre c.climb.held_inner c.climb.held_leaf after
      l_held = record {
        inners = λ n.
            elim (cases_eq n number.0) [
              | inl q ↦ (rw q (ap is_held l.three.is_node ∙ (sym (ap is_held l.three.at_node) ∙ c.climb.free.inners number.0)))
              | inr far ↦ elim (cases_eq n left.0) [
                | inl q ↦ (rw q (ap is_held l.three.is_left ∙ (sym (ap is_held l.three.at_left) ∙ c.climb.free.inners left.0)))
                | inr x ↦ elim (cases_eq n right.0) [
                  | inl q ↦ (rw q (ap is_held l.three.is_right ∙ (sym (ap is_held l.three.at_right) ∙ c.climb.free.inners right.0)))
                  | inr y ↦ ap is_held (l.inners n far x y) ∙ c.climb.free.inners n
                ]
              ]
            ];
        leaves = λ n. ap (λ (f : ℕ → Slot (Leaf K V)). is_held (f n)) l.leaf ∙ c.climb.free.leaves n;
      }

      pub l_reported : is_summary l.transfers.rotates.left (keys_of (pairs_at after c.climb.height (kind.Inner left))) × is_summary l.transfers.rotates.right (keys_of (pairs_at after c.climb.height (kind.Inner right)))
      l_reported =
          short.reported_rotated total is_summary now after path nid a c rest number i child e slot left right l.transfers.bare l.transfers.child l.transfers.separator sides.right l_entry beside read_left read_right l.leaf
          l.transfers.rotates.left l.transfers.rotates.right l.transfers.up left_rebalances (rw l.three.is_left l.transfers.rotates.reported_left) (rw l.three.is_right l.transfers.rotates.reported_right)

      abbrev pub rotated_climbs : (above : A) → SumsUpAt cmp is_summary (after.inner number.0) above → EditBelow cmp is_summary after rest above
      rotated_climbs above sums =
          short.climbs_rotated total is_summary now after path nid a c rest number i child e slot left right l.transfers.bare l.transfers.child l.transfers.separator sides.right l_entry beside read_left read_right l.leaf
          l.transfers.rotates.left l.transfers.rotates.right l.transfers.up left_rebalances l_order
          (l.three.is_node ∙ ap Present (l.transfers.rotates.is ∙ (ap (λ x. with_split l.transfers.bare slot l.transfers.rotates.left x l.transfers.child l.transfers.rotates.right) l.transfers.rotates.separates ∙ ap (λ x. with_split l.transfers.bare slot l.transfers.rotates.left l.transfers.up x l.transfers.rotates.right) l_given))) l_reported.0 l_reported.1 l_held above sums

      pub sunk_rotated : (above : A) (sums : SumsUpAt cmp is_summary (after.inner number.0) above) (new : Slots (Inner K A) (Leaf K V)) (top : A) → Propagated (rotated_climbs above sums).climb new top → PropagatedUnderflow c.climb new top
      sunk_rotated above sums new top r = record {
        edits = edits_less is_summary c.climb.edit (root_least c.climb.top) 0 c.climb.old new c.climb.top c.climb.root c.climb.k c.climb.leaf c.climb.turn Done (omega arith) r.edits;
        free = r.free;
        reported = r.reported;
      }

-- The facts of the two nodes, by the slot of the node above.
module _ {K V A : Type 0} {cmp : K → K → Ordering} (total : IsTotalOrder cmp) {is_summary : A → List K → Type 0} {now : Slots (Inner K A) (Leaf K V)} {path : List (InnerNodeId × ℕ × NodeId)} {nid : InnerNodeId} {a : A}
    (c : UnderflowBelow cmp is_summary now path nid a) (rest : List (InnerNodeId × ℕ × NodeId)) (number : InnerNodeId) (i : ℕ) (child : NodeId) (e : path ≡ rest ++ (number, i, child) ∷ [])
    (slot : ℕ) (choose_sibling : Option Sibling) (chosen : ChoosesSibling (child_size now (inner_children (now.inner number.0))) i slot choose_sibling) (left right : InnerNodeId)
    (read_left : slice_get (inner_children (now.inner number.0)) slot ≡ Some (kind.Inner left)) (read_right : slice_get (inner_children (now.inner number.0)) (slot + 1) ≡ Some (kind.Inner right)) where
  pub beside_so : (i ≡ slot) ⊎ (i ≡ suc slot)
  beside_so = spot.beside_there total c rest number i child e slot choose_sibling chosen

  pub left_so : slice_get (short.step total is_summary now now path nid a c rest number i child e).node.children slot ≡ Some (kind.Inner left)
  left_so = spot.left_so total c rest number i child e slot choose_sibling chosen left right read_left read_right

  pub right_so : slice_get (short.step total is_summary now now path nid a c rest number i child e).node.children (slot + 1) ≡ Some (kind.Inner right)
  right_so = spot.right_so total c rest number i child e slot choose_sibling chosen left right read_left read_right

  module _ {after : Slots (Inner K A) (Leaf K V)} (sides : ChildSummaries A) where
    -- the two inner nodes merged
    module _ (emptied : Inner K A) (j : MergesInnersAt cmp is_summary slot now after number left right sides emptied) (above : A) (sums : SumsUpAt cmp is_summary (after.inner number.0) above) where
      abbrev pub merged : UnderflowBelow cmp is_summary after rest number above
      merged = merged_climbs total is_summary now after path nid a c rest number i child e slot left right beside_so left_so right_so sides emptied j above sums

      module _ (new : Slots (Inner K A) (Leaf K V)) (top : A) (sunk : PropagatedUnderflow merged.climb new top) where
        pub held_so : new.inner right.0 ≡ Held
        held_so = still_held total is_summary now after path nid a c rest number i child e slot left right beside_so left_so right_so sides emptied j above sums new top sunk

        pub merged_sinks : (final : Slots (Inner K A) (Leaf K V)) → UpdatesInner new final right.0 Free → PropagatedUnderflow c.climb final top
        merged_sinks final frees =
            sunk_merged total is_summary now after path nid a c rest number i child e slot left right beside_so left_so right_so sides emptied j above sums new top sunk final
            (right_was_not total is_summary now after path nid a c rest number i child e slot left right beside_so left_so right_so sides emptied j above sums new top sunk) frees

    -- one of the two rotated a child to the other
    module _ (lacks : length (inner_keys (now.inner nid.0)) < 16) (giver : Sibling) (same : choose_sibling ≡ Some giver) (l : RotatesInnersAt cmp is_summary slot now after number giver left right sides) (above : A) (sums : SumsUpAt cmp is_summary (after.inner number.0) above) where
      pub least_so : (16 ≤ length l.three.one'.keys) × (16 ≤ length l.other'.keys)
      least_so = spot.enough_there total c rest number i child e slot choose_sibling chosen left right read_left read_right lacks giver (length l.three.one'.keys) (length l.other'.keys) same (rw (l.three.at_left, l.three.at_right) l.transfers.moves.sizes)

      abbrev pub rotated : EditBelow cmp is_summary after rest above
      rotated = rotated_climbs total is_summary now after path nid a c rest number i child e slot left right beside_so left_so right_so sides giver l least_so above sums

      pub rotated_sinks : (new : Slots (Inner K A) (Leaf K V)) (top : A) → Propagated rotated.climb new top → PropagatedUnderflow c.climb new top
      rotated_sinks new top r = sunk_rotated total is_summary now after path nid a c rest number i child e slot left right beside_so left_so right_so sides giver l least_so above sums new top r
