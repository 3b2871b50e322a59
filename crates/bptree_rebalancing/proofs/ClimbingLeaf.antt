-- A leaf that underflowed was rebalanced with its sibling, and the edit is propagated to the nodes
-- above.
use Rattle.std.proofs.Common.{◌≡◌, ℕ, suc, ◌+◌, ◌<◌, ◌≤◌, ◌^◌, inl, inr, ◌⊎◌, true, cond, List, [], ◌∷◌, ◌++◌, length, get_or, take, drop, refl, sym, ap, subst, ◌∙◌, arith, add-one, append_assoc, Option, Some, None, IfSome, eqb, slice_get}
use Rattle.std.specs.declared.cmp.Ordering.{Ordering}
use Rattle.std.specs.Cmp.{IsTotalOrder}
use Rattle.std.specs.Map.{keys_of}
use Rattle.std.proofs.lemmas.Bool.{cases_eq, eq-eqb}
use Rattle.std.proofs.lemmas.Bool.Decides.{eqb_tells}
use Rattle.std.proofs.lemmas.List.Edits.{length-insert}
use Rattle.bptree_nodes.specs.Inner.{Inner}
use Rattle.bptree_nodes.specs.Leaf.{Leaf}
use Rattle.bptree_nodes.specs.Slot.{Slot, Slots, Free, Held, Present, IsPresent, UpdatesLeaf}
use Rattle.bptree_keys.specs.Contents.{IsAscending}
use Rattle.bptree_keys.specs.declared.node_id.InnerNodeId.{InnerNodeId}
use Rattle.bptree_keys.specs.declared.node_id.LeafNodeId.{LeafNodeId}
use Rattle.bptree_keys.specs.declared.node_id.NodeId.{NodeId}
use Rattle.bptree_keys.specs.declared.node_id.NodeId.TheVariants as kind
use Rattle.bptree_propagation.specs.Change.{RelinksNext}
use Rattle.bptree_propagation.specs.Climb.{is_held, HeldAre, least_at, EditBelow, Propagated}
use Rattle.bptree_invariant.specs.Edit.{CanReach, Turn, Stays, Loses, SameLinks, Edits}
use Rattle.bptree_rebalancing.specs.ChooseSibling.{ChoosesSibling, child_size}
use Rattle.bptree_propagation.specs.LeafChange.{SumsUpLeaf}
use Rattle.bptree_rebalancing.specs.Rebalance.{RebalancesPair}
use Rattle.bptree_invariant.specs.Order.{flat}
use Rattle.bptree_invariant.specs.Outcome.{Done, Split}
use Rattle.bptree_invariant.specs.Shape.{inner_children, leaf_pairs, leaf_prev, leaf_next, pairs_at, leaves_at, leaf_count, inner_count, stored, root_least, AreLinked, IsTree}
use Rattle.bptree_rebalancing.specs.Transfer.{CanSpare, HasEntry}
use Rattle.bptree_rebalancing.specs.RotateMerge.{RotatesLeavesAt, MergesLeavesAt}
use Rattle.bptree_propagation.specs.Sums.{SumsUpAt, with_split}
use Rattle.bptree_rebalancing.specs.Trim.{UnderflowBelow, PropagatedUnderflow, LeafUnderflow, PropagatedToRoot}
use Rattle.bptree_rebalancing.specs.declared.rotate_merge.ParentEntry.{ParentEntry}
use Rattle.bptree_rebalancing.specs.declared.rotate_merge.Sibling.{Sibling}
use Rattle.bptree_invariant.proofs.Agreeing.{stored_le}
use Rattle.bptree_propagation.proofs.Climbing.{climb_on, reported_up, least_most, none_are_held, not_held, held_is}
use Rattle.bptree_invariant.proofs.Frame.{Same, same}
use Rattle.bptree_rebalancing.proofs.Choosing.{inserted_is, before_is, most_many}
use Rattle.bptree_invariant.proofs.Hinted.{count_of, count_leaves, first_or, linked_next}
use Rattle.bptree_rebalancing.proofs.LeafSpot as spot
use Rattle.bptree_propagation.proofs.Relinked.{reads_same, relinked_pairs, relinked_inner, relinked_held, one_at, other_leaf, linked_closed}
use Rattle.bptree_rebalancing.proofs.RebalanceLeaf as leaf_step
use Rattle.bptree_rebalancing.proofs.Pair as pair
use Rattle.bptree_propagation.proofs.Rooted.{whole_done, present_leaf}
use Rattle.bptree_rebalancing.proofs.Seated.{seat_size}
use Rattle.bptree_rebalancing.proofs.Loose.{loose_of}
use Rattle.bptree_rebalancing.proofs.Transfers.{entry_of}
use Rattle.bptree_invariant.proofs.Ways.{LastStep}
use Rattle.bptree_invariant.proofs.Widen.{tree_less}

module _ {K V A : Type 0} {cmp : K → K → Ordering} (total' : IsTotalOrder cmp) (is_summary : A → List K → Type 0) (now after : Slots (Inner K A) (Leaf K V)) (path : List (InnerNodeId × ℕ × NodeId)) (number : InnerNodeId) (i : ℕ)
    (c : LeafUnderflow cmp is_summary now path number i) (slot : ℕ) (left right : LeafNodeId) (beside : (i ≡ slot) ⊎ (i ≡ suc slot)) where
  abbrev pub step : LastStep cmp c.climb.old c.climb.k c.climb.top c.climb.root path number i c.climb.height c.climb.id
  step = spot.step total' is_summary now path number i c

  abbrev pub node : Inner K A
  node = step.node

  pub at : CanReach cmp c.climb.old (suc c.climb.height) (kind.Inner number) c.climb.k
  at = spot.at total' is_summary now path number i c

  module _ (read_left : slice_get node.children slot ≡ Some (kind.Leaf left)) (read_right : slice_get node.children (slot + 1) ≡ Some (kind.Leaf right)) (joint : ParentEntry K A) where
    left_there : IsPresent (now.leaf left.0)
    left_there = (spot.full_at total' is_summary now path number i c slot left read_left).0

    right_there : IsPresent (now.leaf right.0)
    right_there = (spot.full_at total' is_summary now path number i c (slot + 1) right read_right).0

    left_was : IsPresent (c.climb.old.leaf left.0)
    left_was = spot.there_was total' is_summary now path number i c left left_there

    right_was : IsPresent (c.climb.old.leaf right.0)
    right_was = spot.there_was total' is_summary now path number i c right right_there

    links_left : SameLinks c.climb.old now left
    links_left = spot.links_now total' is_summary now path number i c left left_was

    links_right : SameLinks c.climb.old now right
    links_right = spot.links_now total' is_summary now path number i c right right_was

    -- the parent has an entry between the two leaves
    module _ (bare : Inner K A) (given : NodeId) (entry' : HasEntry node bare slot joint.separator given joint.right) where
      below : slot < length bare.children
      below = omega (arith, entry'.index.within, entry'.index.children)

      given_is : given ≡ kind.Leaf right
      given_is = inserted_is bare.children (slot + 1) given (kind.Leaf right) (omega (arith, below)) (ap (λ (n : Inner K A). slice_get n.children (slot + 1)) (sym entry'.is) ∙ read_right)

      entry : HasEntry node bare slot joint.separator (kind.Leaf right) joint.right
      entry = subst (λ x. HasEntry node bare slot joint.separator x joint.right) given_is entry'

      left_is : get_or bare.children slot c.climb.id ≡ kind.Leaf left
      left_is = before_is bare.children slot given (kind.Leaf left) c.climb.id below (rw add-one at (ap (λ (n : Inner K A). slice_get n.children slot) (sym entry'.is)) ∙ read_left)

      -- what holds at the height of the edit and of the child at the slot holds at height 0 of the
      -- left leaf
      to_low : (P : ℕ → NodeId → Type 0) → P c.climb.height (get_or bare.children slot c.climb.id) → P 0 (kind.Leaf left)
      to_low P x = subst (P 0) left_is (subst (λ n. P n (get_or bare.children slot c.climb.id)) c.low x)

      from_low : (P : ℕ → NodeId → Type 0) → P 0 (kind.Leaf left) → P c.climb.height (get_or bare.children slot c.climb.id)
      from_low P x = subst (λ n. P n (get_or bare.children slot c.climb.id)) (sym c.low) (subst (P 0) (sym left_is) x)

      abbrev before : List LeafNodeId
      before = flat (leaves_at c.climb.old c.climb.height) (take slot bare.children)

      abbrev behind : List LeafNodeId
      behind = flat (leaves_at c.climb.old c.climb.height) (drop (suc slot) bare.children)

      was_order : flat (leaves_at c.climb.old c.climb.height) node.children ≡ before ++ left ∷ (right ∷ behind)
      was_order =
          spot.same_order total' is_summary now path number i c
          ∙ (pair.order_unmerged total' is_summary c.climb.edit c.climb.kept c.climb.old now after c.climb.height number c.climb.k node i c.climb.id c.climb.leaf c.climb.turn c.climb.local at step.is step.leads step.read c.enough c.climb.edits bare slot joint.separator (kind.Leaf right) joint.right entry beside
          ∙ ap (λ x. before ++ (x ++ behind)) (from_low (λ m x. leaves_at now m x ++ leaves_at now m (kind.Leaf right) ≡ left ∷ right ∷ []) refl))

      pub next_is : leaf_next (now.leaf left.0) ≡ Some right
      next_is = spot.next_of total' is_summary now path number i c left right before behind was_order left_there

    -- if the node above was written, no other inner node is held
    held_inners : {is : Inner K A} → after.inner number.0 ≡ Present is → ((n : ℕ) → (n ≡ number.0 → ⊥) → after.inner n ≡ now.inner n) → (n : ℕ) → is_held (after.inner n) ≡ c.climb.held_inner n
    held_inners stored others n =
        elim (cases_eq n number.0) [
          | inl q ↦ (rw q (ap is_held stored ∙ (sym (ap is_held (spot.here total' is_summary now path number i c)) ∙ c.climb.free.inners number.0)))
          | inr far ↦ ap is_held (others n far) ∙ c.climb.free.inners n
        ]

    -- the new summary of the node above is one of its keys
    pub reported_above : (kept : ℕ) (leaf' : LeafNodeId) (turn' : Turn) → Edits cmp is_summary c.climb.edit kept c.climb.old after (suc c.climb.height) (kind.Inner number) c.climb.k leaf' turn' Done → (above : A) → SumsUpAt cmp is_summary (after.inner number.0) above
        → is_summary above (keys_of (pairs_at after (suc c.climb.height) (kind.Inner number)))
    reported_above kept leaf' turn' e above sums =
        reported_up total' is_summary after 0 c.climb.height number at.low at.high above (e.tree 0 at.low at.high (omega arith) (tree_less cmp c.climb.old at.least 0 (suc c.climb.height) (kind.Inner number) at.low at.high (omega arith) at.tree) at.fits)
        (e.summed (spot.summed total' is_summary now path number i c)) (subst (λ l. length l < 2 ^ 64) (sym e.pairs) (spot.few total' is_summary now path number i c)) sums

    -- the two leaves merged
    module _ (emptied : Leaf K V) (j : MergesLeavesAt cmp is_summary slot now after number left right joint emptied) where
      pub je : HasEntry node j.transfers.bare slot joint.separator j.transfers.child joint.right
      je = entry_of (now.inner number.0) node j.three.node (spot.here total' is_summary now path number i c) j.three.at_node j.transfers.entry

      merge_rebalances : RebalancesPair cmp is_summary now after c.climb.height number.0 (get_or j.transfers.bare.children slot c.climb.id) joint.separator (kind.Leaf right) Done
      merge_rebalances =
          from_low j.transfers.bare j.transfers.child je (λ m x. RebalancesPair cmp is_summary now after m number.0 x joint.separator (kind.Leaf right) Done)
          (leaf_step.leaves_joined total' is_summary now after number.0 left right j.three.one j.three.other j.three.one' joint.separator j.three.at_left j.three.at_right j.three.is_left j.inners j.leaves j.three.apart emptied j.three.is_right j.transfers.leaves j.fits)

      j_reported : is_summary j.transfers.merges.both (keys_of (pairs_at after c.climb.height (get_or j.transfers.bare.children slot c.climb.id)))
      j_reported =
          let t = pair.pair_tree total' is_summary c.climb.edit c.climb.kept c.climb.old now after c.climb.height number c.climb.k node i c.climb.id c.climb.leaf c.climb.turn c.climb.local at step.is step.leads step.read c.enough c.climb.edits j.transfers.bare slot joint.separator (kind.Leaf right) joint.right (entry j.transfers.bare j.transfers.child je) beside Done merge_rebalances in
          let low = to_low j.transfers.bare j.transfers.child je (λ m x. IsTree cmp after 16 m x t.0 t.1) t.2 in
          let so : (16 ≤ length j.three.one'.pairs) × IsAscending cmp j.three.one'.pairs = subst (λ (x : Slot (Leaf K V)). (16 ≤ length (leaf_pairs x)) × IsAscending cmp (leaf_pairs x)) j.three.is_left (low.3, low.2) in
          from_low j.transfers.bare j.transfers.child je (λ m x. is_summary j.transfers.merges.both (keys_of (pairs_at after m x)))
          (subst (λ (x : Slot (Leaf K V)). is_summary j.transfers.merges.both (keys_of (leaf_pairs x))) (sym j.three.is_left) (j.transfers.merges.reported_both (omega (arith, so.0)) so.1))

      pub j_edits : Edits cmp is_summary c.climb.edit (length j.transfers.bare.keys) c.climb.old after (suc c.climb.height) (kind.Inner number) c.climb.k left (Loses right) Done
      j_edits =
          pair.node_merged total' is_summary c.climb.edit c.climb.kept c.climb.old now after c.climb.height number c.climb.k node i c.climb.id c.climb.leaf c.climb.turn c.climb.local at step.is step.leads step.read c.enough c.climb.edits j.transfers.bare slot joint.separator (kind.Leaf right) joint.right (entry j.transfers.bare j.transfers.child je) beside j.transfers.merges.both merge_rebalances (j.three.is_node ∙ ap Present j.transfers.merges.is) j_reported (length j.transfers.bare.keys) (omega arith) left (Loses right)
          (record {
            order = record {
              before = before j.transfers.bare j.transfers.child je;
              after = behind j.transfers.bare j.transfers.child je;
              was = was_order j.transfers.bare j.transfers.child je;
              is = pair.order_after total' is_summary c.climb.edit c.climb.kept c.climb.old now after c.climb.height number c.climb.k node i c.climb.id c.climb.leaf c.climb.turn c.climb.local at step.is step.leads step.read c.enough c.climb.edits j.transfers.bare slot joint.separator (kind.Leaf right) joint.right (entry j.transfers.bare j.transfers.child je) beside Done merge_rebalances
                  ∙ ap (λ x. before j.transfers.bare j.transfers.child je ++ (x ++ behind j.transfers.bare j.transfers.child je)) (from_low j.transfers.bare j.transfers.child je (λ m x. leaves_at after m x ≡ left ∷ []) refl);
            };
            links = (
              ap leaf_prev j.three.is_left ∙ (ap (λ (x : Leaf K V). x.prev) j.transfers.leaves.left_is ∙ (ap leaf_prev (sym j.three.at_left) ∙ links_left.0)),
              ap leaf_next j.three.is_left ∙ (ap (λ (x : Leaf K V). x.next) j.transfers.leaves.left_is ∙ (ap leaf_next (sym j.three.at_right) ∙ links_right.1)),
            );
            untouched = λ x l r some. rw (j.leaves x.0 l r) (spot.links_now total' is_summary now path number i c x some, spot.there_now total' is_summary now path number i c x some);
          })

      pub j_held : HeldAre c.climb.held_inner (λ n. cond (eqb right.0 n) true (c.climb.held_leaf n)) after
      j_held = record {
        inners = held_inners j.three.is_node j.inners;
        leaves = λ n.
            elim (eqb_tells right.0 n) [
              | inl q ↦ (rw q.0 (ap (λ m. is_held (after.leaf m)) (sym q.1) ∙ ap is_held j.three.is_right))
              | inr far ↦ (rw far.0 (elim (cases_eq n left.0) [
                | inl q ↦ (rw q (ap is_held j.three.is_left ∙ (sym (ap is_held j.three.at_left) ∙ c.climb.free.leaves left.0)))
                | inr l ↦ ap is_held (j.leaves n l (λ z. far.1 (sym z))) ∙ c.climb.free.leaves n
              ]))
            ];
      }

      abbrev pub merged_climbs : (above : A) → SumsUpAt cmp is_summary (after.inner number.0) above → UnderflowBelow cmp is_summary after path number above
      merged_climbs above sums = record {
        climb = climb_on c.climb (suc c.climb.height) (kind.Inner number) (length j.transfers.bare.keys) step.way j_edits j_held;
        here = refl;
        enough = omega (arith, seat_size cmp c.climb.old c.climb.k (least_at c.climb.top path) c.climb.height number node step.is (spot.seat total' is_summary now path number i c), ap (λ (n : Inner K A). length n.keys) je.is, length-insert j.transfers.bare.keys slot joint.separator je.index.within);
        reported = reported_above (length j.transfers.bare.keys) left (Loses right) j_edits above sums;
      }

      -- the id of the removed leaf is released, and the leaf behind it is relinked
      module _ (above : A) (sums : SumsUpAt cmp is_summary (after.inner number.0) above) (new : Slots (Inner K A) (Leaf K V)) (top : A) (sunk : PropagatedUnderflow (merged_climbs above sums).climb new top) where
        pub still_held : new.leaf right.0 ≡ Held
        still_held = held_is (new.leaf right.0) (sunk.free.leaves right.0 ∙ rw (eq-eqb right.0 right.0 refl) refl)

        abbrev edits : Edits cmp is_summary c.climb.edit 0 c.climb.old new c.climb.top c.climb.root c.climb.k left (Loses right) Done
        edits = sunk.edits

        abbrev first : List LeafNodeId
        first = edits.order.before

        abbrev later : List LeafNodeId
        later = edits.order.after

        was_whole : leaves_at c.climb.old c.climb.top c.climb.root ≡ first ++ left ∷ (right ∷ later)
        was_whole = edits.order.was

        links : AreLinked c.climb.old None (first ++ left ∷ (right ∷ later)) None
        links = subst (λ ids. AreLinked c.climb.old None ids None) was_whole c.climb.shape.linked

        unique : (n : ℕ) → count_of (first ++ left ∷ (right ∷ later)) n ≤ 1
        unique n = omega (arith, ap (λ ids. count_of ids n) was_whole, count_leaves c.climb.old c.climb.top c.climb.root n, c.climb.shape.leaves n, stored_le (c.climb.old.leaf n))

        present : (n : ℕ) → 1 ≤ count_of (first ++ left ∷ (right ∷ later)) n → IsPresent (c.climb.old.leaf n)
        present n some = present_leaf cmp is_summary c.climb.old c.climb.top c.climb.root c.climb.shape n (omega (arith, some, ap (λ ids. count_of ids n) was_whole))

        module _ (mid : Slots (Inner K A) (Leaf K V)) (frees : UpdatesLeaf new mid right.0 Free) (next : Option LeafNodeId) (seen : leaf_next (now.leaf right.0) ≡ next) where
          next_first : next ≡ first_or None later
          next_first =
              sym seen
              ∙ (links_right.1
              ∙ linked_next c.climb.old None (first ++ left ∷ []) right later None (subst (λ ids. AreLinked c.climb.old None ids None) (sym (append_assoc first (left ∷ []) (right ∷ later))) links))

          untouched : (x : LeafNodeId) → (x.0 ≡ left.0 → ⊥) → (x.0 ≡ right.0 → ⊥) → IsPresent (c.climb.old.leaf x.0) → SameLinks c.climb.old mid x
          untouched x l r some = rw (frees.leaf.others x.0 r) (edits.untouched x l r some).0

          there : (ids : List LeafNodeId) → later ≡ ids → IfSome (first_or None ids) (λ y. IsPresent (mid.leaf y.0))
          there [] e = tt
          there (y ∷ ys) e =
              let o = other_leaf c.climb.old mid mid first left right later untouched unique present y (omega (arith, one_at y.0 y.0 refl, ap (λ ids. count_of ids y.0) e)) in
              rw (frees.leaf.others y.0 o.1) (edits.untouched y o.0 o.1 o.2).1

          pub next_there : IfSome next (λ y. IsPresent (mid.leaf y.0))
          next_there = subst (λ o. IfSome o (λ y. IsPresent (mid.leaf y.0))) (sym next_first) (there later refl)

          module _ (final : Slots (Inner K A) (Leaf K V)) (rebalances : RelinksNext mid final next left) where
            mid_inner : (n : ℕ) → mid.inner n ≡ new.inner n
            mid_inner n = ap (λ (f : ℕ → Slot (Inner K A)). f n) frees.inner

            counts : (n : ℕ) → leaf_count new c.climb.top c.climb.root n ≡ stored (new.leaf n)
            counts n = omega (arith, c.climb.shape.leaves n, edits.leaves n)

            inner_counts : (n : ℕ) → inner_count new c.climb.top c.climb.root n ≡ stored (new.inner n)
            inner_counts n = omega (arith, c.climb.shape.inners n, edits.inners n)

            none_there : stored (new.leaf right.0) ≡ 0
            none_there = ap stored still_held

            mid_stored : (n : ℕ) → stored (mid.leaf n) ≡ stored (new.leaf n)
            mid_stored n = elim (cases_eq n right.0) [ inl q ↦ (rw q (ap stored frees.leaf.changed ∙ sym none_there)) | inr far ↦ ap stored (frees.leaf.others n far) ]

            freed : Same cmp is_summary new mid c.climb.top c.climb.root
            freed = same cmp is_summary new mid c.climb.top c.climb.root (
              (λ n some. frees.leaf.others n (λ q. let z : stored (new.leaf n) ≡ 0 = ap (λ m. stored (new.leaf m)) q ∙ none_there in omega (arith, some, counts n, z))),
              (λ n some. mid_inner n),
            )

            relinked : Same cmp is_summary mid final c.climb.top c.climb.root
            relinked = reads_same cmp is_summary mid final (relinked_pairs mid final left next rebalances) c.climb.top c.climb.root (λ n some. relinked_inner mid final left next rebalances n)

            free_leaf : (n : ℕ) → final.leaf n ≡ Held → ⊥
            free_leaf n held =
                let h = relinked_held mid final left next rebalances n held in
                elim (eqb_tells right.0 n) [
                  | inl q ↦ (let z : Free ≡ Held = sym frees.leaf.changed ∙ (ap mid.leaf q.1 ∙ h) in cc)
                  | inr far ↦ not_held (new.leaf n) (sunk.free.leaves n ∙ rw far.0 (c.none_held n).1) (sym (frees.leaf.others n (λ z. far.1 (sym z))) ∙ h)
                ]

            free_inner : (n : ℕ) → final.inner n ≡ Held → ⊥
            free_inner n held = not_held (new.inner n) (sunk.free.inners n ∙ (c.none_held n).0) (sym (mid_inner n) ∙ (sym (relinked_inner mid final left next rebalances n) ∙ held))

            linked : AreLinked final None (first ++ left ∷ later) None
            linked =
                linked_closed c.climb.old mid final first left right later untouched (rw (frees.leaf.others left.0 j.three.apart) edits.links) unique present
                (subst (λ o. RelinksNext mid final o left) next_first rebalances) links

            pub trims_merged : PropagatedToRoot c.climb final top
            trims_merged = record {
              loose = record {
                nodes = record {
                  tree = relinked.tree 0 None None (freed.tree 0 None None (edits.tree 0 None None (omega arith) (tree_less cmp c.climb.old (root_least c.climb.top) 0 c.climb.top c.climb.root None None (omega arith) c.climb.shape.tree) (tt, tt)));
                  leaves = λ n. omega (arith, relinked.leaves n, freed.leaves n, counts n, mid_stored n, (relinked_pairs mid final left next rebalances n).stored);
                  inners = λ n. omega (arith, relinked.inners n, freed.inners n, inner_counts n, ap stored (mid_inner n), ap stored (relinked_inner mid final left next rebalances n));
                  none_held = record { inners = free_inner; leaves = free_leaf };
                  summed = relinked.summed (freed.summed (edits.summed c.climb.shape.summed));
                };
                linked = subst (λ ids. AreLinked final None ids None) (sym (relinked.order ∙ (freed.order ∙ edits.order.is))) linked;
              };
              pairs = relinked.pairs ∙ (freed.pairs ∙ edits.pairs);
              reported = subst (λ l. is_summary top (keys_of l)) (sym (relinked.pairs ∙ freed.pairs)) sunk.reported;
            }

    -- one leaf rotated pairs to the other
    module _ (giver : Sibling) (count : ℕ) (l : RotatesLeavesAt cmp is_summary slot now after number giver count left right joint) (least : (16 ≤ length l.three.one'.pairs) × (16 ≤ length l.other'.pairs)) where
      abbrev up : K
      up = l.transfers.rotates.separator

      pub le : HasEntry node l.transfers.bare slot joint.separator l.transfers.child joint.right
      le = entry_of (now.inner number.0) node l.three.node (spot.here total' is_summary now path number i c) l.three.at_node l.transfers.entry

      left_rebalances : RebalancesPair cmp is_summary now after c.climb.height number.0 (get_or l.transfers.bare.children slot c.climb.id) joint.separator (kind.Leaf right) (Split up (kind.Leaf right))
      left_rebalances =
          from_low l.transfers.bare l.transfers.child le (λ m x. RebalancesPair cmp is_summary now after m number.0 x joint.separator (kind.Leaf right) (Split up (kind.Leaf right)))
          (leaf_step.leaves_rotated total' is_summary now after number.0 left right l.three.one l.three.other l.three.one' joint.separator l.three.at_left l.three.at_right l.three.is_left l.inners l.leaves l.three.apart giver count l.other' up l.three.is_right l.transfers.moves l.transfers.rotates.separates least
          (most_many giver count (length l.three.one.pairs) (length l.three.other.pairs) (length l.three.one'.pairs) (length l.other'.pairs) l.can l.transfers.moves.sizes))

      sums_leaf : (x : LeafNodeId) (node' : Leaf K V) (lo hi : Option K) (b : A) → after.leaf x.0 ≡ Present node' → IsTree cmp after 16 0 (kind.Leaf x) lo hi → SumsUpLeaf cmp is_summary node'.pairs b → is_summary b (keys_of (pairs_at after 0 (kind.Leaf x)))
      sums_leaf x node' lo hi b is t sums =
          let so : (16 ≤ length node'.pairs) × IsAscending cmp node'.pairs = subst (λ (y : Slot (Leaf K V)). (16 ≤ length (leaf_pairs y)) × IsAscending cmp (leaf_pairs y)) is (t.3, t.2) in
          subst (λ (y : Slot (Leaf K V)). is_summary b (keys_of (leaf_pairs y))) (sym is) (sums (omega (arith, so.0)) so.1)

      l_reported : is_summary l.transfers.rotates.left (keys_of (pairs_at after c.climb.height (get_or l.transfers.bare.children slot c.climb.id))) × is_summary l.transfers.rotates.right (keys_of (pairs_at after c.climb.height (kind.Leaf right)))
      l_reported =
          let t = pair.pair_tree total' is_summary c.climb.edit c.climb.kept c.climb.old now after c.climb.height number c.climb.k node i c.climb.id c.climb.leaf c.climb.turn c.climb.local at step.is step.leads step.read c.enough c.climb.edits l.transfers.bare slot joint.separator (kind.Leaf right) joint.right (entry l.transfers.bare l.transfers.child le) beside (Split up (kind.Leaf right)) left_rebalances in
          let left_tree = to_low l.transfers.bare l.transfers.child le (λ m x. IsTree cmp after 16 m x t.0 (Some up)) t.2.0 in
          let right_tree = subst (λ m. IsTree cmp after 16 m (kind.Leaf right) (Some up) t.1) c.low t.2.2 in (
            from_low l.transfers.bare l.transfers.child le (λ m x. is_summary l.transfers.rotates.left (keys_of (pairs_at after m x))) (sums_leaf left l.three.one' t.0 (Some up) l.transfers.rotates.left l.three.is_left left_tree l.transfers.rotates.reported_left),
            subst (λ m. is_summary l.transfers.rotates.right (keys_of (pairs_at after m (kind.Leaf right)))) (sym c.low) (sums_leaf right l.other' (Some up) t.1 l.transfers.rotates.right l.three.is_right right_tree l.transfers.rotates.reported_right),
          )

      links_after : (x : LeafNodeId) → IsPresent (c.climb.old.leaf x.0) → SameLinks c.climb.old after x × IsPresent (after.leaf x.0)
      links_after x some =
          elim (cases_eq x.0 left.0) [
            | inl q ↦ (rw q (
              (
                ap leaf_prev l.three.is_left ∙ (ap (λ (y : Leaf K V). y.prev) l.transfers.moves.left_links ∙ (ap leaf_prev (sym l.three.at_left) ∙ links_left.0)),
                ap leaf_next l.three.is_left ∙ (ap (λ (y : Leaf K V). y.next) l.transfers.moves.left_links ∙ (ap leaf_next (sym l.three.at_left) ∙ links_left.1)),
              ),
              rw l.three.is_left tt,
            ))
            | inr far ↦ elim (cases_eq x.0 right.0) [
              | inl q ↦ (rw q (
                (
                  ap leaf_prev l.three.is_right ∙ (ap (λ (y : Leaf K V). y.prev) l.transfers.moves.right_links ∙ (ap leaf_prev (sym l.three.at_right) ∙ links_right.0)),
                  ap leaf_next l.three.is_right ∙ (ap (λ (y : Leaf K V). y.next) l.transfers.moves.right_links ∙ (ap leaf_next (sym l.three.at_right) ∙ links_right.1)),
                ),
                rw l.three.is_right tt,
              ))
              | inr r ↦ (rw (l.leaves x.0 far r) (spot.links_now total' is_summary now path number i c x some, spot.there_now total' is_summary now path number i c x some))
            ]
          ]

      pub l_edits : Edits cmp is_summary c.climb.edit 16 c.climb.old after (suc c.climb.height) (kind.Inner number) c.climb.k left Stays Done
      l_edits =
          pair.node_rotated total' is_summary c.climb.edit c.climb.kept c.climb.old now after c.climb.height number c.climb.k node i c.climb.id c.climb.leaf c.climb.turn c.climb.local at step.is step.leads step.read c.enough c.climb.edits l.transfers.bare slot joint.separator (kind.Leaf right) joint.right (entry l.transfers.bare l.transfers.child le) beside l.transfers.rotates.left l.transfers.rotates.right up left_rebalances
          (l.three.is_node ∙ ap Present (l.transfers.rotates.is ∙ ap (λ x. with_split l.transfers.bare slot l.transfers.rotates.left up x l.transfers.rotates.right) (given_is l.transfers.bare l.transfers.child le))) l_reported.0 l_reported.1 16 left Stays
          (record {
            order = record {
              before = before l.transfers.bare l.transfers.child le;
              after = right ∷ behind l.transfers.bare l.transfers.child le;
              was = was_order l.transfers.bare l.transfers.child le;
              is = pair.order_after_two total' is_summary c.climb.edit c.climb.kept c.climb.old now after c.climb.height number c.climb.k node i c.climb.id c.climb.leaf c.climb.turn c.climb.local at step.is step.leads step.read c.enough c.climb.edits l.transfers.bare slot joint.separator (kind.Leaf right) joint.right (entry l.transfers.bare l.transfers.child le) beside (Split up (kind.Leaf right)) left_rebalances
                  ∙ ap (λ x. before l.transfers.bare l.transfers.child le ++ (x ++ behind l.transfers.bare l.transfers.child le)) (from_low l.transfers.bare l.transfers.child le (λ m x. leaves_at after m x ++ leaves_at after m (kind.Leaf right) ≡ left ∷ right ∷ []) refl);
            };
            links = (links_after left left_was).0;
            untouched = λ x far spares some. links_after x some;
          })

      pub l_held : HeldAre c.climb.held_inner c.climb.held_leaf after
      l_held = record {
        inners = held_inners l.three.is_node l.inners;
        leaves = λ n.
            elim (cases_eq n left.0) [
              | inl q ↦ (rw q (ap is_held l.three.is_left ∙ (sym (ap is_held l.three.at_left) ∙ c.climb.free.leaves left.0)))
              | inr x ↦ elim (cases_eq n right.0) [
                | inl q ↦ (rw q (ap is_held l.three.is_right ∙ (sym (ap is_held l.three.at_right) ∙ c.climb.free.leaves right.0)))
                | inr y ↦ ap is_held (l.leaves n x y) ∙ c.climb.free.leaves n
              ]
            ];
      }

      abbrev pub rotated_climbs : (above : A) → SumsUpAt cmp is_summary (after.inner number.0) above → EditBelow cmp is_summary after path above
      rotated_climbs above sums = record {
        climb = climb_on c.climb (suc c.climb.height) (kind.Inner number) 16 step.way l_edits l_held;
        enough = least_most c.climb.top path;
        reported = reported_above 16 left Stays l_edits above sums;
      }

      pub trims_rotated : (above : A) (sums : SumsUpAt cmp is_summary (after.inner number.0) above) (new : Slots (Inner K A) (Leaf K V)) (top : A) → Propagated (rotated_climbs above sums).climb new top → PropagatedToRoot c.climb new top
      trims_rotated above sums new top r = record {
        loose = loose_of cmp is_summary new c.climb.top c.climb.root
            (whole_done cmp is_summary c.climb.edit c.climb.old new c.climb.top c.climb.root c.climb.k left c.climb.shape (none_are_held r.free c.none_held) r.edits);
        pairs = r.edits.pairs;
        reported = r.reported;
      }

-- The facts of the two leaves, by the slot of the node above.
module _ {K V A : Type 0} {cmp : K → K → Ordering} (total' : IsTotalOrder cmp) {is_summary : A → List K → Type 0} {now : Slots (Inner K A) (Leaf K V)} {path : List (InnerNodeId × ℕ × NodeId)} {number : InnerNodeId} {i : ℕ}
    (c : LeafUnderflow cmp is_summary now path number i) (slot : ℕ) (choose_sibling : Option Sibling) (chosen : ChoosesSibling (child_size now (inner_children (now.inner number.0))) i slot choose_sibling) (left right : LeafNodeId)
    (read_left : slice_get (inner_children (now.inner number.0)) slot ≡ Some (kind.Leaf left)) (read_right : slice_get (inner_children (now.inner number.0)) (slot + 1) ≡ Some (kind.Leaf right)) where
  pub beside_so : (i ≡ slot) ⊎ (i ≡ suc slot)
  beside_so = spot.beside_there total' c slot choose_sibling chosen

  pub left_so : slice_get (spot.node total' is_summary now path number i c).children slot ≡ Some (kind.Leaf left)
  left_so = spot.left_so total' c slot left right read_left read_right

  pub right_so : slice_get (spot.node total' is_summary now path number i c).children (slot + 1) ≡ Some (kind.Leaf right)
  right_so = spot.right_so total' c slot left right read_left read_right

  -- the two leaves merged
  module _ {after : Slots (Inner K A) (Leaf K V)} (joint : ParentEntry K A) (emptied : Leaf K V) (j : MergesLeavesAt cmp is_summary slot now after number left right joint emptied) (above : A) (sums : SumsUpAt cmp is_summary (after.inner number.0) above) where
    abbrev pub merged : UnderflowBelow cmp is_summary after path number above
    merged = merged_climbs total' is_summary now after path number i c slot left right beside_so left_so right_so joint emptied j above sums

    -- the left leaf had the link that the undo of a merge restores
    pub link_so : leaf_next (now.leaf left.0) ≡ Some right
    link_so = next_is total' is_summary now after path number i c slot left right beside_so left_so right_so joint j.transfers.bare j.transfers.child (je total' is_summary now after path number i c slot left right beside_so left_so right_so joint emptied j)

    module _ (new : Slots (Inner K A) (Leaf K V)) (top : A) (sunk : PropagatedUnderflow merged.climb new top) where
      pub held_so : new.leaf right.0 ≡ Held
      held_so = still_held total' is_summary now after path number i c slot left right beside_so left_so right_so joint emptied j above sums new top sunk

      module _ (mid : Slots (Inner K A) (Leaf K V)) (frees : UpdatesLeaf new mid right.0 Free) (next : Option LeafNodeId) (seen : leaf_next (now.leaf right.0) ≡ next) where
        pub next_so : IfSome next (λ y. IsPresent (mid.leaf y.0))
        next_so = next_there total' is_summary now after path number i c slot left right beside_so left_so right_so joint emptied j above sums new top sunk mid frees next seen

        pub merged_trims : (final : Slots (Inner K A) (Leaf K V)) → RelinksNext mid final next left → PropagatedToRoot c.climb final top
        merged_trims final rebalances = trims_merged total' is_summary now after path number i c slot left right beside_so left_so right_so joint emptied j above sums new top sunk mid frees next seen final rebalances

  -- one leaf rotated pairs to the other
  module _ {after : Slots (Inner K A) (Leaf K V)} (joint : ParentEntry K A) (giver : Sibling) (count : ℕ) (spares : CanSpare giver count (length (leaf_pairs (now.leaf left.0))) (length (leaf_pairs (now.leaf right.0)))) (l : RotatesLeavesAt cmp is_summary slot now after number giver count left right joint) (above : A) (sums : SumsUpAt cmp is_summary (after.inner number.0) above) where
    pub least_so : (16 ≤ length l.three.one'.pairs) × (16 ≤ length l.other'.pairs)
    least_so =
        spot.enough_there total' c slot left right read_left read_right giver count (length l.three.one'.pairs) (length l.other'.pairs) spares
        (rw (l.three.at_left, l.three.at_right) l.transfers.moves.sizes)

    abbrev pub rotated : EditBelow cmp is_summary after path above
    rotated = rotated_climbs total' is_summary now after path number i c slot left right beside_so left_so right_so joint giver count l least_so above sums

    pub rotated_trims : (new : Slots (Inner K A) (Leaf K V)) (top : A) → Propagated rotated.climb new top → PropagatedToRoot c.climb new top
    rotated_trims new top r = trims_rotated total' is_summary now after path number i c slot left right beside_so left_so right_so joint giver count l least_so above sums new top r
