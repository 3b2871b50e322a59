-- An edit by which a node underflowed is propagated to its parent, and the node rotates or merges
-- with a sibling.
use Rattle.std.proofs.Common.{◌≡◌, ℕ, zero, suc, ◌+◌, ◌<◌, ◌≤◌, ◌^◌, ◌⊎◌, true, cond, List, [], ◌∷◌, ◌++◌, length, get_or, take, drop, refl, sym, ap, subst, ◌∙◌, arith, add-one, Option, Some, eqb, slice_get, length-append}
use Rattle.std.specs.declared.cmp.Ordering.{Ordering}
use Rattle.std.specs.Cmp.{IsTotalOrder}
use Rattle.std.specs.List.{insert}
use Rattle.std.specs.Map.{keys_of}
use Rattle.std.proofs.lemmas.List.Edits.{length-insert}
use Rattle.std.proofs.lemmas.Option.{get_or_from_slice_get}
use Rattle.bptree_nodes.specs.Inner.{Inner}
use Rattle.bptree_nodes.specs.Leaf.{Leaf}
use Rattle.bptree_nodes.specs.Slot.{Slot, Slots, Present}
use Rattle.bptree_keys.specs.declared.node_id.InnerNodeId.{InnerNodeId}
use Rattle.bptree_keys.specs.declared.node_id.NodeId.{NodeId}
use Rattle.bptree_keys.specs.declared.node_id.NodeId.TheVariants as kind
use Rattle.bptree_propagation.specs.Climb.{HeldAre, least_at, Climb, EditBelow}
use Rattle.bptree_invariant.specs.Edit.{CanReach, Extends, Edits}
use Rattle.bptree_rebalancing.specs.Rebalance.{RebalancesPair}
use Rattle.bptree_invariant.specs.Order.{flat}
use Rattle.bptree_invariant.specs.Outcome.{Done, Split}
use Rattle.bptree_invariant.specs.Shape.{pairs_at, leaves_at, inner_count, stored, IsSummed, IsTree}
use Rattle.bptree_rebalancing.specs.Transfer.{HasEntry}
use Rattle.bptree_propagation.specs.Sums.{SumsUpAt, with_summary, with_split}
use Rattle.bptree_rebalancing.specs.Trim.{UnderflowBelow}
use Rattle.bptree_propagation.proofs.Climbing.{climb_on, reported_up, last, can, summed_there, few_there, least_most, least_some}
use Rattle.bptree_propagation.proofs.Lift.{links_moved}
use Rattle.bptree_rebalancing.proofs.Pair as pair
use Rattle.bptree_rebalancing.proofs.Seated.{SubtreeAt, seat_of, seat_size, inner_high}
use Rattle.bptree_rebalancing.proofs.Choosing.{inserted_is}
use Rattle.bptree_invariant.proofs.Ways.{LastStep}
use Rattle.bptree_invariant.proofs.Widen.{tree_less}

read_before : {X : Type 0} (xs : List X) (i : ℕ) (y : X) → i < length xs → slice_get (insert xs (suc i) y) i ≡ slice_get xs i
read_before [] i y below = absurd (omega arith)
read_before (x ∷ xs) zero y below = refl
read_before (x ∷ xs) (suc i) y below = read_before xs i y (omega arith)

module _ {K V A : Type 0} {cmp : K → K → Ordering} (total : IsTotalOrder cmp) (is_summary : A → List K → Type 0) (now after : Slots (Inner K A) (Leaf K V)) (path : List (InnerNodeId × ℕ × NodeId)) (nid : InnerNodeId) (a : A)
    (c : UnderflowBelow cmp is_summary now path nid a) (rest : List (InnerNodeId × ℕ × NodeId)) (number : InnerNodeId) (i : ℕ) (child : NodeId) (e : path ≡ rest ++ (number, i, child) ∷ []) where
  abbrev pub step : LastStep cmp c.climb.old c.climb.k c.climb.top c.climb.root rest number i c.climb.height c.climb.id
  step = last total is_summary now path Done c.climb rest number i child e

  pub at : CanReach cmp c.climb.old (suc c.climb.height) (kind.Inner number) c.climb.k
  at = can total is_summary now path Done c.climb rest number i child e

  pub summed : IsSummed c.climb.old is_summary (suc c.climb.height) (kind.Inner number)
  summed = summed_there total is_summary now path Done c.climb rest number i child e

  pub few : length (c.climb.edit (pairs_at c.climb.old (suc c.climb.height) (kind.Inner number))) < 2 ^ 64
  few = few_there total is_summary now path Done c.climb rest number i child e

  pub short : 15 ≤ c.climb.kept
  short = let h : least_at c.climb.top (rest ++ (number, i, child) ∷ []) ≤ c.climb.kept + 1 = subst (λ p. least_at c.climb.top p ≤ c.climb.kept + 1) e c.enough in omega (arith, h, least_some c.climb.top rest (number, i, child))

  pub seat : SubtreeAt cmp c.climb.old c.climb.k (least_at c.climb.top rest) (suc c.climb.height) (kind.Inner number)
  seat = seat_of cmp c.climb.old c.climb.k rest c.climb.top c.climb.root (suc c.climb.height) (kind.Inner number) step.way c.climb.shape

  -- the node that may have underflowed is an inner one
  pub high : (m : ℕ) × (c.climb.height ≡ suc m)
  high = inner_high cmp c.climb.old c.climb.k (least_at c.climb.top path) c.climb.height nid (subst (λ x. SubtreeAt cmp c.climb.old c.climb.k (least_at c.climb.top path) c.climb.height x) c.here (seat_of cmp c.climb.old c.climb.k path c.climb.top c.climb.root c.climb.height c.climb.id c.climb.way c.climb.shape))

  -- the parent's new summary is one of its keys
  pub reported_above : (kept : ℕ) → Edits cmp is_summary c.climb.edit kept c.climb.old after (suc c.climb.height) (kind.Inner number) c.climb.k c.climb.leaf c.climb.turn Done → (above : A) → SumsUpAt cmp is_summary (after.inner number.0) above
      → is_summary above (keys_of (pairs_at after (suc c.climb.height) (kind.Inner number)))
  reported_above kept edits above sums =
      reported_up total is_summary after 0 c.climb.height number at.low at.high above (edits.tree 0 at.low at.high (omega arith) (tree_less cmp c.climb.old at.least 0 (suc c.climb.height) (kind.Inner number) at.low at.high (omega arith) at.tree) at.fits)
      (edits.summed summed) (subst (λ l. length l < 2 ^ 64) (sym edits.pairs) few) sums

  -- the two siblings, in a parent with an entry between them
  module _ (slot : ℕ) (left right : InnerNodeId) (bare : Inner K A) (given : NodeId) (s : K) (old_r : A) (entry' : HasEntry step.node bare slot s given old_r) (beside : (i ≡ slot) ⊎ (i ≡ suc slot))
      (read_left : slice_get step.node.children slot ≡ Some (kind.Inner left)) (read_right : slice_get step.node.children (slot + 1) ≡ Some (kind.Inner right)) where
    below : slot < length bare.children
    below = omega (arith, entry'.index.within, entry'.index.children)

    pub given_is : given ≡ kind.Inner right
    given_is =
        inserted_is bare.children (slot + 1) given (kind.Inner right) (omega (arith, below)) (ap (λ (n : Inner K A). slice_get n.children (slot + 1)) (sym entry'.is) ∙ read_right)

    entry : HasEntry step.node bare slot s (kind.Inner right) old_r
    entry = subst (λ x. HasEntry step.node bare slot s x old_r) given_is entry'

    left_is : get_or bare.children slot c.climb.id ≡ kind.Inner left
    left_is =
        get_or_from_slice_get bare.children slot (kind.Inner left) c.climb.id
        (sym (read_before bare.children slot (kind.Inner right) below) ∙ (rw add-one at (ap (λ (n : Inner K A). slice_get n.children slot) (sym entry.is)) ∙ read_left))

    own_at : (x : ℕ) → cond (eqb number.0 x) 1 0 + (inner_count now c.climb.height (kind.Inner left) x + inner_count now c.climb.height (kind.Inner right) x) ≤ stored (now.inner x)
    own_at x =
        subst (λ l. cond (eqb number.0 x) 1 0 + (inner_count now c.climb.height l x + inner_count now c.climb.height (kind.Inner right) x) ≤ stored (now.inner x)) left_is
        (pair.pair_own total is_summary c.climb.edit c.climb.kept c.climb.old now after c.climb.height number c.climb.k step.node i c.climb.id c.climb.leaf c.climb.turn c.climb.local at step.is step.leads step.read short c.climb.edits bare slot s (kind.Inner right) old_r entry beside x)

    pub own_high : (x : ℕ) → cond (eqb number.0 x) 1 0 + (inner_count now (suc high.0) (kind.Inner left) x + inner_count now (suc high.0) (kind.Inner right) x) ≤ stored (now.inner x)
    own_high x = subst (λ n. cond (eqb number.0 x) 1 0 + (inner_count now n (kind.Inner left) x + inner_count now n (kind.Inner right) x) ≤ stored (now.inner x)) high.1 (own_at x)

    reported_high : (x : InnerNodeId) (lo hi : Option K) (b : A) → IsTree cmp after 16 c.climb.height (kind.Inner x) lo hi → IsSummed after is_summary c.climb.height (kind.Inner x) → length (pairs_at after c.climb.height (kind.Inner x)) < 2 ^ 64 → SumsUpAt cmp is_summary (after.inner x.0) b
        → is_summary b (keys_of (pairs_at after c.climb.height (kind.Inner x)))
    reported_high x lo hi b tree ready short' sums =
        subst (λ n. is_summary b (keys_of (pairs_at after n (kind.Inner x)))) (sym high.1)
        (reported_up total is_summary after 16 high.0 x lo hi b (subst (λ n. IsTree cmp after 16 n (kind.Inner x) lo hi) high.1 tree) (subst (λ n. IsSummed after is_summary n (kind.Inner x)) high.1 ready) (subst (λ n. length (pairs_at after n (kind.Inner x)) < 2 ^ 64) high.1 short') sums)

    -- the leaves keep their order and their links
    order_so : (cs : List NodeId) → flat (leaves_at after c.climb.height) cs ≡ flat (leaves_at now c.climb.height) step.node.children → Extends (flat (leaves_at c.climb.old c.climb.height) step.node.children) c.climb.leaf c.climb.turn (flat (leaves_at after c.climb.height) cs)
    order_so cs same =
        subst (Extends (flat (leaves_at c.climb.old c.climb.height) step.node.children) c.climb.leaf c.climb.turn) (sym same)
        (pair.order_now total is_summary c.climb.edit c.climb.kept c.climb.old now after c.climb.height number c.climb.k step.node i c.climb.id c.climb.leaf c.climb.turn c.climb.local at step.is step.leads step.read short c.climb.edits bare slot s (kind.Inner right) old_r entry beside)

    module _ (leaf : after.leaf ≡ now.leaf) where
      leaf_at : (x : ℕ) → after.leaf x ≡ now.leaf x
      leaf_at x = ap (λ (f : ℕ → Slot (Leaf K V)). f x) leaf

      -- the new summaries of the two are those of their keys
      pub reported_merged : (both : A) → RebalancesPair cmp is_summary now after c.climb.height number.0 (kind.Inner left) s (kind.Inner right) Done → SumsUpAt cmp is_summary (after.inner left.0) both → is_summary both (keys_of (pairs_at after c.climb.height (kind.Inner left)))
      reported_merged both rebalances sums =
          let m : RebalancesPair cmp is_summary now after c.climb.height number.0 (get_or bare.children slot c.climb.id) s (kind.Inner right) Done = subst (λ l. RebalancesPair cmp is_summary now after c.climb.height number.0 l s (kind.Inner right) Done) (sym left_is) rebalances in
          let t = pair.pair_tree total is_summary c.climb.edit c.climb.kept c.climb.old now after c.climb.height number c.climb.k step.node i c.climb.id c.climb.leaf c.climb.turn c.climb.local at step.is step.leads step.read short c.climb.edits bare slot s (kind.Inner right) old_r entry beside Done m in
          let z = pair.pair_summed total is_summary c.climb.edit c.climb.kept c.climb.old now after c.climb.height number c.climb.k step.node i c.climb.id c.climb.leaf c.climb.turn c.climb.local at step.is step.leads step.read short c.climb.edits bare slot s (kind.Inner right) old_r entry beside Done m summed in
          let f = pair.pair_few total is_summary c.climb.edit c.climb.kept c.climb.old now after c.climb.height number c.climb.k step.node i c.climb.id c.climb.leaf c.climb.turn c.climb.local at step.is step.leads step.read short c.climb.edits bare slot s (kind.Inner right) old_r entry beside Done m in
          let tree : IsTree cmp after 16 c.climb.height (kind.Inner left) t.0 t.1 = subst (λ l. IsTree cmp after 16 c.climb.height l t.0 t.1) left_is t.2 in
          let ready : IsSummed after is_summary c.climb.height (kind.Inner left) = subst (λ l. IsSummed after is_summary c.climb.height l) left_is z in
          let short' : length (pairs_at after c.climb.height (kind.Inner left)) < 2 ^ 64 = omega (arith, few, f, ap (λ l. length (pairs_at after c.climb.height l)) left_is) in
          reported_high left t.0 t.1 both tree ready short' sums

      pub reported_rotated : (l r : A) (up : K) → RebalancesPair cmp is_summary now after c.climb.height number.0 (kind.Inner left) s (kind.Inner right) (Split up (kind.Inner right)) → SumsUpAt cmp is_summary (after.inner left.0) l → SumsUpAt cmp is_summary (after.inner right.0) r
          → is_summary l (keys_of (pairs_at after c.climb.height (kind.Inner left))) × is_summary r (keys_of (pairs_at after c.climb.height (kind.Inner right)))
      reported_rotated l r up rebalances left_sums right_sums =
          let m : RebalancesPair cmp is_summary now after c.climb.height number.0 (get_or bare.children slot c.climb.id) s (kind.Inner right) (Split up (kind.Inner right)) = subst (λ l. RebalancesPair cmp is_summary now after c.climb.height number.0 l s (kind.Inner right) (Split up (kind.Inner right))) (sym left_is) rebalances in
          let t = pair.pair_tree total is_summary c.climb.edit c.climb.kept c.climb.old now after c.climb.height number c.climb.k step.node i c.climb.id c.climb.leaf c.climb.turn c.climb.local at step.is step.leads step.read short c.climb.edits bare slot s (kind.Inner right) old_r entry beside (Split up (kind.Inner right)) m in
          let z = pair.pair_summed total is_summary c.climb.edit c.climb.kept c.climb.old now after c.climb.height number c.climb.k step.node i c.climb.id c.climb.leaf c.climb.turn c.climb.local at step.is step.leads step.read short c.climb.edits bare slot s (kind.Inner right) old_r entry beside (Split up (kind.Inner right)) m summed in
          let f = pair.pair_few total is_summary c.climb.edit c.climb.kept c.climb.old now after c.climb.height number c.climb.k step.node i c.climb.id c.climb.leaf c.climb.turn c.climb.local at step.is step.leads step.read short c.climb.edits bare slot s (kind.Inner right) old_r entry beside (Split up (kind.Inner right)) m in
          let tree : IsTree cmp after 16 c.climb.height (kind.Inner left) t.0 (Some up) = subst (λ x. IsTree cmp after 16 c.climb.height x t.0 (Some up)) left_is t.2.0 in
          let ready : IsSummed after is_summary c.climb.height (kind.Inner left) = subst (λ x. IsSummed after is_summary c.climb.height x) left_is z.0 in
          let both' = length-append (pairs_at after c.climb.height (get_or bare.children slot c.climb.id)) (pairs_at after c.climb.height (kind.Inner right)) in
          let same' = ap (λ x. length (pairs_at after c.climb.height x)) left_is in (
            reported_high left t.0 (Some up) l tree ready (omega (arith, few, f, both', same')) left_sums,
            reported_high right (Some up) t.1 r t.2.2 z.1 (omega (arith, few, f, both')) right_sums,
          )

      -- the two merged
      module _ (both : A) (rebalances : RebalancesPair cmp is_summary now after c.climb.height number.0 (kind.Inner left) s (kind.Inner right) Done) (order : leaves_at after c.climb.height (kind.Inner left) ≡ leaves_at now c.climb.height (kind.Inner left) ++ leaves_at now c.climb.height (kind.Inner right))
          (here : after.inner number.0 ≡ Present (with_summary bare slot both)) (reported : is_summary both (keys_of (pairs_at after c.climb.height (kind.Inner left)))) where
        rebalances_there : RebalancesPair cmp is_summary now after c.climb.height number.0 (get_or bare.children slot c.climb.id) s (kind.Inner right) Done
        rebalances_there = subst (λ l. RebalancesPair cmp is_summary now after c.climb.height number.0 l s (kind.Inner right) Done) (sym left_is) rebalances

        same_order : flat (leaves_at after c.climb.height) bare.children ≡ flat (leaves_at now c.climb.height) step.node.children
        same_order =
            pair.order_after total is_summary c.climb.edit c.climb.kept c.climb.old now after c.climb.height number c.climb.k step.node i c.climb.id c.climb.leaf c.climb.turn c.climb.local at step.is step.leads step.read short c.climb.edits bare slot s (kind.Inner right) old_r entry beside Done rebalances_there
            ∙ (ap (λ l. flat (leaves_at c.climb.old c.climb.height) (take slot bare.children) ++ (l ++ flat (leaves_at c.climb.old c.climb.height) (drop (suc slot) bare.children))) (subst (λ l. leaves_at after c.climb.height l ≡ leaves_at now c.climb.height l ++ leaves_at now c.climb.height (kind.Inner right)) (sym left_is) order)
            ∙ sym (pair.order_unmerged total is_summary c.climb.edit c.climb.kept c.climb.old now after c.climb.height number c.climb.k step.node i c.climb.id c.climb.leaf c.climb.turn c.climb.local at step.is step.leads step.read short c.climb.edits bare slot s (kind.Inner right) old_r entry beside))

        pub edits_merged : Edits cmp is_summary c.climb.edit (length bare.keys) c.climb.old after (suc c.climb.height) (kind.Inner number) c.climb.k c.climb.leaf c.climb.turn Done
        edits_merged =
            pair.node_merged total is_summary c.climb.edit c.climb.kept c.climb.old now after c.climb.height number c.climb.k step.node i c.climb.id c.climb.leaf c.climb.turn c.climb.local at step.is step.leads step.read short c.climb.edits bare slot s (kind.Inner right) old_r entry beside both rebalances_there here
            (subst (λ l. is_summary both (keys_of (pairs_at after c.climb.height l))) (sym left_is) reported) (length bare.keys) (omega arith) c.climb.leaf c.climb.turn
            (record {
              order = order_so bare.children same_order;
              links = links_moved c.climb.old now after c.climb.leaf c.climb.turn leaf_at c.climb.edits.links;
              untouched = λ x other spares some. rw (leaf_at x.0) (c.climb.edits.untouched x other spares some);
            })

        module _ (held_after : HeldAre (λ n. cond (eqb right.0 n) true (c.climb.held_inner n)) c.climb.held_leaf after) where
          abbrev pub climb_merged : Climb cmp is_summary after rest Done
          climb_merged = climb_on c.climb (suc c.climb.height) (kind.Inner number) (length bare.keys) step.way edits_merged held_after

          pub long : length step.node.keys ≡ length bare.keys + 1
          long = ap (λ (n : Inner K A). length n.keys) entry.is ∙ length-insert bare.keys slot s entry.index.within

          abbrev pub climbs_merged : (above : A) → SumsUpAt cmp is_summary (after.inner number.0) above → UnderflowBelow cmp is_summary after rest number above
          climbs_merged above sums = record {
            climb = climb_merged;
            here = refl;
            enough = omega (arith, seat_size cmp c.climb.old c.climb.k (least_at c.climb.top rest) c.climb.height number step.node step.is seat, long);
            reported = reported_above (length bare.keys) edits_merged above sums;
          }

      -- one of the two rotated a child to the other
      module _ (l r : A) (up : K) (rebalances : RebalancesPair cmp is_summary now after c.climb.height number.0 (kind.Inner left) s (kind.Inner right) (Split up (kind.Inner right)))
          (order : leaves_at after c.climb.height (kind.Inner left) ++ leaves_at after c.climb.height (kind.Inner right) ≡ leaves_at now c.climb.height (kind.Inner left) ++ leaves_at now c.climb.height (kind.Inner right))
          (here : after.inner number.0 ≡ Present (with_split bare slot l up (kind.Inner right) r)) (left_told : is_summary l (keys_of (pairs_at after c.climb.height (kind.Inner left)))) (right_told : is_summary r (keys_of (pairs_at after c.climb.height (kind.Inner right))))
          (held_after : HeldAre c.climb.held_inner c.climb.held_leaf after) where
        rotated_there : RebalancesPair cmp is_summary now after c.climb.height number.0 (get_or bare.children slot c.climb.id) s (kind.Inner right) (Split up (kind.Inner right))
        rotated_there = subst (λ x. RebalancesPair cmp is_summary now after c.climb.height number.0 x s (kind.Inner right) (Split up (kind.Inner right))) (sym left_is) rebalances

        rotated_order : flat (leaves_at after c.climb.height) (insert bare.children (suc slot) (kind.Inner right)) ≡ flat (leaves_at now c.climb.height) step.node.children
        rotated_order =
            pair.order_after_two total is_summary c.climb.edit c.climb.kept c.climb.old now after c.climb.height number c.climb.k step.node i c.climb.id c.climb.leaf c.climb.turn c.climb.local at step.is step.leads step.read short c.climb.edits bare slot s (kind.Inner right) old_r entry beside (Split up (kind.Inner right)) rotated_there
            ∙ (ap (λ x. flat (leaves_at c.climb.old c.climb.height) (take slot bare.children) ++ (x ++ flat (leaves_at c.climb.old c.climb.height) (drop (suc slot) bare.children)))
            (subst (λ x. leaves_at after c.climb.height x ++ leaves_at after c.climb.height (kind.Inner right) ≡ leaves_at now c.climb.height x ++ leaves_at now c.climb.height (kind.Inner right)) (sym left_is) order)
            ∙ sym (pair.order_unmerged total is_summary c.climb.edit c.climb.kept c.climb.old now after c.climb.height number c.climb.k step.node i c.climb.id c.climb.leaf c.climb.turn c.climb.local at step.is step.leads step.read short c.climb.edits bare slot s (kind.Inner right) old_r entry beside))

        pub edits_rotated : Edits cmp is_summary c.climb.edit 16 c.climb.old after (suc c.climb.height) (kind.Inner number) c.climb.k c.climb.leaf c.climb.turn Done
        edits_rotated =
            pair.node_rotated total is_summary c.climb.edit c.climb.kept c.climb.old now after c.climb.height number c.climb.k step.node i c.climb.id c.climb.leaf c.climb.turn c.climb.local at step.is step.leads step.read short c.climb.edits bare slot s (kind.Inner right) old_r entry beside l r up rotated_there here
            (subst (λ x. is_summary l (keys_of (pairs_at after c.climb.height x))) (sym left_is) left_told) right_told 16 c.climb.leaf c.climb.turn
            (record {
              order = order_so (insert bare.children (suc slot) (kind.Inner right)) rotated_order;
              links = links_moved c.climb.old now after c.climb.leaf c.climb.turn leaf_at c.climb.edits.links;
              untouched = λ x other spares some. rw (leaf_at x.0) (c.climb.edits.untouched x other spares some);
            })

        abbrev pub climb_rotated : Climb cmp is_summary after rest Done
        climb_rotated = climb_on c.climb (suc c.climb.height) (kind.Inner number) 16 step.way edits_rotated held_after

        abbrev pub climbs_rotated : (above : A) → SumsUpAt cmp is_summary (after.inner number.0) above → EditBelow cmp is_summary after rest above
        climbs_rotated above sums = record {
          climb = climb_rotated;
          enough = least_most c.climb.top rest;
          reported = reported_above 16 edits_rotated above sums;
        }
