-- What a query, or the rank of a key, determines at the top node of a tree of height h.
use Rattle.std.proofs.Common.{◌≡◌, ℕ, zero, suc, ◌+◌, ◌-◌, ◌<◌, List, [], length, take, refl, sym, ap, subst, ◌∙◌, arith, Option, Some, None, Result, IfOk, slice_get}
use Rattle.std.specs.declared.cmp.Ordering.{Ordering}
use Rattle.std.specs.Cmp.{IsTotalOrder}
use Rattle.std.specs.List.{AllZip}
use Rattle.std.specs.List.Sorted.{IsStrictlySortedBy}
use Rattle.std.specs.Map.{keys_of}
use Rattle.std.specs.Result.{is_ok}
use Rattle.std.proofs.lemmas.Map.Entries.{length-keys_of}
use Rattle.std.proofs.lemmas.Result.{IfOk-weaker}
use Rattle.bptree_arguments.specs.Ranks.{Carries, IsSlotIn, IsSlotOf, RanksAtSlot}
use Rattle.bptree_arguments.specs.Selection.{IsIndexBelow, LeadsOver}
use Rattle.bptree_arguments.proofs.RankLemmas.{IsSlotOf-in}
use Rattle.bptree_keys.specs.Contents.{has}
use Rattle.bptree_keys.specs.Locate.{locate}
use Rattle.bptree_keys.specs.declared.node_id.InnerNodeId.{InnerNodeId}
use Rattle.bptree_keys.specs.declared.node_id.LeafNodeId.{LeafNodeId}
use Rattle.bptree_keys.specs.declared.node_id.NodeId.{NodeId}
use Rattle.bptree_keys.specs.declared.node_id.Position.{Position}
use Rattle.bptree_keys.specs.declared.node_id.NodeId.TheVariants as kind
use Rattle.bptree_nodes.specs.Inner.{Inner, LeadsToChild}
use Rattle.bptree_nodes.specs.Leaf.{Leaf}
use Rattle.bptree_nodes.specs.LeafResults.{IsLocated}
use Rattle.bptree_nodes.specs.Slot.{Slot, Slots, Present}
use Rattle.bptree_invariant.specs.Shape.{leaf_pairs, pairs_at}
use Rattle.bptree_search.specs.ByArgument.{IsSubtree, IsSelectedAt, RanksAmong}
use Rattle.bptree_search.proofs.Child.{IsChildAt, node_at, leads}
use Rattle.bptree_search.proofs.Slots.{slot_of, ok_where_has}
use Rattle.bptree_search.proofs.Summed.{down, leaf_whole, leaf_sorted, led_nowhere, led_on, led_within, has_above, rank_above}

module _ {K V A : Type 0} {cmp : K → K → Ordering} (total : IsTotalOrder cmp) (is_summary : A → List K → Type 0) (slots : Slots (Inner K A) (Leaf K V)) where
  -- an inner node leads a query to a child, or to no child
  module _ {Q : Type 0} (selects : Q → List K → Option ℕ → Type 0) (query : Q) (top : NodeId) (id : InnerNodeId) (node : Inner K A) (arguments : List A) (outcome : Option (ℕ × Q)) where
    pub nowhere : (h : ℕ) → IsSubtree cmp is_summary slots h top → top ≡ kind.Inner id → slots.inner id.0 ≡ Present node → arguments ≡ node.arguments → LeadsOver is_summary cmp arguments selects query outcome → outcome ≡ None → IsSelectedAt selects query slots h top None
    nowhere h s is e are law none = rw is (at_height h (rw is at s))
      where
        at_height : (h : ℕ) → IsSubtree cmp is_summary slots h (kind.Inner id) → IsSelectedAt selects query slots h (kind.Inner id) None
        at_height zero s = absurd s.stored.tree
        at_height (suc h) s = led_nowhere total is_summary slots h id node s e selects query outcome arguments are law none

    module _ (i : ℕ) (next : Q) where
      pub query_within : (h : ℕ) → IsSubtree cmp is_summary slots h top → top ≡ kind.Inner id → slots.inner id.0 ≡ Present node → arguments ≡ node.arguments → LeadsOver is_summary cmp arguments selects query outcome → outcome ≡ Some (i, next) → i < length node.children
      query_within h s is e are law some = at_height h (rw is at s)
        where
          at_height : (h : ℕ) → IsSubtree cmp is_summary slots h (kind.Inner id) → i < length node.children
          at_height zero s = absurd s.stored.tree
          at_height (suc h) s = led_within total is_summary slots h id node s e selects query outcome arguments are law i next some

      pub query_child : (h : ℕ) → IsSubtree cmp is_summary slots h top → top ≡ kind.Inner id → slots.inner id.0 ≡ Present node → arguments ≡ node.arguments → LeadsOver is_summary cmp arguments selects query outcome → outcome ≡ Some (i, next) → (child : NodeId) → slice_get node.children i ≡ Some child → IsChildAt cmp is_summary slots h top id node i child
      query_child h s is e are law some child read = record { at = node_at total is_summary slots h top id node s is e; within = query_within h s is e are law some; child_is = read }

      pub found_below : {E : Type 0} (h : ℕ) → IsSubtree cmp is_summary slots h top → top ≡ kind.Inner id → slots.inner id.0 ≡ Present node → arguments ≡ node.arguments → LeadsOver is_summary cmp arguments selects query outcome → outcome ≡ Some (i, next) → (child : NodeId) → slice_get node.children i ≡ Some child
          → (found : Result (Option Position) E) → IfOk found (IsSelectedAt selects next slots (h - 1) child) → IfOk found (IsSelectedAt selects query slots h top)
      found_below h s is e are law some child read found selected = rw is (at_height h (rw is at s) selected)
        where
          at_height : (h : ℕ) → IsSubtree cmp is_summary slots h (kind.Inner id) → IfOk found (IsSelectedAt selects next slots (h - 1) child) → IfOk found (IsSelectedAt selects query slots h (kind.Inner id))
          at_height zero s selected = absurd s.stored.tree
          at_height (suc h) s selected =
              IfOk-weaker found (IsSelectedAt selects next slots h child) (IsSelectedAt selects query slots (suc h) (kind.Inner id))
              (λ index. led_on total is_summary slots h id node s e selects query outcome arguments are law i next some child read index) (rw (down total is_summary slots h) at selected)

  -- a query on the keys of a leaf determines the index
  module _ {Q : Type 0} (selects : Q → List K → Option ℕ → Type 0) (query : Q) (top : NodeId) (id : LeafNodeId) (node : Leaf K V) (keys : List K) (outcome : Option ℕ) where
    pub leaf_none : (h : ℕ) → IsSubtree cmp is_summary slots h top → top ≡ kind.Leaf id → slots.leaf id.0 ≡ Present node → keys ≡ keys_of node.pairs → (IsStrictlySortedBy cmp keys → selects query keys outcome) → outcome ≡ None → IsSelectedAt selects query slots h top None
    leaf_none h s is e are law none =
        let s' : IsSubtree cmp is_summary slots h (kind.Leaf id) = rw is at s in
        let found = rw none at (law (rw are (leaf_sorted total is_summary slots h id node s' e))) in
        rw (is, leaf_whole total is_summary slots h id node s' e) (rw are at found)

    pub leaf_some : (h : ℕ) → IsSubtree cmp is_summary slots h top → top ≡ kind.Leaf id → slots.leaf id.0 ≡ Present node → keys ≡ keys_of node.pairs → (IsStrictlySortedBy cmp keys → IsIndexBelow keys outcome) → (IsStrictlySortedBy cmp keys → selects query keys outcome) → (slot : ℕ) → outcome ≡ Some slot
        → IsSelectedAt selects query slots h top (Some (record { leaf = id; slot = slot }))
    leaf_some h s is e are short law slot some = rw is (at_height h (rw is at s))
      where
        at_height : (h : ℕ) → IsSubtree cmp is_summary slots h (kind.Leaf id) → IsSelectedAt selects query slots h (kind.Leaf id) (Some (record { leaf = id; slot = slot }))
        at_height (suc h) s = absurd s.stored.tree
        at_height zero s =
            let sorted : IsStrictlySortedBy cmp keys = rw are (leaf_sorted total is_summary slots zero id node s e) in
            let within : slot < length keys = rw some at (short sorted) in
            let selected : selects query keys (Some slot) = rw some at (law sorted) in
            let long = ap (λ (x : Slot (Leaf K V)). length (leaf_pairs x)) e in
            let start : slot ≡ 0 + slot = omega arith in (
              record { before = []; after = []; leaves = refl; present = s.stored.tree.0 },
              omega (arith, within, ap length are, length-keys_of node.pairs, long),
              rw e (subst (λ (n : ℕ). selects query (keys_of node.pairs) (Some n)) start (rw are at selected)),
            )

  -- a key is below the node if and only if it is below the child that the key leads to; the same
  -- holds of its rank
  module _ (k : K) (top : NodeId) (id : InnerNodeId) (node : Inner K A) (i : ℕ) (child : NodeId) where
    pub present_below : (h : ℕ) → IsChildAt cmp is_summary slots h top id node i child → LeadsToChild cmp k node.keys i → has cmp (pairs_at slots h top) k ≡ has cmp (pairs_at slots (h - 1) child) k
    present_below zero there found = absurd there.at.subtree.stored.tree
    present_below (suc h) there found =
        rw (there.at.is, down total is_summary slots h) (has_above total is_summary slots h id node there.at.subtree there.at.read i child there.within there.child_is k (leads total is_summary slots (suc h) top id node i child there k found))

    module _ {R E : Type 0} (represents : R → K → List K → Type 0) (ranks : K → List K → R → Type 0) (rank next : R) (arguments : List A) (outcome : Result (Result R R) E) where
      pub ranked_below : (h : ℕ) → IsChildAt cmp is_summary slots h top id node i child → LeadsToChild cmp k node.keys i → arguments ≡ node.arguments → Carries is_summary cmp (take i arguments) represents rank k next
          → IfOk outcome (RanksAmong cmp represents ranks k next (keys_of (pairs_at slots (h - 1) child))) → IfOk outcome (RanksAmong cmp represents ranks k rank (keys_of (pairs_at slots h top)))
      ranked_below zero there found are carries below = absurd there.at.subtree.stored.tree
      ranked_below (suc h) there found are carries below =
          let way = leads total is_summary slots (suc h) top id node i child there k found in
          rw there.at.is
          (IfOk-weaker outcome (RanksAmong cmp represents ranks k next (keys_of (pairs_at slots h child))) (RanksAmong cmp represents ranks k rank (keys_of (pairs_at slots (suc h) (kind.Inner id))))
          (λ reported. rank_above total is_summary slots h id node there.at.subtree there.at.read i child there.within there.child_is k way represents ranks rank next
          (λ before ps some zip. carries before ps some (subst (λ l. AllZip is_summary (take i l) ps) (sym are) zip)) reported) (rw (down total is_summary slots h) at below))

  -- the rank of a key is computed from its slot in the leaf
  module _ (k : K) (h : ℕ) (top : NodeId) (id : LeafNodeId) (node : Leaf K V) (s : IsSubtree cmp is_summary slots h top) (is : top ≡ kind.Leaf id) (e : slots.leaf id.0 ≡ Present node) (slot : Result ℕ ℕ) (found : IsLocated cmp node k slot) where
    s' : IsSubtree cmp is_summary slots h (kind.Leaf id)
    s' = rw is at s

    slot_is : slot ≡ locate cmp (keys_of node.pairs) k
    slot_is = found (leaf_sorted total is_summary slots h id node s' e)

    is_slot : IsSlotOf cmp k (keys_of node.pairs) slot
    is_slot = rw slot_is (slot_of total k (keys_of node.pairs) (leaf_sorted total is_summary slots h id node s' e))

    pub slot_within : (keys : List K) → keys ≡ keys_of node.pairs → IsSlotIn keys slot
    slot_within keys are = rw are (IsSlotOf-in cmp k (keys_of node.pairs) slot is_slot)

    pub present_here : {R E : Type 0} (outcome : Result (Result R R) E) → IfOk outcome (λ reported. is_ok reported ≡ is_ok slot) → IfOk outcome (λ reported. is_ok reported ≡ has cmp (pairs_at slots h top) k)
    present_here outcome variant =
        let there : is_ok slot ≡ has cmp node.pairs k = ap is_ok slot_is ∙ ok_where_has total k node.pairs (leaf_sorted total is_summary slots h id node s' e) in
        rw (is, leaf_whole total is_summary slots h id node s' e)
        (IfOk-weaker outcome (λ reported. is_ok reported ≡ is_ok slot) (λ reported. is_ok reported ≡ has cmp node.pairs k) (λ reported same. same ∙ there) variant)

    pub ranked_here : {R E : Type 0} (represents : R → K → List K → Type 0) (ranks : K → List K → R → Type 0) (rank : R) (keys : List K) → keys ≡ keys_of node.pairs → (outcome : Result (Result R R) E)
        → IfOk outcome (RanksAtSlot cmp represents ranks k rank keys slot) → IfOk outcome (RanksAmong cmp represents ranks k rank (keys_of (pairs_at slots h top)))
    ranked_here represents ranks rank keys are outcome law =
        rw (is, leaf_whole total is_summary slots h id node s' e)
        (IfOk-weaker outcome (RanksAtSlot cmp represents ranks k rank (keys_of node.pairs) slot) (RanksAmong cmp represents ranks k rank (keys_of node.pairs)) (λ reported there. there is_slot) (rw are at law))
