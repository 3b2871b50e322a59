-- A pair is put into the leaf at the end of a path, and into the whole tree.
use Rattle.std.proofs.Common.{◌≡◌, ℕ, ◌+◌, ◌<◌, ◌≤◌, ◌^◌, inl, inr, Bool, true, false, cond, List, [], ◌∷◌, ◌++◌, length, refl, sym, ap, subst, ◌∙◌, arith, Option, Some, None, eqb, IfSome, length-append}
use Rattle.std.specs.declared.cmp.Ordering.{Ordering}
use Rattle.std.specs.Cmp.{IsTotalOrder}
use Rattle.std.specs.List.{insert}
use Rattle.std.specs.Map.{keys_of}
use Rattle.std.proofs.lemmas.Bool.{cases_eq, eqb-true}
use Rattle.std.proofs.lemmas.List.Edits.{length-insert}
use Rattle.bptree_keys.specs.Contents.{IsAscending, below, has, put}
use Rattle.bptree_nodes.specs.Inner.{Inner}
use Rattle.bptree_nodes.specs.Leaf.{Leaf}
use Rattle.bptree_nodes.specs.Slot.{Slot, Slots, Free, Held, Present, IsPresent}
use Rattle.bptree_keys.specs.declared.node_id.InnerNodeId.{InnerNodeId}
use Rattle.bptree_keys.specs.declared.node_id.LeafNodeId.{LeafNodeId}
use Rattle.bptree_keys.specs.declared.node_id.NodeId.{NodeId}
use Rattle.bptree_keys.specs.declared.node_id.NodeId.TheVariants as kind
use Rattle.bptree_keys.proofs.Found.{inserted}
use Rattle.bptree_keys.proofs.Updates.{length_put}
use Rattle.bptree_propagation.specs.Change.{SplitsLeaf, RelinksNext}
use Rattle.bptree_propagation.specs.Climb.{StaysFew, Climb, EditBelow, SplitBelow, Propagated, Reaches}
use Rattle.bptree_invariant.specs.Edit.{Turn, Stays, Gains, Edits}
use Rattle.bptree_propagation.specs.LeafChange.{HasSlotAt, SumsUpLeaf, Adds, AreHalves, DividesLeaf}
use Rattle.bptree_invariant.specs.Outcome.{Outcome, Done, Split}
use Rattle.bptree_insertion.specs.Puts.{BelongsAt, IsPlaced, IsPlacedUpTo}
use Rattle.bptree_invariant.specs.Shape.{leaf_pairs, leaf_next, pairs_at, leaves_at, root_least, AreLinked, IsWellShaped}
use Rattle.bptree_propagation.specs.declared.node_changes.NodeSplit.{NodeSplit}
use Rattle.bptree_propagation.proofs.Climbing.{least_most, none_are_held}
use Rattle.bptree_invariant.proofs.Hinted.{total-append, count_of, first_or, linked_next}
use Rattle.bptree_propagation.proofs.LeafClimb.{none_held, leaf_reached, leaf_stored, leaf_ascends, climb_from}
use Rattle.bptree_propagation.proofs.LeafEdit.{put_is_local, leaf_edited, leaf_split}
use Rattle.bptree_propagation.proofs.Relinked.{one_at}
use Rattle.bptree_propagation.proofs.SlotFacts.{node_of, next_seen}
use Rattle.bptree_invariant.proofs.Ordered.{ascending_after}
use Rattle.bptree_invariant.proofs.Spot.{ascending_before}
use Rattle.bptree_propagation.proofs.Rooted.{present_leaf, whole_done, split_unlinked_pairs, whole_grown, grown_pairs, whole_split, split_pairs}

slot_of : {K V : Type 0} (s : Slot (Leaf K V)) (slot : ℕ) → IsPresent s → slot ≤ length (leaf_pairs s) → HasSlotAt s slot
slot_of Free slot there within = absurd there
slot_of Held slot there within = absurd there
slot_of (Present leaf) slot there within = within

at_most_one : (there : Bool) (n : ℕ) → cond there n (n + 1) ≤ n + 1
at_most_one true n = omega arith
at_most_one false n = omega arith

pub put_few : {K V : Type 0} {cmp : K → K → Ordering} (total : IsTotalOrder cmp) (k : K) (v : V) (most : ℕ) → most + 1 < 2 ^ 64 → StaysFew cmp (λ l. put cmp l k v) most
put_few {cmp = cmp} total k v most few l sorted short = omega (arith, length_put cmp total l sorted k v, at_most_one (has cmp l k) (length l))

present_if_next : {K V : Type 0} (slot : Slot (Leaf K V)) (l : LeafNodeId) → leaf_next slot ≡ Some l → IsPresent slot
present_if_next Free l e = cc
present_if_next Held l e = cc
present_if_next (Present leaf) l e = tt

head_is : (after : List LeafNodeId) (next : LeafNodeId) → first_or None after ≡ Some next → 1 ≤ count_of after next.0
head_is [] next e = absurd (let z : None ≡ Some next = e in cc)
head_is (y ∷ ys) next e = let same : y ≡ next = cc in omega (arith, one_at y.0 next.0 (ap (λ (l : LeafNodeId). l.0) same))

-- the leaf behind one that was split is still present
module _ {K V A : Type 0} (cmp : K → K → Ordering) (is_summary : A → List K → Type 0) (edit : List (K × V) → List (K × V)) (old new at : Slots (Inner K A) (Leaf K V)) (h : ℕ) (root : NodeId) (k : K) (leaf fresh : LeafNodeId) (outcome : Outcome K)
    (shape : IsWellShaped cmp is_summary old h root) (edits : Edits cmp is_summary edit (root_least h) old new h root k leaf (Gains fresh) outcome) (leaves : at.leaf ≡ new.leaf) where
  split_stored : IsPresent (at.leaf leaf.0)
  split_stored = present_if_next (at.leaf leaf.0) fresh (rw leaves edits.links.1)

  next_counted : (next : LeafNodeId) → leaf_next (old.leaf leaf.0) ≡ Some next → 1 ≤ count_of (leaves_at old h root) next.0
  next_counted next e =
      let order = edits.order in
      let links = subst (λ ids. AreLinked old None ids None) order.was shape.linked in
      let first = sym (linked_next old None order.before leaf order.after None links) ∙ e in
      omega (arith, head_is order.after next first, ap (λ ids. count_of ids next.0) order.was, total-append (λ (l : LeafNodeId). cond (eqb l.0 next.0) 1 0) order.before (leaf ∷ order.after))

  next_stored : (next : LeafNodeId) → leaf_next (old.leaf leaf.0) ≡ Some next → IsPresent (at.leaf next.0)
  next_stored next e =
      elim (cases_eq next.0 leaf.0) [
        | inl same ↦ rw same split_stored
        | inr other ↦ (let here = present_leaf cmp is_summary old h root shape next.0 (next_counted next e) in rw leaves ((edits.untouched next other tt here).1))
      ]

  pub next_there : (next : Option LeafNodeId) → leaf_next (old.leaf leaf.0) ≡ next → IfSome next (λ l. IsPresent (at.leaf l.0))
  next_there None is = tt
  next_there (Some next) is = next_stored next is

-- a leaf that was seen to be full has 64 pairs
pub full_of : {K V : Type 0} (slot : Slot (Leaf K V)) (seen : Leaf K V) (is_full : Bool) → slot ≡ Present seen → is_full ≡ eqb (length seen.pairs) 64 → is_full ≡ true → length (leaf_pairs slot) ≡ 64
full_of slot seen is_full here reported full = rw here (eqb-true (length seen.pairs) 64 (sym reported ∙ full))

module _ {K V A : Type 0} {cmp : K → K → Ordering} (total : IsTotalOrder cmp) (is_summary : A → List K → Type 0) (old : Slots (Inner K A) (Leaf K V)) (path : List (InnerNodeId × ℕ × NodeId)) (leaf : LeafNodeId) (slot : ℕ) (k : K)
    (due : BelongsAt cmp is_summary old path leaf slot k) where
  pub leaf_there : IsPresent (old.leaf leaf.0)
  leaf_there = leaf_stored is_summary old path leaf k due.top due.root due.shape due.way

  sorted : IsAscending cmp (leaf_pairs (old.leaf leaf.0))
  sorted = (leaf_reached is_summary old path leaf k due.top due.root due.shape due.way).tree.2

  pub slot_within : (v : V) → slot ≤ length (leaf_pairs (old.leaf leaf.0))
  slot_within v = (inserted cmp total (leaf_pairs (old.leaf leaf.0)) sorted k slot v due.absent due.index).in_range

  pub slot_at : (v : V) → HasSlotAt (old.leaf leaf.0) slot
  slot_at v = slot_of (old.leaf leaf.0) slot leaf_there (slot_within v)

  pub at : (node : Leaf K V) × (old.leaf leaf.0 ≡ Present node)
  at = node_of (old.leaf leaf.0) leaf_there

  abbrev pub node : Leaf K V
  node = at.0

  pub here : old.leaf leaf.0 ≡ Present node
  here = at.1

  module _ (v : V) where
    sorted_here : IsAscending cmp node.pairs
    sorted_here = leaf_ascends is_summary old path leaf k due.top due.root due.shape due.way node here

    pub within_here : slot ≤ length node.pairs
    within_here = subst (λ (s : Slot (Leaf K V)). slot ≤ length (leaf_pairs s)) here (slot_within v)

    ascends : IsAscending cmp (insert node.pairs slot (k, v))
    ascends =
        (inserted cmp total node.pairs sorted_here k slot v (subst (λ (s : Slot (Leaf K V)). has cmp (leaf_pairs s) k ≡ false) here due.absent)
        (due.index ∙ ap (λ (s : Slot (Leaf K V)). length (below cmp (leaf_pairs s) k)) here)).ascending

    is_put : insert node.pairs slot (k, v) ≡ put cmp node.pairs k v
    is_put =
        (inserted cmp total node.pairs sorted_here k slot v (subst (λ (s : Slot (Leaf K V)). has cmp (leaf_pairs s) k ≡ false) here due.absent)
        (due.index ∙ ap (λ (s : Slot (Leaf K V)). length (below cmp (leaf_pairs s) k)) here)).new

    -- the edit of the leaf, from where it is propagated
    abbrev pub climb_put : {mid : Slots (Inner K A) (Leaf K V)} {turn : Turn} {outcome : Outcome K} → Edits cmp is_summary (λ l. put cmp l k v) 16 old mid 0 (kind.Leaf leaf) k leaf turn outcome → mid.inner ≡ old.inner → ((n : ℕ) → mid.leaf n ≡ Held → ⊥) → Climb cmp is_summary mid path outcome
    climb_put edits = climb_from is_summary old path leaf k due.top due.root due.shape due.way (λ l. put cmp l k v) 16 (put_few total k v (length (pairs_at old due.top due.root)) due.few) (put_is_local cmp k v) edits

    -- the leaf has room
    module _ (mid : Slots (Inner K A) (Leaf K V)) (add : (was : Leaf K V) → old.leaf leaf.0 ≡ Present was → Adds old mid leaf slot (k, v) was) (few : length (leaf_pairs (old.leaf leaf.0)) < 64) where
      pub adds : Adds old mid leaf slot (k, v) node
      adds = add node here

      room : length node.pairs < 64
      room = rw here at few

      -- what follows for each leaf that may have taken the pair follows
      pub when_added : {R : Type 0} → ((was : Leaf K V) → old.leaf leaf.0 ≡ Present was → slot ≤ length was.pairs → Adds old mid leaf slot (k, v) was → R) → R
      when_added f = f node here within_here adds

      pub edits_added : Edits cmp is_summary (λ l. put cmp l k v) 16 old mid 0 (kind.Leaf leaf) k leaf Stays Done
      edits_added =
          leaf_edited total is_summary old mid leaf k v node here (rw is_put at adds)
          (omega (arith, ap length is_put, length-insert node.pairs slot (k, v) within_here, room))

      pub none_added : (n : ℕ) → mid.leaf n ≡ Held → ⊥
      none_added = none_held old mid leaf.0 _ adds due.shape.no_leaf_held

      abbrev pub climb_added : Climb cmp is_summary mid path Done
      climb_added = climb_put edits_added adds.inner none_added

      pub reported_added : (a : A) → SumsUpLeaf cmp is_summary (leaf_pairs (mid.leaf leaf.0)) a → is_summary a (keys_of (leaf_pairs (mid.leaf leaf.0)))
      reported_added a sums =
          sums (rw adds.leaf.changed (omega (arith, length-insert node.pairs slot (k, v) within_here))) (rw adds.leaf.changed ascends)

      abbrev pub climbs_added : (a : A) → SumsUpLeaf cmp is_summary (leaf_pairs (mid.leaf leaf.0)) a → EditBelow cmp is_summary mid path a
      climbs_added a sums = record { climb = climb_added; enough = least_most due.top path; reported = reported_added a sums }

      pub placed_added : (new : Slots (Inner K A) (Leaf K V)) (top : A) → Propagated climb_added new top → IsPlaced cmp is_summary old new due.top due.root k v due.top due.root top
      placed_added new top r = record {
        shape = whole_done cmp is_summary (λ l. put cmp l k v) old new due.top due.root k leaf due.shape (none_are_held r.free (λ n. (refl, refl))) r.edits;
        pairs = r.edits.pairs;
        reported = r.reported;
      }

      pub present_added : IsPresent (mid.leaf leaf.0)
      present_added = rw adds.leaf.changed tt

      pub slot_added : slot < length (leaf_pairs (mid.leaf leaf.0))
      slot_added = rw adds.leaf.changed (omega (arith, length-insert node.pairs slot (k, v) within_here, within_here))

    -- the leaf is full, and is split
    module _ (mid : Slots (Inner K A) (Leaf K V)) (division : NodeSplit K A) (fresh : LeafNodeId) (divide : (was : Leaf K V) → old.leaf leaf.0 ≡ Present was → DividesLeaf cmp old mid leaf slot (k, v) was division fresh) where
      pub divides : DividesLeaf cmp old mid leaf slot (k, v) node division fresh
      divides = divide node here

      -- what follows for each leaf that may have been split follows
      pub when_divided : {R : Type 0} → ((was : Leaf K V) → old.leaf leaf.0 ≡ Present was → slot ≤ length was.pairs → DividesLeaf cmp old mid leaf slot (k, v) was division fresh → R) → R
      when_divided f = f node here within_here divides

      splits : SplitsLeaf old mid leaf fresh node (put cmp node.pairs k v) divides.left divides.right
      splits = record {
        absent = λ p. subst (λ (s : Slot (Leaf K V)). IsPresent s) divides.free p;
        at_left = divides.at_left;
        at_right = divides.at_right;
        others = divides.others;
        inner = divides.inner;
        parts = divides.parts ∙ is_put;
        left_least = omega (arith, divides.left_least);
        left_most = omega (arith, divides.left_most);
        right_least = omega (arith, divides.right_least);
        right_most = omega (arith, divides.right_most);
      }

      pub edits_divided : Edits cmp is_summary (λ l. put cmp l k v) 16 old mid 0 (kind.Leaf leaf) k leaf (Gains fresh) (Split division.separator division.node)
      edits_divided =
          subst (λ n. Edits cmp is_summary (λ l. put cmp l k v) 16 old mid 0 (kind.Leaf leaf) k leaf (Gains fresh) (Split division.separator n)) (sym divides.node)
          (leaf_split total is_summary old mid leaf k v node here fresh divides.left divides.right division.separator splits divides.starts)

      pub none_divided : (n : ℕ) → mid.leaf n ≡ Held → ⊥
      none_divided n h =
          elim (cases_eq n leaf.0) [
            | inl same ↦ (let z = sym divides.at_left ∙ (ap mid.leaf (sym same) ∙ h) in cc)
            | inr other ↦ elim (cases_eq n fresh.0) [ inl same ↦ (let z = sym divides.at_right ∙ (ap mid.leaf (sym same) ∙ h) in cc) | inr far ↦ due.shape.no_leaf_held n (sym (divides.others n other far) ∙ h) ]
          ]

      abbrev pub climb_divided : Climb cmp is_summary mid path (Split division.separator division.node)
      climb_divided = climb_put edits_divided divides.inner none_divided

      parts_ascend : IsAscending cmp (divides.left ++ divides.right)
      parts_ascend = rw divides.parts ascends

      pub reported_left : SumsUpLeaf cmp is_summary (leaf_pairs (mid.leaf leaf.0)) division.left → is_summary division.left (keys_of (leaf_pairs (mid.leaf leaf.0)))
      reported_left sums = sums (rw divides.at_left (omega (arith, divides.left_least))) (rw divides.at_left (ascending_before cmp divides.left divides.right parts_ascend))

      pub reported_right : SumsUpLeaf cmp is_summary (leaf_pairs (mid.leaf fresh.0)) division.right → is_summary division.right (keys_of (pairs_at mid 0 division.node))
      reported_right sums = rw divides.node (sums (rw divides.at_right (omega (arith, divides.right_least))) (rw divides.at_right (ascending_after total divides.left divides.right parts_ascend)))

      abbrev pub climbs_divided : SumsUpLeaf cmp is_summary (leaf_pairs (mid.leaf leaf.0)) division.left → SumsUpLeaf cmp is_summary (leaf_pairs (mid.leaf fresh.0)) division.right → SplitBelow cmp is_summary mid path division
      climbs_divided left right = record { climb = climb_divided; enough = least_most due.top path; none_held = λ n. (refl, refl); left = reported_left left; right = reported_right right }

      next_reached : (new : Slots (Inner K A) (Leaf K V)) (top : Option InnerNodeId) (a : A) → Reaches climb_divided new top a → (next : Option LeafNodeId) → leaf_next (old.leaf leaf.0) ≡ next → IfSome next (λ l. IsPresent (new.leaf l.0))
      next_reached new None a r next is = next_there cmp is_summary (λ l. put cmp l k v) old new new due.top due.root k leaf fresh Done due.shape r.edits refl next is
      next_reached new (Some id) a r next is = next_there cmp is_summary (λ l. put cmp l k v) old r.mid new due.top due.root k leaf fresh (Split r.division.separator r.division.node) due.shape r.edits r.roots.leaf next is

      placed_reached : (new final : Slots (Inner K A) (Leaf K V)) (top : Option InnerNodeId) (a : A) → Reaches climb_divided new top a → RelinksNext new final (leaf_next (old.leaf leaf.0)) fresh → IsPlacedUpTo cmp is_summary old final due.top due.root k v top a
      placed_reached new final None a r relinks =
          let pairs = grown_pairs cmp is_summary (λ l. put cmp l k v) old new due.top due.root k leaf fresh due.shape (none_are_held r.free (λ n. (refl, refl))) final r.edits relinks in
          record {
            shape = whole_grown cmp is_summary (λ l. put cmp l k v) old new due.top due.root k leaf fresh due.shape (none_are_held r.free (λ n. (refl, refl))) final r.edits relinks;
            pairs = pairs;
            reported = subst (λ l. is_summary a (keys_of l)) (r.edits.pairs ∙ sym pairs) r.reported;
          }
      placed_reached new final (Some id) a r relinks =
          let d = r.division in
          let pairs = split_pairs cmp is_summary (λ l. put cmp l k v) old r.mid due.top due.root k leaf fresh due.shape (none_are_held r.free (λ n. (refl, refl))) new final d.left d.separator d.node d.right id r.edits r.roots relinks in
          let same = split_unlinked_pairs cmp is_summary (λ l. put cmp l k v) old r.mid due.top due.root k leaf due.shape (none_are_held r.free (λ n. (refl, refl))) new (Gains fresh) d.left d.separator d.node d.right id r.edits r.roots in
          record {
            shape = whole_split cmp is_summary (λ l. put cmp l k v) old r.mid due.top due.root k leaf fresh due.shape (none_are_held r.free (λ n. (refl, refl))) new final d.left d.separator d.node d.right id r.edits r.roots relinks r.left r.right;
            pairs = pairs;
            reported = subst (λ l. is_summary a (keys_of l)) (same ∙ sym pairs) r.reported;
          }

      -- the split has been propagated to the root
      module _ (left : SumsUpLeaf cmp is_summary (leaf_pairs (mid.leaf leaf.0)) division.left) (right : SumsUpLeaf cmp is_summary (leaf_pairs (mid.leaf fresh.0)) division.right) (new : Slots (Inner K A) (Leaf K V)) (top : Option InnerNodeId) (a : A)
          (reached : Reaches (climbs_divided left right).climb new top a) (next : Option LeafNodeId) (seen : Leaf K V) (read : old.leaf leaf.0 ≡ Present seen) (is : next ≡ seen.next) where
        next_is : leaf_next (old.leaf leaf.0) ≡ next
        next_is = next_seen (old.leaf leaf.0) seen read ∙ sym is

        pub next_risen : IfSome next (λ l. IsPresent (new.leaf l.0))
        next_risen = next_reached new top a reached next next_is

        pub placed_divided : (final : Slots (Inner K A) (Leaf K V)) → RelinksNext new final next fresh → IsPlacedUpTo cmp is_summary old final due.top due.root k v top a
        placed_divided final relinks = placed_reached new final top a reached (rw next_is relinks)

      pub halves_divided : length (leaf_pairs (old.leaf leaf.0)) ≡ 64 → AreHalves (mid.leaf leaf.0) (mid.leaf fresh.0) × (leaf.0 ≡ fresh.0 → ⊥)
      halves_divided full = (
        let long : length node.pairs ≡ 64 = rw here at full in rw (divides.at_left, divides.at_right) (omega (arith, sym (length-append divides.left divides.right), ap length divides.parts, length-insert node.pairs slot (k, v) within_here, long)),
        λ same. let z : Present node ≡ Free = sym here ∙ (ap old.leaf same ∙ divides.free) in cc,
      )
