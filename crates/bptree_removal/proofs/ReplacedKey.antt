-- The key at a position at the end of a path is replaced by one that equals it.
use Rattle.std.proofs.Common.{◌≡◌, ℕ, ◌<◌, ◌≤◌, inl, inr, List, length, refl, sym, ap, subst, ◌∙◌, arith, None, Some, ◌+◌, slice_get}
use Rattle.std.specs.declared.cmp.Ordering.{Ordering}
use Rattle.std.specs.declared.cmp.Ordering.TheVariants.{Equal}
use Rattle.std.specs.Cmp.{IsTotalOrder}
use Rattle.std.specs.List.{AllByRecursion}
use Rattle.std.specs.Map.{keys_of}
use Rattle.std.proofs.lemmas.Bool.{cases_eq}
use Rattle.bptree_keys.specs.Contents.{IsAscending}
use Rattle.bptree_keys.specs.declared.node_id.InnerNodeId.{InnerNodeId}
use Rattle.bptree_keys.specs.declared.node_id.NodeId.{NodeId}
use Rattle.bptree_keys.specs.declared.node_id.NodeId.TheVariants as kind
use Rattle.bptree_keys.specs.declared.node_id.Position.{Position}
use Rattle.bptree_nodes.specs.Inner.{Inner}
use Rattle.bptree_nodes.specs.Leaf.{Leaf}
use Rattle.bptree_nodes.specs.LeafResults.{HasEqualAt}
use Rattle.bptree_nodes.specs.Slot.{Slot, Slots, Present, IsPresent, UpdatesLeaf}
use Rattle.bptree_invariant.specs.Edit.{Stays, Edits}
use Rattle.bptree_invariant.specs.Leaves.{pairs_of}
use Rattle.bptree_invariant.specs.Order.{Within}
use Rattle.bptree_invariant.specs.Outcome.{Done}
use Rattle.bptree_invariant.specs.Shape.{leaf_pairs, pairs_at, root_least}
use Rattle.bptree_invariant.proofs.ListReads.{read_some}
use Rattle.bptree_invariant.proofs.Walk.{tree_ascends}
use Rattle.bptree_propagation.specs.Climb.{Climb, EditBelow, Propagated, StaysFew}
use Rattle.bptree_propagation.specs.LeafChange.{SumsUpLeaf}
use Rattle.bptree_propagation.proofs.Climbing.{least_most, none_are_held}
use Rattle.bptree_propagation.proofs.LeafClimb.{none_held, leaf_ascends, leaf_fits, climb_from}
use Rattle.bptree_propagation.proofs.LeafEdit.{leaf_changed}
use Rattle.bptree_propagation.proofs.Rooted.{whole_done}
use Rattle.bptree_propagation.proofs.SlotFacts.{node_of}
use Rattle.bptree_search.proofs.Selected.{index_read}
use Rattle.bptree_rebalancing.proofs.Triples.{slots_same}
use Rattle.bptree_removal.specs.Removal.{IsThere, IsEntryAt}
use Rattle.bptree_removal.specs.Replacement.{rekeyed, set_key_at, HasKeyAt, IsRekeyed, RekeysPairs, SetsKey}
use Rattle.bptree_removal.proofs.Rekeyed.{all_hold, ascends, is_put, pair_of_key, rekeyed_is_local, rekeyed_long, set_back, set_is, set_long, set_reads}
use Rattle.bptree_removal.proofs.Taken.{leaf_there}
use Rattle.bptree_removal.proofs.TakenOut.{slot_found}

module _ {K V A : Type 0} (old mid : Slots (Inner K A) (Leaf K V)) (at : Position) (key : K) (sets : SetsKey old mid at key) (present : IsPresent (old.leaf at.leaf.0)) where
  node : (node : Leaf K V) × (old.leaf at.leaf.0 ≡ Present node)
  node = node_of (old.leaf at.leaf.0) present

  here : UpdatesLeaf old mid at.leaf.0 (Present (record node.0 { pairs = set_key_at node.0.pairs at.slot key }))
  here = sets node.0 node.1

  pub still_present : IsPresent (mid.leaf at.leaf.0)
  still_present = rw here.leaf.changed tt

  pub still_within : at.slot < length (leaf_pairs (old.leaf at.leaf.0)) → at.slot < length (leaf_pairs (mid.leaf at.leaf.0))
  still_within within =
      let was : at.slot < length node.0.pairs = subst (λ (s : Slot (Leaf K V)). at.slot < length (leaf_pairs s)) node.1 within in
      rw here.leaf.changed (omega (arith, was, set_long node.0.pairs at.slot key))

  -- the key at the position is the new one
  pub returned : at.slot < length (leaf_pairs (old.leaf at.leaf.0)) → (back : K) → HasKeyAt mid at back → back ≡ key
  returned within back read =
      let was : at.slot < length node.0.pairs = subst (λ (s : Slot (Leaf K V)). at.slot < length (leaf_pairs s)) node.1 within in
      let there : Some back ≡ Some key = sym (rw here.leaf.changed at read) ∙ set_reads node.0.pairs at.slot key was in
      cc

  -- with the old key again, the leaf is as before
  pub set_again : (new : Slots (Inner K A) (Leaf K V)) (gone : K) → HasKeyAt old at gone → SetsKey mid new at gone → new ≡ old
  set_again new gone was back =
      let put = back (record node.0 { pairs = set_key_at node.0.pairs at.slot key }) here.leaf.changed in
      let read : slice_get (keys_of node.0.pairs) at.slot ≡ Some gone = subst (λ (s : Slot (Leaf K V)). slice_get (keys_of (leaf_pairs s)) at.slot ≡ Some gone) node.1 was in
      slots_same new old
      (λ n. ap (λ (f : ℕ → Slot (Inner K A)). f n) (put.inner ∙ here.inner))
      (λ n. elim (cases_eq n at.leaf.0) [
        | inl e ↦ (rw e (put.leaf.changed ∙ (ap (λ (l : List (K × V)). Present (record node.0 { pairs = l })) (set_back node.0.pairs at.slot key gone read) ∙ sym node.1)))
        | inr far ↦ put.leaf.others n far ∙ here.leaf.others n far
      ])

module _ {K V A : Type 0} {cmp : K → K → Ordering} (total : IsTotalOrder cmp) (is_summary : A → List K → Type 0) (old : Slots (Inner K A) (Leaf K V)) (path : List (InnerNodeId × ℕ × NodeId)) (at : Position) (key : K)
    (there : IsThere cmp is_summary old path at.leaf at.slot key) where
  pub present : IsPresent (old.leaf at.leaf.0)
  present = leaf_there total is_summary old path at.leaf at.slot key there

  pub within : at.slot < length (leaf_pairs (old.leaf at.leaf.0))
  within = slot_found cmp (leaf_pairs (old.leaf at.leaf.0)) key at.slot there.found

  pub leaf : (node : Leaf K V) × (old.leaf at.leaf.0 ≡ Present node)
  leaf = node_of (old.leaf at.leaf.0) present

  found : HasEqualAt cmp leaf.0.pairs key at.slot
  found = subst (λ (s : Slot (Leaf K V)). HasEqualAt cmp (leaf_pairs s) key at.slot) leaf.1 there.found

  pair : (pair : K × V) × (slice_get leaf.0.pairs at.slot ≡ Some pair)
  pair = read_some leaf.0.pairs at.slot (slot_found cmp leaf.0.pairs key at.slot found)

  sorted : IsAscending cmp leaf.0.pairs
  sorted = leaf_ascends is_summary old path at.leaf key there.top there.root there.shape there.way leaf.0 leaf.1

  short : length leaf.0.pairs ≤ 64
  short = leaf_fits is_summary old path at.leaf key there.top there.root there.shape there.way leaf.0 leaf.1

  pub few : StaysFew {V = V} cmp (rekeyed cmp key) (length (pairs_at old there.top there.root))
  few l ascending fits = omega (arith, rekeyed_long cmp key l, fits, there.few)

  module _ (mid : Slots (Inner K A) (Leaf K V)) (sets : SetsKey old mid at key) where
    pub updates : UpdatesLeaf old mid at.leaf.0 (Present (record leaf.0 { pairs = rekeyed cmp key leaf.0.pairs }))
    updates =
        subst (λ (l : List (K × V)). UpdatesLeaf old mid at.leaf.0 (Present (record leaf.0 { pairs = l }))) (set_is total leaf.0.pairs sorted key at.slot pair.0 pair.1 found) (sets leaf.0 leaf.1)

    pub edits : Edits cmp is_summary (rekeyed cmp key) 16 old mid 0 (kind.Leaf at.leaf) key at.leaf Stays Done
    edits =
        leaf_changed cmp is_summary (rekeyed cmp key) 16 old mid at.leaf key leaf.0 leaf.1 updates (λ least lo hi low tree fits. (
          all_hold total leaf.0.pairs sorted key at.slot pair.0 pair.1 found (Within cmp lo hi) fits (subst (λ (x : Slot (Leaf K V)). AllByRecursion (λ p. Within cmp lo hi p.0) (leaf_pairs x)) leaf.1 tree.1),
          ascends total leaf.0.pairs sorted key at.slot pair.0 pair.1 found,
          (let long : least ≤ length leaf.0.pairs = subst (λ (x : Slot (Leaf K V)). least ≤ length (leaf_pairs x)) leaf.1 tree.3 in omega (arith, long, rekeyed_long cmp key leaf.0.pairs)),
          omega (arith, short, rekeyed_long cmp key leaf.0.pairs),
        ))

    abbrev pub climb : Climb cmp is_summary mid path Done
    climb = climb_from is_summary old path at.leaf key there.top there.root there.shape there.way (rekeyed cmp key) 16 few (rekeyed_is_local cmp key) edits updates.inner (none_held old mid at.leaf.0 _ updates there.shape.no_leaf_held)

    pub reported : (a : A) → SumsUpLeaf cmp is_summary (leaf_pairs (mid.leaf at.leaf.0)) a → is_summary a (keys_of (leaf_pairs (mid.leaf at.leaf.0)))
    reported a sums =
        sums (rw updates.leaf.changed (omega (arith, rekeyed_long cmp key leaf.0.pairs, slot_found cmp leaf.0.pairs key at.slot found)))
        (rw updates.leaf.changed (ascends total leaf.0.pairs sorted key at.slot pair.0 pair.1 found))

    abbrev pub climbs : (a : A) → SumsUpLeaf cmp is_summary (leaf_pairs (mid.leaf at.leaf.0)) a → EditBelow cmp is_summary mid path a
    climbs a sums = record { climb = climb; enough = least_most there.top path; reported = reported a sums }

    pub is_rekeyed : (a : A) (sums : SumsUpLeaf cmp is_summary (leaf_pairs (mid.leaf at.leaf.0)) a) (gone : K) → HasKeyAt old at gone → (new : Slots (Inner K A) (Leaf K V)) (top : A) → Propagated (climbs a sums).climb new top
        → IsRekeyed cmp is_summary old new there.top there.root at key gone top
    is_rekeyed a sums gone was new top r = record {
      key_was = was;
      shape = whole_done cmp is_summary (rekeyed cmp key) old new there.top there.root key at.leaf there.shape (none_are_held r.free (λ n. (refl, refl))) r.edits;
      pairs = r.edits.pairs;
      reported = r.reported;
    }

-- the replacement of a key, as a change of the list of all pairs, and of the length that counts
-- them
module _ {K V A : Type 0} {cmp : K → K → Ordering} (total : IsTotalOrder cmp) (is_summary : A → List K → Type 0) (old new : Slots (Inner K A) (Leaf K V)) (h : ℕ) (root : NodeId) (path : List (InnerNodeId × ℕ × NodeId)) (at : Position) (key gone : K) (a : A)
    (there : IsEntryAt cmp is_summary old h root path at.leaf at.slot key) (done : IsRekeyed cmp is_summary old new h root at key gone a) where
  pub as_many : (len : ℕ) → len ≡ length (pairs_at old h root) → len ≡ length (pairs_at new h root)
  as_many len counted = counted ∙ sym (ap length done.pairs ∙ rekeyed_long cmp key (pairs_at old h root))

  pub replaces : RekeysPairs cmp key (pairs_at old h root) (pairs_at new h root) gone
  replaces =
      let value = pair_of_key (leaf_pairs (old.leaf at.leaf.0)) at.slot gone done.key_was in
      let index = length (pairs_of old there.1.stored.before) + at.slot in
      let read : slice_get (pairs_at old h root) index ≡ Some (gone, value.0) = index_read old h root at.leaf there.1.stored at.slot (gone, value.0) value.1 in
      let equal : cmp gone key ≡ Equal = rw value.1 at there.0.found in
      let sorted : IsAscending cmp (pairs_at old h root) = tree_ascends total old (root_least h) h root None None there.0.shape.tree in
      let found : HasEqualAt cmp (pairs_at old h root) key index = rw read equal in
      (index, value.0, read, equal, done.pairs ∙ is_put total (pairs_at old h root) sorted key index (gone, value.0) read found)
