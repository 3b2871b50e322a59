-- The leaf at the end of a path after a pair was removed from it: it is still long enough, or
-- underflowed.
use Rattle.std.proofs.Common.{◌≡◌, ℕ, zero, suc, ◌+◌, ◌<◌, ◌≤◌, List, [], ◌∷◌, ◌++◌, length, false, true, refl, sym, subst, arith, Some, slice_get}
use mathlib.Core.Bool.{true≢false}
use Rattle.std.specs.declared.cmp.Ordering.{Ordering}
use Rattle.std.specs.Cmp.{IsTotalOrder}
use Rattle.std.specs.List.{remove}
use Rattle.std.specs.Map.{keys_of}
use Rattle.bptree_keys.specs.Contents.{IsAscending}
use Rattle.bptree_keys.proofs.Updates.{del_ascending}
use Rattle.bptree_nodes.specs.Inner.{Inner}
use Rattle.bptree_nodes.specs.Leaf.{Leaf}
use Rattle.bptree_nodes.specs.LeafResults.{HasEqualAt}
use Rattle.bptree_nodes.specs.Slot.{Slot, Slots, Present, IsPresent, UpdatesLeaf}
use Rattle.bptree_keys.specs.declared.node_id.InnerNodeId.{InnerNodeId}
use Rattle.bptree_keys.specs.declared.node_id.LeafNodeId.{LeafNodeId}
use Rattle.bptree_keys.specs.declared.node_id.NodeId.{NodeId}
use Rattle.bptree_keys.specs.declared.node_id.NodeId.TheVariants as kind
use Rattle.bptree_propagation.specs.Climb.{least_at, EditBelow, Propagated}
use Rattle.bptree_propagation.specs.LeafChange.{SumsUpLeaf}
use Rattle.bptree_invariant.specs.Path.{Way}
use Rattle.bptree_invariant.specs.Shape.{leaf_pairs}
use Rattle.bptree_rebalancing.specs.Trim.{LeafUnderflow, PropagatedToRoot}
use Rattle.bptree_removal.specs.Removal.{IsThere, LeavesTree}
use Rattle.bptree_propagation.proofs.Climbing.{least_some}
use Rattle.bptree_propagation.proofs.SlotFacts.{node_of}
use Rattle.bptree_rebalancing.proofs.Seated.{seat_of}
use Rattle.bptree_removal.proofs.Taken as taken
use Rattle.bptree_invariant.proofs.ListReads.{read_below}

pub reported_of : {K V A : Type 0} (cmp : K → K → Ordering) (is_summary : A → List K → Type 0) (pairs : List (K × V)) (a : A) → IsAscending cmp pairs → SumsUpLeaf cmp is_summary pairs a → (pairs ≡ [] → is_summary a []) → is_summary a (keys_of pairs)
reported_of cmp is_summary [] a sorted some none = none refl
reported_of cmp is_summary (p ∷ ps) a sorted some none = some (omega arith) sorted

least_spare : {K V A : Type 0} (cmp : K → K → Ordering) (slots : Slots (Inner K A) (Leaf K V)) (k : K) (path : List (InnerNodeId × ℕ × NodeId)) (top : ℕ) (root id : NodeId) (n : ℕ) → Way cmp slots k top root path 0 id → (0 < length path → 16 < n + 1) → least_at top path ≤ n
least_spare cmp slots k [] zero root id n way spare = omega arith
least_spare cmp slots k [] (suc top) root id n way spare = absurd (omega (arith, way.0))
least_spare cmp slots k (x ∷ path) top root id n way spare = omega (arith, spare (omega arith))

at_most : (n m : ℕ) → (m < n → ⊥) → n ≤ m
at_most n m none = omega (arith, none)

-- a leaf that can spare no pair has at most 16
few_of : {K V : Type 0} (index : Slot (Leaf K V)) (node : Leaf K V) → index ≡ Present node → (16 < length node.pairs → false ≡ true) → length (leaf_pairs index) ≤ 16
few_of index node is none = rw is (at_most (length node.pairs) 16 (λ some. true≢false (sym (none some))))

-- a slot at which a key was found has a pair
pub slot_found : {K V : Type 0} (cmp : K → K → Ordering) (pairs : List (K × V)) (k : K) (i : ℕ) → HasEqualAt cmp pairs k i → i < length pairs
slot_found cmp [] k i found = absurd found
slot_found cmp (p ∷ pairs) k zero found = omega arith
slot_found cmp (p ∷ pairs) k (suc i) found = omega (arith, slot_found cmp pairs k i found)

pub at_least : (n : ℕ) → n ≤ n
at_least n = omega arith

-- a key at the end of a path is at the end of an equal path
abbrev pub there_by : {K V A : Type 0} {cmp : K → K → Ordering} {is_summary : A → List K → Type 0} {old : Slots (Inner K A) (Leaf K V)} {path : List (InnerNodeId × ℕ × NodeId)} {leaf : LeafNodeId} {slot : ℕ} {k : K}
    (other : List (InnerNodeId × ℕ × NodeId)) → path ≡ other → IsThere cmp is_summary old path leaf slot k → IsThere cmp is_summary old other leaf slot k
there_by {cmp = cmp} {old = old} {leaf = leaf} {k = k} other e there = record {
  top = there.top;
  root = there.root;
  shape = there.shape;
  few = there.few;
  way = subst (λ p. Way cmp old k there.top there.root p 0 (kind.Leaf leaf)) e there.way;
  found = there.found;
}

module _ {K V A : Type 0} {cmp : K → K → Ordering} (total : IsTotalOrder cmp) (is_summary : A → List K → Type 0) (old : Slots (Inner K A) (Leaf K V)) (path : List (InnerNodeId × ℕ × NodeId)) (leaf : LeafNodeId) (slot : ℕ) (k : K)
    (there : IsThere cmp is_summary old path leaf slot k) where
  abbrev pub at : (node : Leaf K V) × (old.leaf leaf.0 ≡ Present node)
  at = node_of (old.leaf leaf.0) (taken.leaf_there total is_summary old path leaf slot k there)

  module _ (pair : K × V) (read : slice_get (leaf_pairs (old.leaf leaf.0)) slot ≡ Some pair) (mid : Slots (Inner K A) (Leaf K V)) (takes : (was : Leaf K V) → old.leaf leaf.0 ≡ Present was → UpdatesLeaf old mid leaf.0 (Present (record was { pairs = remove was.pairs slot }))) where
    abbrev pub node : Leaf K V
    node = at.0

    pub here : old.leaf leaf.0 ≡ Present node
    here = at.1

    pub read_here : slice_get node.pairs slot ≡ Some pair
    read_here = subst (λ (s : Slot (Leaf K V)). slice_get (leaf_pairs s) slot ≡ Some pair) here read

    pub takes_here : UpdatesLeaf old mid leaf.0 (Present (record node { pairs = remove node.pairs slot }))
    takes_here = takes node here

    one_less : length (remove node.pairs slot) + 1 ≡ length node.pairs
    one_less = taken.one_less total is_summary old path leaf slot k there node here pair read_here

    most : length node.pairs ≤ 64
    most = taken.most_here total is_summary old path leaf slot k there node here pair read_here

    -- the pair can be stored there again
    pub room_taken : IsPresent (mid.leaf leaf.0) × (slot ≤ length (leaf_pairs (mid.leaf leaf.0))) × (length (leaf_pairs (mid.leaf leaf.0)) < 64)
    room_taken = rw takes_here.leaf.changed (tt, omega (arith, one_less, read_below node.pairs slot pair read_here), omega (arith, one_less, most))

    pub sorted_taken : IsAscending cmp (leaf_pairs (mid.leaf leaf.0))
    sorted_taken =
        rw takes_here.leaf.changed (subst (IsAscending cmp) (sym (taken.is_del total is_summary old path leaf slot k there node here pair read_here)) (del_ascending cmp node.pairs k (taken.sorted_here total is_summary old path leaf slot k there node here pair read_here)))

    -- the leaf can spare a pair or is the root, and is not rebalanced
    module _ (spare : 0 < length path → 16 < length (leaf_pairs (old.leaf leaf.0))) where
      spare_here : 0 < length path → 16 < length node.pairs
      spare_here some = subst (λ (s : Slot (Leaf K V)). 16 < length (leaf_pairs s)) here (spare some)

      pub stays : least_at there.top path ≤ length (remove node.pairs slot)
      stays = least_spare cmp old k path there.top there.root (kind.Leaf leaf) (length (remove node.pairs slot)) there.way (λ some. omega (arith, spare_here some, one_less))

      abbrev pub propagates_in_place : (a : A) → SumsUpLeaf cmp is_summary (leaf_pairs (mid.leaf leaf.0)) a → (leaf_pairs (mid.leaf leaf.0) ≡ [] → is_summary a []) → EditBelow cmp is_summary mid path a
      propagates_in_place a some none = record {
        climb = taken.climb_taken total is_summary old path leaf slot k there node here pair read_here mid takes_here (least_at there.top path) stays;
        enough = at_least (least_at there.top path);
        reported = reported_of cmp is_summary (leaf_pairs (mid.leaf leaf.0)) a sorted_taken some none;
      }

      pub leaves_in_place : (a : A) (some : SumsUpLeaf cmp is_summary (leaf_pairs (mid.leaf leaf.0)) a) (none : leaf_pairs (mid.leaf leaf.0) ≡ [] → is_summary a []) (new : Slots (Inner K A) (Leaf K V)) (top : A)
          → Propagated (propagates_in_place a some none).climb new top → LeavesTree cmp is_summary old new there.top there.root leaf slot k pair top
      leaves_in_place a some none new top r = taken.leaves_taken total is_summary old path leaf slot k there node here pair read_here mid takes_here (least_at there.top path) stays new top r

-- the leaf underflows
module _ {K V A : Type 0} {cmp : K → K → Ordering} (total : IsTotalOrder cmp) (is_summary : A → List K → Type 0) (old : Slots (Inner K A) (Leaf K V)) (rest : List (InnerNodeId × ℕ × NodeId)) (id : InnerNodeId) (index : ℕ) (child : NodeId) (leaf : LeafNodeId) (slot : ℕ) (k : K)
    (whole : List (InnerNodeId × ℕ × NodeId)) (whole_is : whole ≡ rest ++ (id, index, child) ∷ []) (there_whole : IsThere cmp is_summary old whole leaf slot k) (pair : K × V) (read : slice_get (leaf_pairs (old.leaf leaf.0)) slot ≡ Some pair)
    (mid : Slots (Inner K A) (Leaf K V)) (takes : (was : Leaf K V) → old.leaf leaf.0 ≡ Present was → UpdatesLeaf old mid leaf.0 (Present (record was { pairs = remove was.pairs slot })))
    (seen : Leaf K V) (seen_is : old.leaf leaf.0 ≡ Present seen) (few : 16 < length seen.pairs → false ≡ true) where
  abbrev pub path : List (InnerNodeId × ℕ × NodeId)
  path = rest ++ (id, index, child) ∷ []

  abbrev pub there : IsThere cmp is_summary old path leaf slot k
  there = there_by path whole_is there_whole

  abbrev pub short_node : Leaf K V
  short_node = node total is_summary old path leaf slot k there pair read mid takes

  pub was_node : old.leaf leaf.0 ≡ Present short_node
  was_node = here total is_summary old path leaf slot k there pair read mid takes

  pub was_pair : slice_get short_node.pairs slot ≡ Some pair
  was_pair = read_here total is_summary old path leaf slot k there pair read mid takes

  pub took : UpdatesLeaf old mid leaf.0 (Present (record short_node { pairs = remove short_node.pairs slot }))
  took = takes_here total is_summary old path leaf slot k there pair read mid takes

  seated : 16 ≤ length (leaf_pairs (old.leaf leaf.0))
  seated =
      let seat = seat_of cmp old k {is_summary = is_summary} path there.top there.root 0 (kind.Leaf leaf) there.way there.shape in
      omega (arith, seat.tree.3, least_some there.top rest (id, index, child))

  low : length (leaf_pairs (old.leaf leaf.0)) ≤ 16
  low = few_of _ seen seen_is few

  pub fifteen : length (remove short_node.pairs slot) ≡ 15
  fifteen =
      let exact : length (leaf_pairs (old.leaf leaf.0)) ≡ 16 = omega (arith, seated, low) in
      let here : length short_node.pairs ≡ 16 = subst (λ (s : Slot (Leaf K V)). length (leaf_pairs s) ≡ 16) was_node exact in
      omega (arith, here, taken.one_less total is_summary old path leaf slot k there short_node was_node pair was_pair)

  pub left : 15 ≤ length (remove short_node.pairs slot)
  left = omega (arith, fifteen)

  abbrev pub short_leaf : LeafUnderflow cmp is_summary mid rest id index
  short_leaf = record {
    child = child;
    climb = taken.climb_taken total is_summary old path leaf slot k there short_node was_node pair was_pair mid took 15 left;
    low = refl;
    enough = omega arith;
    short = rw took.leaf.changed fifteen;
    stays = refl;
    none_held = λ number. (refl, refl);
  }

  pub leaves_short : (new : Slots (Inner K A) (Leaf K V)) (top : A) → PropagatedToRoot short_leaf.climb new top → LeavesTree cmp is_summary old new there.top there.root leaf slot k pair top
  leaves_short new top t = record { pair_was = read; loose = t.loose; pairs = t.pairs; reported = t.reported }
