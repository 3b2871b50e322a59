-- An edit is propagated from a node to the one above it.
use Rattle.std.proofs.Common.{◌≡◌, ℕ, zero, suc, ◌<◌, Bool, true, false, ◌≤◌, ◌^◌, inl, inr, List, [], ◌∷◌, ◌++◌, length, map, refl, sym, ap, subst, ◌∙◌, arith, Option, Some, None, slice_get}
use Rattle.std.specs.declared.cmp.Ordering.{Ordering}
use Rattle.std.specs.Cmp.{IsTotalOrder}
use Rattle.std.specs.List.{AllZip}
use Rattle.std.specs.Map.{keys_of}
use Rattle.std.proofs.lemmas.Bool.{cases_eq}
use Rattle.std.proofs.lemmas.List.{length-map}
use mathlib.Core.Bool.{true≢false}
use Rattle.bptree_nodes.specs.Inner.{Inner}
use Rattle.bptree_nodes.specs.Leaf.{Leaf}
use Rattle.bptree_arguments.specs.Replaced.{SumsUpReplaced}
use Rattle.bptree_keys.specs.Contents.{IsAscending}
use Rattle.bptree_keys.specs.Pieces.{ArePieces, flatten}
use Rattle.bptree_nodes.specs.Slot.{Slot, Slots, Free, Held, Present, IsPresent, Updates}
use Rattle.bptree_keys.specs.declared.node_id.InnerNodeId.{InnerNodeId}
use Rattle.bptree_keys.specs.declared.node_id.LeafNodeId.{LeafNodeId}
use Rattle.bptree_keys.specs.declared.node_id.NodeId.{NodeId}
use Rattle.bptree_keys.specs.declared.node_id.NodeId.TheVariants as kind
use Rattle.bptree_keys.proofs.PieceLemmas.{AllZip-length}
use Rattle.bptree_propagation.specs.Change.{Keeps, TakesSummary}
use Rattle.bptree_propagation.specs.Climb.{is_held, HeldAre, NoneHeld, least_at, Climb, EditBelow, EditBelowFrom, Propagated}
use Rattle.bptree_invariant.specs.Edit.{CanReach, Turn, Edits}
use Rattle.bptree_invariant.specs.Outcome.{Outcome, Done}
use Rattle.bptree_invariant.specs.Order.{flat}
use Rattle.bptree_invariant.specs.Path.{Way}
use Rattle.bptree_invariant.specs.Shape.{inner_children, inner_arguments, pairs_at, root_least, IsSummed, IsTree}
use Rattle.bptree_propagation.specs.Sums.{SumsUpAt, HasChildAt, with_summary, HasIndexAbove, IsKept, SumsUpChanged}
use Rattle.bptree_propagation.proofs.Lift.{node_keeps}
use Rattle.bptree_propagation.proofs.NodeChanges.{set_long, get_set, some_same}
use Rattle.bptree_invariant.proofs.NodePieces.{child_keys, node_keys_flat, node_pieces, node_summaries}
use Rattle.bptree_propagation.proofs.Rooted.{reach_of}
use Rattle.bptree_propagation.proofs.Undone.{restored}
use Rattle.bptree_invariant.proofs.Walk.{tree_ascends}
use Rattle.bptree_invariant.proofs.Ways.{LastStep, way_last, way_can, way_few, way_summed}
use Rattle.bptree_invariant.proofs.Widen.{tree_less, node_sizes, node_stays, replaced_around}

-- a node's summary is a summary of the keys of its children
sums_at : {K A : Type 0} (cmp : K → K → Ordering) (is_summary : A → List K → Type 0) (slot : Slot (Inner K A)) (a : A) → SumsUpAt cmp is_summary slot a → (pieces : List (List K)) → ArePieces cmp pieces → AllZip is_summary (inner_arguments slot) pieces
    → is_summary a (flatten pieces)
sums_at cmp is_summary Free a sums pieces are zip = absurd sums
sums_at cmp is_summary Held a sums pieces are zip = absurd sums
sums_at cmp is_summary (Present node) a sums pieces are zip = sums pieces are zip

-- if a relation holds between the members of two lists, it holds between those at the same index
zip_reads : {A C Y : Type 0} (R : A → Y → Type 0) (f : C → Y) (xs : List A) (cs : List C) (i : ℕ) (a : A) (c : C) → AllZip R xs (map f cs) → slice_get xs i ≡ Some a → slice_get cs i ≡ Some c → R a (f c)
zip_reads R f [] cs i a c zip got read = absurd (let z : None ≡ Some a = got in cc)
zip_reads R f (x ∷ xs) [] i a c zip got read = absurd zip
zip_reads R f (x ∷ xs) (d ∷ cs) zero a c zip got read = subst (λ y. R y (f c)) (some_same x a got) (subst (λ e. R x (f e)) (some_same d c read) zip.0)
zip_reads R f (x ∷ xs) (d ∷ cs) (suc i) a c zip got read = zip_reads R f xs cs i a c zip.1 got read

pub least_most : {X : Type 0} (top : ℕ) (path : List X) → least_at top path ≤ 16
least_most zero [] = omega arith
least_most (suc h) [] = omega arith
least_most top (x ∷ xs) = omega arith

pub least_some : {X : Type 0} (top : ℕ) (rest : List X) (x : X) → least_at top (rest ++ x ∷ []) ≡ 16
least_some top [] x = refl
least_some top (y ∷ ys) x = refl

-- after an inner node is written, the same nodes are held
pub held_kept : {K V A : Type 0} (held_inner held_leaf : ℕ → Bool) (now after : Slots (Inner K A) (Leaf K V)) (number : InnerNodeId) (was is : Inner K A) → now.inner number.0 ≡ Present was → Updates now.inner after.inner number.0 (Present is) → after.leaf ≡ now.leaf
    → HeldAre held_inner held_leaf now → HeldAre held_inner held_leaf after
held_kept {K = K} {V = V} held_inner held_leaf now after number was is here sets leaf free = record {
  inners = λ n.
      elim (cases_eq n number.0) [
        | inl same ↦ (rw (same, sets.changed) (sym (ap is_held here) ∙ free.inners number.0))
        | inr other ↦ ap is_held (sets.others n other) ∙ free.inners n
      ];
  leaves = λ n. ap (λ (f : ℕ → Slot (Leaf K V)). is_held (f n)) leaf ∙ free.leaves n;
}

pub not_held : {N : Type 0} (slot : Slot N) → is_held slot ≡ false → slot ≡ Held → ⊥
not_held Free none e = absurd (let z : Free ≡ Held = e in cc)
not_held Held none e = absurd (true≢false none)
not_held (Present node) none e = absurd (let z : Present node ≡ Held = e in cc)

pub none_are_held : {I L : Type 0} {inner leaf : ℕ → Bool} {slots : Slots I L} → HeldAre inner leaf slots → ((n : ℕ) → (inner n ≡ false) × (leaf n ≡ false)) → NoneHeld slots
none_are_held {slots = slots} are none = record { inners = λ n. not_held (slots.inner n) (are.inners n ∙ (none n).0); leaves = λ n. not_held (slots.leaf n) (are.leaves n ∙ (none n).1) }

pub held_is : {N : Type 0} (s : Slot N) → is_held s ≡ true → s ≡ Held
held_is Free q = absurd (true≢false (sym q))
held_is Held q = refl
held_is (Present x) q = absurd (true≢false (sym q))

-- an edit that keeps some number of keys or pairs keeps any smaller number
pub edits_less : {K V A : Type 0} {cmp : K → K → Ordering} (is_summary : A → List K → Type 0) (edit : List (K × V) → List (K × V)) (kept less : ℕ) (old new : Slots (Inner K A) (Leaf K V)) (h : ℕ) (id : NodeId) (k : K) (leaf : LeafNodeId) (turn : Turn) (outcome : Outcome K)
    → less ≤ kept → Edits cmp is_summary edit kept old new h id k leaf turn outcome → Edits cmp is_summary edit less old new h id k leaf turn outcome
edits_less is_summary edit kept less old new h id k leaf turn outcome low e = record {
  tree = λ least lo hi under t w. e.tree least lo hi (omega arith) t w;
  pairs = e.pairs;
  leaves = e.leaves;
  inners = e.inners;
  other_leaves = e.other_leaves;
  other_inners = e.other_inners;
  order = e.order;
  links = e.links;
  untouched = e.untouched;
  summed = e.summed;
}

-- An edit is propagated to a node of the tree that it is in. The facts of the old tree stay.
module _ {K V A : Type 0} {cmp : K → K → Ordering} {is_summary : A → List K → Type 0} {now : Slots (Inner K A) (Leaf K V)} {path : List (InnerNodeId × ℕ × NodeId)} {outcome : Outcome K} (c : Climb cmp is_summary now path outcome) where
  abbrev pub climb_on : {after : Slots (Inner K A) (Leaf K V)} {rest : List (InnerNodeId × ℕ × NodeId)} {outcome' : Outcome K} {leaf : LeafNodeId} {turn : Turn} {held_inner held_leaf : ℕ → Bool} (height : ℕ) (id : NodeId) (kept : ℕ)
      → Way cmp c.old c.k c.top c.root rest height id → Edits cmp is_summary c.edit kept c.old after height id c.k leaf turn outcome' → HeldAre held_inner held_leaf after → Climb cmp is_summary after rest outcome'
  climb_on {after} {rest} {outcome'} {leaf} {turn} {held_inner} {held_leaf} height id kept way edits free = record {
    old = c.old;
    edit = c.edit;
    leaf = leaf;
    k = c.k;
    turn = turn;
    kept = kept;
    held_inner = held_inner;
    held_leaf = held_leaf;
    top = c.top;
    root = c.root;
    height = height;
    id = id;
    shape = c.shape;
    few = c.few;
    local = c.local;
    way = way;
    edits = edits;
    free = free;
  }

pub empty_path : {X : Type 0} (xs : List X) → (0 < length xs → ⊥) → xs ≡ []
empty_path [] none = refl
empty_path (x ∷ xs) none = absurd (none (omega arith))

module _ {K V A : Type 0} {cmp : K → K → Ordering} (total : IsTotalOrder cmp) (is_summary : A → List K → Type 0) where
  -- if a node is a tree with right summaries, the summary computed from them is a summary of its
  -- keys
  pub reported_up : (slots : Slots (Inner K A) (Leaf K V)) (least h : ℕ) (id : InnerNodeId) (lo hi : Option K) (a : A) → IsTree cmp slots least (suc h) (kind.Inner id) lo hi → IsSummed slots is_summary (suc h) (kind.Inner id)
      → length (pairs_at slots (suc h) (kind.Inner id)) < 2 ^ 64 → SumsUpAt cmp is_summary (slots.inner id.0) a → is_summary a (keys_of (pairs_at slots (suc h) (kind.Inner id)))
  reported_up slots least h id lo hi a tree summed few sums =
      subst (λ keys. is_summary a keys) (sym (node_keys_flat total slots least h id lo hi tree))
      (sums_at cmp is_summary (slots.inner id.0) a sums (child_keys slots h (inner_children (slots.inner id.0))) (node_pieces total slots least h id lo hi tree few) (node_summaries total slots least h id lo hi tree is_summary summed))

  module _ (now : Slots (Inner K A) (Leaf K V)) (path : List (InnerNodeId × ℕ × NodeId)) (outcome : Outcome K) (c : Climb cmp is_summary now path outcome)
      (rest : List (InnerNodeId × ℕ × NodeId)) (number : InnerNodeId) (i : ℕ) (child : NodeId) (e : path ≡ rest ++ (number, i, child) ∷ []) where
    pub last : LastStep cmp c.old c.k c.top c.root rest number i c.height c.id
    last = way_last cmp c.old c.k rest number i child c.top c.root c.height c.id (subst (λ p. Way cmp c.old c.k c.top c.root p c.height c.id) e c.way)

    reach : CanReach cmp c.old c.top c.root c.k
    reach = reach_of cmp is_summary c.old c.top c.root c.k c.shape

    pub can : CanReach cmp c.old (suc c.height) (kind.Inner number) c.k
    can = way_can cmp c.old c.k rest c.top c.root (suc c.height) (kind.Inner number) last.way reach

    pub summed_there : IsSummed c.old is_summary (suc c.height) (kind.Inner number)
    summed_there = way_summed cmp c.old c.k is_summary rest c.top c.root (suc c.height) (kind.Inner number) last.way reach c.shape.summed

    -- the node has not changed yet
    pub stays : now.inner number.0 ≡ Present last.node
    stays = node_stays total is_summary c.edit c.kept c.old now c.height number c.k last.node i c.id c.leaf c.turn c.local can last.is last.leads last.read outcome c.edits

    pub has_index : HasChildAt last.node i
    has_index =
        let sizes = node_sizes c.old c.height number c.k last.node i c.id can last.is last.leads in
        let zip = subst (λ (s : Slot (Inner K A)). AllZip is_summary (inner_arguments s) (map (λ d. keys_of (pairs_at c.old c.height d)) (inner_children s))) last.is summed_there.0 in
        record {
          within = sizes.0;
          children = sizes.1;
          arguments = AllZip-length is_summary last.node.arguments (map (λ d. keys_of (pairs_at c.old c.height d)) last.node.children) zip ∙ length-map last.node.children (λ d. keys_of (pairs_at c.old c.height d));
        }

    pub most : length last.node.keys ≤ 64
    most = (node_sizes c.old c.height number c.k last.node i c.id can last.is last.leads).2

    pub few_there : length (c.edit (pairs_at c.old (suc c.height) (kind.Inner number))) < 2 ^ 64
    few_there =
        c.few (pairs_at c.old (suc c.height) (kind.Inner number)) (tree_ascends total c.old can.least (suc c.height) (kind.Inner number) can.low can.high can.tree)
        (way_few cmp c.old c.k rest c.top c.root (suc c.height) (kind.Inner number) last.way)

    pub present : IsPresent (now.inner number.0)
    present = rw stays tt

    pub enough_for : least_at c.top path ≤ c.kept → 16 ≤ c.kept
    enough_for enough = let h : least_at c.top (rest ++ (number, i, child) ∷ []) ≤ c.kept = subst (λ p. least_at c.top p ≤ c.kept) e enough in omega (arith, h, least_some c.top rest (number, i, child))

  -- a node keeps its children, and takes a new summary of one
  module _ (now after : Slots (Inner K A) (Leaf K V)) (path : List (InnerNodeId × ℕ × NodeId)) (a : A) (c : EditBelow cmp is_summary now path a)
      (rest : List (InnerNodeId × ℕ × NodeId)) (number : InnerNodeId) (i : ℕ) (child : NodeId) (e : path ≡ rest ++ (number, i, child) ∷ []) where
    pub argument_index : i < length (inner_arguments (now.inner number.0))
    argument_index = let h = has_index now path Done c.climb rest number i child e in rw (stays now path Done c.climb rest number i child e) (omega (arith, h.within, h.children, h.arguments))

    module _ (old : A) (keep : (was : Inner K A) → now.inner number.0 ≡ Present was → Keeps now after number i a was × (slice_get was.arguments i ≡ Some old)) where
      pub kept_there : Keeps now after number i a (last now path Done c.climb rest number i child e).node × (slice_get (last now path Done c.climb rest number i child e).node.arguments i ≡ Some old)
      kept_there = keep (last now path Done c.climb rest number i child e).node (stays now path Done c.climb rest number i child e)

      pub keeps : Keeps now after number i a (last now path Done c.climb rest number i child e).node
      keeps = kept_there.0

      -- the old summary is stored again, and the slots are as they were
      pub put_back : (new : Slots (Inner K A) (Leaf K V)) (out : A) → TakesSummary after new number i old out → (new ≡ now) × (out ≡ a)
      put_back new out takes =
          let s = last now path Done c.climb rest number i child e in
          restored now after new number i s.node a old out (stays now path Done c.climb rest number i child e) kept_there.1 keeps (takes (with_summary s.node i a) keeps.sets.changed)

      pub held_same : HeldAre c.climb.held_inner c.climb.held_leaf after
      held_same =
          held_kept c.climb.held_inner c.climb.held_leaf now after number (last now path Done c.climb rest number i child e).node (with_summary (last now path Done c.climb rest number i child e).node i a) (stays now path Done c.climb rest number i child e)
          keeps.sets keeps.leaf c.climb.free

      abbrev pub climb_keeps : Climb cmp is_summary after rest Done
      climb_keeps =
          let d = c.climb in
          let s = last now path Done d rest number i child e in
          climb_on d {leaf = d.leaf} {turn = d.turn} {held_inner = d.held_inner} {held_leaf = d.held_leaf} (suc d.height) (kind.Inner number) 16 s.way
          (node_keeps total is_summary d.edit d.kept d.old now after d.height number d.k s.node i d.id d.leaf d.turn d.local (can now path Done d rest number i child e) s.is s.leads s.read 16 (enough_for now path Done d rest number i child e c.enough) d.edits a c.reported keeps) held_same

      -- the last node of the rest of the path is present and has the node as its child
      pub index_above : HasIndexAbove after rest
      index_above before above j at last =
          let up = climb_keeps in
          let h = has_index after rest Done up before above j at last in
          (present after rest Done up before above j at last, rw (stays after rest Done up before above j at last) (omega (arith, h.within, h.children, h.arguments)))

      tree_after : IsTree cmp after 0 (suc c.climb.height) (kind.Inner number) (can now path Done c.climb rest number i child e).low (can now path Done c.climb rest number i child e).high
      tree_after =
          let d = c.climb in
          let at = can now path Done d rest number i child e in
          climb_keeps.edits.tree 0 at.low at.high (omega arith) (tree_less cmp d.old at.least 0 (suc d.height) (kind.Inner number) at.low at.high (omega arith) at.tree) at.fits

      -- a summary that the old tree stores of a child is one of the child's keys
      kept_reported : (slots : Slots (Inner K A) (Leaf K V)) (h : ℕ) (id : InnerNodeId) (node : Inner K A) (j : ℕ) (below : NodeId) (b : A) → slots.inner id.0 ≡ Present node → IsSummed slots is_summary (suc h) (kind.Inner id)
          → slice_get node.arguments j ≡ Some b → slice_get node.children j ≡ Some below → is_summary b (keys_of (pairs_at slots h below))
      kept_reported slots h id node j below b is summed got read =
          let zip = subst (λ (s : Slot (Inner K A)). AllZip is_summary (inner_arguments s) (map (λ d. keys_of (pairs_at slots h d)) (inner_children s))) is summed.0 in
          zip_reads is_summary (λ d. keys_of (pairs_at slots h d)) node.arguments node.children j b below zip got read

      -- the summary that is stored of the node, above it or of the whole tree, is one of the keys
      -- that it had
      kept_of_node : (whole : A) → is_summary whole (keys_of (pairs_at c.climb.old c.climb.top c.climb.root)) → (kept : A) → IsKept after rest whole kept
          → is_summary kept (keys_of (pairs_at c.climb.old (suc c.climb.height) (kind.Inner number)))
      kept_of_node whole had kept (inl k) =
          let d = c.climb in
          let up = climb_keeps in
          let t = last after rest Done up k.rest k.id k.i k.child k.last in
          kept_reported d.old (suc d.height) k.id t.node k.i (kind.Inner number) kept t.is (summed_there after rest Done up k.rest k.id k.i k.child k.last)
          (subst (λ (slot : Slot (Inner K A)). slice_get (inner_arguments slot) k.i ≡ Some kept) (stays after rest Done up k.rest k.id k.i k.child k.last) k.kept) t.read
      kept_of_node whole had kept (inr given) =
          let d = c.climb in
          let way : (d.top ≡ suc d.height) × (d.root ≡ kind.Inner number) = subst (λ p. Way cmp d.old d.k d.top d.root p (suc d.height) (kind.Inner number)) given.0 (last now path Done d rest number i child e).way in
          subst (λ n. is_summary kept (keys_of (pairs_at d.old n (kind.Inner number)))) way.0
          (subst (λ x. is_summary kept (keys_of (pairs_at d.old d.top x))) way.1 (subst (λ w. is_summary w (keys_of (pairs_at d.old d.top d.root))) given.1 had))

      -- the node's new summary, computed from all children or from the change, is one of its keys
      pub reported_changed : (whole : A) → is_summary whole (keys_of (pairs_at c.climb.old c.climb.top c.climb.root)) → (above : A) → SumsUpChanged after cmp is_summary rest whole number i old above
          → is_summary above (keys_of (pairs_at after (suc c.climb.height) (kind.Inner number)))
      reported_changed whole had above (inl sums) =
          let d = c.climb in
          let up = climb_keeps in
          let at = can now path Done d rest number i child e in
          reported_up after 0 d.height number at.low at.high above tree_after (up.edits.summed (summed_there now path Done d rest number i child e))
          (subst (λ l. length l < 2 ^ 64) (sym up.edits.pairs) (few_there now path Done d rest number i child e)) sums
      reported_changed whole had above (inr reported) =
          let d = c.climb in
          let up = climb_keeps in
          let at = can now path Done d rest number i child e in
          let s = last now path Done d rest number i child e in
          let was_whole = kept_of_node whole had reported.kept reported.above in
          let was_told = kept_reported d.old d.height number s.node i d.id old s.is (summed_there now path Done d rest number i child e) kept_there.1 s.read in
          let h = has_index now path Done d rest number i child e in
          let new_is : a ≡ reported.new = some_same a reported.new
          (sym (get_set s.node.arguments i a (omega (arith, h.within, h.children, h.arguments))) ∙ subst (λ (slot : Slot (Inner K A)). slice_get (inner_arguments slot) i ≡ Some reported.new) keeps.sets.changed reported.here) in
          let flat_is = ap (λ (slot : Slot (Inner K A)). flat (pairs_at d.old d.height) (inner_children slot)) s.is in
          let edited_is = up.edits.pairs ∙ ap d.edit flat_is in
          subst (λ l. is_summary above (keys_of l)) (sym edited_is)
          (replaced_around total is_summary d.edit d.kept d.old now d.height number d.k s.node i d.id d.leaf d.turn d.local at s.is s.leads s.read d.edits reported.kept old a above
          (subst (λ l. is_summary reported.kept (keys_of l)) flat_is was_whole) was_told c.reported
          (subst (λ l. IsAscending cmp l) edited_is (tree_ascends total after 0 (suc d.height) (kind.Inner number) at.low at.high tree_after))
          (subst (λ l. length (d.edit l) < 2 ^ 64) flat_is (few_there now path Done d rest number i child e))
          (subst (λ b. SumsUpReplaced is_summary cmp reported.kept old b above) (sym new_is) reported.replaced))

      module _ (whole : A) (had : is_summary whole (keys_of (pairs_at c.climb.old c.climb.top c.climb.root))) (above : A) (sums : SumsUpChanged after cmp is_summary rest whole number i old above) where
        abbrev pub climbs_keeps : EditBelowFrom cmp is_summary after rest whole above
        climbs_keeps =
            let up = climb_keeps in
            record {
              climbs = record {
                climb = up;
                enough = least_most up.top rest;
                reported = reported_changed whole had above sums;
              };
              had = had;
            }

        pub risen_keeps : (new : Slots (Inner K A) (Leaf K V)) (top : A) → ((up : EditBelowFrom cmp is_summary after rest whole above) → Propagated up.climbs.climb new top) → Propagated c.climb new top
        risen_keeps new top rises = let r = rises climbs_keeps in record { edits = r.edits; free = r.free; reported = r.reported }

      pub present_after : IsPresent (after.inner number.0)
      present_after = rw keeps.sets.changed tt

      pub index_after : i < length (inner_arguments (after.inner number.0))
      index_after =
          let s = last now path Done c.climb rest number i child e in
          let h = has_index now path Done c.climb rest number i child e in
          rw keeps.sets.changed (omega (arith, h.within, h.children, h.arguments, set_long s.node.arguments i a))

  -- if no node is above, the edit is one of the whole tree
  pub risen_here : (now : Slots (Inner K A) (Leaf K V)) (path : List (InnerNodeId × ℕ × NodeId)) (a : A) (c : EditBelow cmp is_summary now path a) → path ≡ [] → Propagated c.climb now a
  risen_here now path a c e =
      let d = c.climb in
      let way : (d.top ≡ d.height) × (d.root ≡ d.id) = subst (λ p. Way cmp d.old d.k d.top d.root p d.height d.id) e d.way in
      record {
        edits = edits_less is_summary d.edit d.kept (root_least d.top) d.old now d.top d.root d.k d.leaf d.turn Done (subst (λ p. least_at d.top p ≤ d.kept) e c.enough)
            (subst (λ n. Edits cmp is_summary d.edit d.kept d.old now n d.root d.k d.leaf d.turn Done) (sym way.0) (subst (λ x. Edits cmp is_summary d.edit d.kept d.old now d.height x d.k d.leaf d.turn Done) (sym way.1) d.edits));
        free = d.free;
        reported = subst (λ n. is_summary a (keys_of (pairs_at now n d.root))) (sym way.0) (subst (λ x. is_summary a (keys_of (pairs_at now d.height x))) (sym way.1) c.reported);
      }
