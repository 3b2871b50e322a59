-- A split is propagated from a node to the one above it, which takes the new child and may be split
-- in turn.
use Rattle.std.proofs.Common.{◌≡◌, ℕ, suc, ◌+◌, ◌<◌, ◌≤◌, ◌^◌, inl, inr, List, [], ◌∷◌, ◌++◌, length, refl, sym, ap, subst, ◌∙◌, arith, add-one, Option, Some, None, slice_set, length-append}
use Rattle.std.specs.declared.cmp.Ordering.{Ordering}
use Rattle.std.specs.Cmp.{IsTotalOrder}
use Rattle.std.specs.Map.{keys_of}
use Rattle.std.proofs.lemmas.Bool.{cases_eq}
use Rattle.std.proofs.lemmas.List.Edits.{length-insert}
use Rattle.bptree_nodes.specs.Inner.{Inner}
use Rattle.bptree_nodes.specs.Leaf.{Leaf}
use Rattle.bptree_nodes.specs.Slot.{Slot, Slots, Free, Present, IsPresent}
use Rattle.bptree_keys.specs.declared.node_id.InnerNodeId.{InnerNodeId}
use Rattle.bptree_keys.specs.declared.node_id.NodeId.{NodeId}
use Rattle.bptree_keys.specs.declared.node_id.NodeId.TheVariants as kind
use Rattle.bptree_propagation.specs.Change.{Links, Splits, Roots}
use Rattle.bptree_propagation.specs.Climb.{is_held, HeldAre, least_at, Climb, EditBelow, SplitBelow, Propagated, PropagatedToNewRoot, Reaches}
use Rattle.bptree_invariant.specs.Edit.{CanReach, Edits}
use Rattle.bptree_invariant.specs.Outcome.{Outcome, Done, Split}
use Rattle.bptree_invariant.specs.Path.{Way}
use Rattle.bptree_invariant.specs.Shape.{pairs_at, root_least, IsSummed}
use Rattle.bptree_propagation.specs.Sums.{SumsUpAt, IndexAt, HasKeysAt, HasChildAt, IsLinked, IsSplit, with_split}
use Rattle.bptree_propagation.specs.declared.node_changes.NodeSplit.{NodeSplit}
use Rattle.bptree_propagation.proofs.Climbing.{climb_on, least_most, held_kept, none_are_held, edits_less, enough_for, reported_up, last, can, summed_there, stays, has_index, few_there}
use Rattle.bptree_propagation.proofs.Lift.{node_links, node_splits}
use Rattle.bptree_propagation.proofs.NodeChanges.{set_long}
use Rattle.bptree_propagation.proofs.Rooted.{split_unlinked, split_unlinked_pairs}
use Rattle.bptree_invariant.proofs.Walk.{tree_ascends}
use Rattle.bptree_invariant.proofs.Ways.{LastStep}
use Rattle.bptree_invariant.proofs.Widen.{tree_less}

module _ {K V A : Type 0} {cmp : K → K → Ordering} (total : IsTotalOrder cmp) (is_summary : A → List K → Type 0) (now after : Slots (Inner K A) (Leaf K V)) (path : List (InnerNodeId × ℕ × NodeId)) (division : NodeSplit K A)
    (c : SplitBelow cmp is_summary now path division) (rest : List (InnerNodeId × ℕ × NodeId)) (number : InnerNodeId) (i : ℕ) (child : NodeId) (e : path ≡ rest ++ (number, i, child) ∷ []) where
  abbrev outcome : Outcome K
  outcome = Split division.separator division.node

  abbrev pub step : LastStep cmp c.climb.old c.climb.k c.climb.top c.climb.root rest number i c.climb.height c.climb.id
  step = last total is_summary now path outcome c.climb rest number i child e

  pub at : CanReach cmp c.climb.old (suc c.climb.height) (kind.Inner number) c.climb.k
  at = can total is_summary now path outcome c.climb rest number i child e

  pub node_stored : now.inner number.0 ≡ Present step.node
  node_stored = stays total is_summary now path outcome c.climb rest number i child e

  pub node_index : HasChildAt step.node i
  node_index = has_index total is_summary now path outcome c.climb rest number i child e

  pub node_present : IsPresent (now.inner number.0)
  node_present = rw node_stored tt

  pub node_index_at : IndexAt (now.inner number.0) i
  node_index_at = rw node_stored node_index

  summed : IsSummed c.climb.old is_summary (suc c.climb.height) (kind.Inner number)
  summed = summed_there total is_summary now path outcome c.climb rest number i child e

  enough_here : 16 ≤ c.climb.kept
  enough_here = enough_for total is_summary now path outcome c.climb rest number i child e c.enough

  few : length (c.climb.edit (pairs_at c.climb.old (suc c.climb.height) (kind.Inner number))) < 2 ^ 64
  few = few_there total is_summary now path outcome c.climb rest number i child e

  -- a node with room takes the child
  module _ (before : A) (link : (was : Inner K A) → now.inner number.0 ≡ Present was → IsLinked now after number i division was before) where
    pub linked : IsLinked now after number i division step.node before
    linked = link step.node node_stored

    -- what follows for each node that may have this id follows
    pub when_linked : {R : Type 0} → ((was : Inner K A) → now.inner number.0 ≡ Present was → HasChildAt was i → IsLinked now after number i division was before → R) → R
    when_linked f = f step.node node_stored node_index linked

    links : Links now after number i division.left division.separator division.node division.right step.node
    links = record {
      is = with_split step.node i division.left division.separator division.node division.right;
      sets = linked.sets;
      leaf = linked.leaf;
      keys = refl;
      children = rw add-one refl;
      arguments = rw add-one refl;
      room = linked.room;
    }

    pub held_linked : HeldAre c.climb.held_inner c.climb.held_leaf after
    held_linked = held_kept c.climb.held_inner c.climb.held_leaf now after number step.node (with_split step.node i division.left division.separator division.node division.right) node_stored linked.sets linked.leaf c.climb.free

    pub edits_linked : Edits cmp is_summary c.climb.edit 16 c.climb.old after (suc c.climb.height) (kind.Inner number) c.climb.k c.climb.leaf c.climb.turn Done
    edits_linked =
        let d = c.climb in
        node_links total is_summary d.edit d.kept d.old now after d.height number d.k step.node i d.id d.leaf d.turn d.local at step.is step.leads step.read 16 enough_here division.separator division.node d.edits division.left division.right c.left c.right links

    abbrev pub climb_linked : Climb cmp is_summary after rest Done
    climb_linked = climb_on c.climb {leaf = c.climb.leaf} {turn = c.climb.turn} {held_inner = c.climb.held_inner} {held_leaf = c.climb.held_leaf} (suc c.climb.height) (kind.Inner number) 16 step.way edits_linked held_linked

    pub reported_linked : (above : A) → SumsUpAt cmp is_summary (after.inner number.0) above → is_summary above (keys_of (pairs_at after (suc c.climb.height) (kind.Inner number)))
    reported_linked above sums =
        reported_up total is_summary after 0 c.climb.height number at.low at.high above (edits_linked.tree 0 at.low at.high (omega arith) (tree_less cmp c.climb.old at.least 0 (suc c.climb.height) (kind.Inner number) at.low at.high (omega arith) at.tree) at.fits) (edits_linked.summed summed) (subst (λ l. length l < 2 ^ 64) (sym edits_linked.pairs) few) sums

    abbrev pub climbs_linked : (above : A) → SumsUpAt cmp is_summary (after.inner number.0) above → EditBelow cmp is_summary after rest above
    climbs_linked above sums = record { climb = climb_linked; enough = least_most c.climb.top rest; reported = reported_linked above sums }

    pub risen_linked : (above : A) (sums : SumsUpAt cmp is_summary (after.inner number.0) above) (new : Slots (Inner K A) (Leaf K V)) (top : A) → Propagated (climbs_linked above sums).climb new top → Propagated c.climb new top
    risen_linked above sums new top r = record { edits = r.edits; free = r.free; reported = r.reported }

    pub index_linked : IndexAt (after.inner number.0) (i + 1)
    index_linked =
        let h = node_index in
        rw linked.sets.changed (record {
          within = omega (arith, h.within, length-insert step.node.keys i division.separator h.within);
          children = omega (
            arith,
            length-insert step.node.keys i division.separator h.within,
            length-insert step.node.children (i + 1) division.node (omega (arith, h.within, h.children)),
            h.children,
          );
          arguments = omega (
            arith,
            length-insert step.node.children (i + 1) division.node (omega (arith, h.within, h.children)),
            length-insert (slice_set step.node.arguments i division.left) (i + 1) division.right (omega (arith, set_long step.node.arguments i division.left, h.within, h.children, h.arguments)),
            set_long step.node.arguments i division.left,
            h.arguments,
          );
        })

  -- a full node takes the child and is split
  module _ (up : K) (fresh : InnerNodeId) (before : A) (cut : (was : Inner K A) → now.inner number.0 ≡ Present was → IsSplit now after number i division was up fresh before) where
    pub split : IsSplit now after number i division step.node up fresh before
    split = cut step.node node_stored

    pub when_split : {R : Type 0} → ((was : Inner K A) → now.inner number.0 ≡ Present was → HasChildAt was i → length was.keys ≡ 64 → IsSplit now after number i division was up fresh before → R) → R
    when_split f = f step.node node_stored node_index split.full split

    parts : Splits now after number i division.left division.separator division.node division.right step.node up fresh
    parts = record {
      left = split.left;
      right = split.right;
      absent = λ p. subst (λ (x : Slot (Inner K A)). IsPresent x) split.free p;
      at_left = split.at_left;
      at_right = split.at_right;
      others = split.others;
      leaf = split.leaf;
      keys = split.cut.keys;
      children = split.cut.children ∙ rw add-one refl;
      arguments = split.cut.arguments ∙ rw add-one refl;
      left_children = omega (arith, split.cut.left_size.children, split.cut.left_size.keys);
      left_arguments = omega (arith, split.cut.left_size.children, split.cut.left_size.arguments);
      left_least = omega (arith, split.cut.left_size.keys);
      left_most = omega (arith, split.cut.left_size.keys);
      right_least = omega (arith, split.cut.right_size.keys);
      right_most = omega (arith, split.cut.right_size.keys);
    }

    pub held_split : HeldAre c.climb.held_inner c.climb.held_leaf after
    held_split = record {
      inners = λ n.
          elim (cases_eq n number.0) [
            | inl same ↦ (rw (same, split.at_left) (sym (ap is_held node_stored) ∙ c.climb.free.inners number.0))
            | inr other ↦ elim (cases_eq n fresh.0) [
              | inl same ↦ (rw (same, split.at_right) (sym (ap is_held split.free) ∙ c.climb.free.inners fresh.0))
              | inr far ↦ ap is_held (split.others n other far) ∙ c.climb.free.inners n
            ]
          ];
      leaves = λ n. ap (λ (f : ℕ → Slot (Leaf K V)). is_held (f n)) split.leaf ∙ c.climb.free.leaves n;
    }

    pub edits_split : Edits cmp is_summary c.climb.edit 16 c.climb.old after (suc c.climb.height) (kind.Inner number) c.climb.k c.climb.leaf c.climb.turn (Split up (kind.Inner fresh))
    edits_split =
        let d = c.climb in
        node_splits total is_summary d.edit d.kept d.old now after d.height number d.k step.node i d.id d.leaf d.turn d.local at step.is step.leads step.read 16 enough_here division.separator division.node d.edits division.left division.right c.left c.right up fresh parts

    abbrev pub climb_split : Climb cmp is_summary after rest (Split up (kind.Inner fresh))
    climb_split = climb_on c.climb {leaf = c.climb.leaf} {turn = c.climb.turn} {held_inner = c.climb.held_inner} {held_leaf = c.climb.held_leaf} (suc c.climb.height) (kind.Inner number) 16 step.way edits_split held_split

    long : length (pairs_at after (suc c.climb.height) (kind.Inner number)) + length (pairs_at after (suc c.climb.height) (kind.Inner fresh)) < 2 ^ 64
    long = omega (arith, few, ap length edits_split.pairs, length-append (pairs_at after (suc c.climb.height) (kind.Inner number)) (pairs_at after (suc c.climb.height) (kind.Inner fresh)))

    pub reported_left : (a : A) → SumsUpAt cmp is_summary (after.inner number.0) a → is_summary a (keys_of (pairs_at after (suc c.climb.height) (kind.Inner number)))
    reported_left a sums =
        let t = edits_split.tree 0 at.low at.high (omega arith) (tree_less cmp c.climb.old at.least 0 (suc c.climb.height) (kind.Inner number) at.low at.high (omega arith) at.tree) at.fits in
        reported_up total is_summary after 16 c.climb.height number at.low (Some up) a t.0 (edits_split.summed summed).0 (omega (arith, long)) sums

    pub reported_right : (a : A) → SumsUpAt cmp is_summary (after.inner fresh.0) a → is_summary a (keys_of (pairs_at after (suc c.climb.height) (kind.Inner fresh)))
    reported_right a sums =
        let t = edits_split.tree 0 at.low at.high (omega arith) (tree_less cmp c.climb.old at.least 0 (suc c.climb.height) (kind.Inner number) at.low at.high (omega arith) at.tree) at.fits in
        reported_up total is_summary after 16 c.climb.height fresh (Some up) at.high a t.2 (edits_split.summed summed).1 (omega (arith, long)) sums

    abbrev pub climbs_split : (l r : A) → SumsUpAt cmp is_summary (after.inner number.0) l → SumsUpAt cmp is_summary (after.inner fresh.0) r
        → SplitBelow cmp is_summary after rest (record { left = l; separator = up; node = kind.Inner fresh; right = r })
    climbs_split l r left_sums right_sums = record { climb = climb_split; enough = least_most c.climb.top rest; none_held = c.none_held; left = reported_left l left_sums; right = reported_right r right_sums }

    pub reaches_split : (l r : A) (left_sums : SumsUpAt cmp is_summary (after.inner number.0) l) (right_sums : SumsUpAt cmp is_summary (after.inner fresh.0) r) (new : Slots (Inner K A) (Leaf K V)) (top : Option InnerNodeId) (a : A)
        → Reaches (climbs_split l r left_sums right_sums).climb new top a → Reaches c.climb new top a
    reaches_split l r left_sums right_sums new None a r' = record { edits = r'.edits; free = r'.free; reported = r'.reported }
    reaches_split l r left_sums right_sums new (Some id) a r' = record { mid = r'.mid; division = r'.division; edits = r'.edits; left = r'.left; right = r'.right; roots = r'.roots; free = r'.free; reported = r'.reported }

    pub sizes_split : HasKeysAt 32 (after.inner number.0) × HasKeysAt 32 (after.inner fresh.0) × (number.0 ≡ fresh.0 → ⊥)
    sizes_split = (rw split.at_left split.cut.left_size, rw split.at_right split.cut.right_size, λ same. let z : Present step.node ≡ Free = sym node_stored ∙ (ap now.inner same ∙ split.free) in cc)

    pub index_split : i ≤ 64
    index_split = omega (arith, node_index.within, split.full)

-- if no node is above, a new root is added above the two
module _ {K V A : Type 0} {cmp : K → K → Ordering} (total : IsTotalOrder cmp) (is_summary : A → List K → Type 0) (now new : Slots (Inner K A) (Leaf K V)) (path : List (InnerNodeId × ℕ × NodeId)) (division : NodeSplit K A)
    (c : SplitBelow cmp is_summary now path division) (none : path ≡ []) (root : NodeId) (same : c.climb.root ≡ root) (id : InnerNodeId) (a : A)
    (made : Roots now new id root division.left division.separator division.node division.right) (sums : SumsUpAt cmp is_summary (new.inner id.0) a) where
  way : (c.climb.top ≡ c.climb.height) × (c.climb.root ≡ c.climb.id)
  way = subst (λ p. Way cmp c.climb.old c.climb.k c.climb.top c.climb.root p c.climb.height c.climb.id) none c.climb.way

  edits : Edits cmp is_summary c.climb.edit (root_least c.climb.top) c.climb.old now c.climb.top c.climb.root c.climb.k c.climb.leaf c.climb.turn (Split division.separator division.node)
  edits =
      let d = c.climb in
      edits_less is_summary d.edit d.kept (root_least d.top) d.old now d.top d.root d.k d.leaf d.turn (Split division.separator division.node) (subst (λ p. least_at d.top p ≤ d.kept) none c.enough)
      (subst (λ n. Edits cmp is_summary d.edit d.kept d.old now n d.root d.k d.leaf d.turn (Split division.separator division.node)) (sym way.0)
      (subst (λ x. Edits cmp is_summary d.edit d.kept d.old now d.height x d.k d.leaf d.turn (Split division.separator division.node)) (sym way.1) d.edits))

  left : is_summary division.left (keys_of (pairs_at now c.climb.top c.climb.root))
  left = subst (λ n. is_summary division.left (keys_of (pairs_at now n c.climb.root))) (sym way.0) (subst (λ x. is_summary division.left (keys_of (pairs_at now c.climb.height x))) (sym way.1) c.left)

  right : is_summary division.right (keys_of (pairs_at now c.climb.top division.node))
  right = subst (λ n. is_summary division.right (keys_of (pairs_at now n division.node))) (sym way.0) c.right

  roots : Roots now new id c.climb.root division.left division.separator division.node division.right
  roots = subst (λ x. Roots now new id x division.left division.separator division.node division.right) (sym same) made

  reported : is_summary a (keys_of (pairs_at new (suc c.climb.top) (kind.Inner id)))
  reported =
      let d = c.climb in
      let tree = split_unlinked cmp is_summary d.edit d.old now d.top d.root d.k d.leaf d.shape (none_are_held d.free c.none_held) new d.turn division.left division.separator division.node division.right id edits roots left right in
      let pairs = split_unlinked_pairs cmp is_summary d.edit d.old now d.top d.root d.k d.leaf d.shape (none_are_held d.free c.none_held) new d.turn division.left division.separator division.node division.right id edits roots in
      let few : length (d.edit (pairs_at d.old d.top d.root)) < 2 ^ 64 = d.few (pairs_at d.old d.top d.root) (tree_ascends total d.old (root_least d.top) d.top d.root None None d.shape.tree) (omega arith) in
      reported_up total is_summary new (root_least (suc d.top)) d.top id None None a tree.tree tree.summed (subst (λ l. length l < 2 ^ 64) (sym pairs) few) sums

  pub risen_by_one : PropagatedToNewRoot c.climb new id a
  risen_by_one = record { mid = now; division = division; edits = edits; left = left; right = right; roots = roots; free = c.climb.free; reported = reported }
