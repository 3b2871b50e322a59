-- What a visitor's step at an inner node means for the pairs below the node, and its result at a
-- leaf.
use Rattle.std.proofs.Common.{◌≡◌, ℕ, zero, suc, ◌+◌, ◌-◌, ◌<◌, ◌≤◌, List, [], ◌∷◌, ◌++◌, length, map, get_or, refl, sym, ap, subst, ◌∙◌, arith, Option, Some, None, Result, slice_get}
use Rattle.std.specs.declared.cmp.Ordering.{Ordering}
use Rattle.std.specs.Cmp.{IsTotalOrder}
use Rattle.std.specs.List.{AllZip}
use Rattle.std.specs.List.Sorted.{IsStrictlySortedBy}
use Rattle.std.specs.Map.{keys_of, values_of}
use Rattle.std.proofs.lemmas.List.{length-map}
use Rattle.bptree_arguments.specs.Visits.{VisitResult, returned, invalid_child, key_pieces, IsStep, IsAllowedError}
use Rattle.bptree_arguments.specs.declared.visit.DescendError.{DescendError}
use Rattle.bptree_arguments.specs.declared.visit.DescendError.TheVariants.{OutOfMemory, InvalidChild}
use Rattle.bptree_arguments.specs.declared.visit.DescendVisitResult.{DescendVisitResult}
use Rattle.bptree_arguments.specs.declared.visit.DescendVisitResult.TheVariants.{GoDown, Cancel, Complete}
use Rattle.bptree_keys.specs.Pieces.{flatten, piece_at, ArePieces}
use Rattle.bptree_keys.specs.declared.node_id.InnerNodeId.{InnerNodeId}
use Rattle.bptree_keys.specs.declared.node_id.LeafNodeId.{LeafNodeId}
use Rattle.bptree_keys.specs.declared.node_id.NodeId.{NodeId}
use Rattle.bptree_keys.specs.declared.node_id.NodeId.TheVariants as kind
use Rattle.bptree_nodes.specs.Inner.{Inner}
use Rattle.bptree_nodes.specs.Leaf.{Leaf}
use Rattle.bptree_nodes.specs.Slot.{Slots, Present}
use Rattle.bptree_search.specs.ByArgument.{IsSubtree}
use Rattle.bptree_search.specs.Visiting.{IsAllowedResult}
use Rattle.std.proofs.lemmas.Result.{MatchResult-weaker}
use Rattle.bptree_invariant.specs.Order.{flat}
use Rattle.bptree_invariant.specs.Shape.{pairs_at}
use Rattle.bptree_invariant.proofs.Down.{node_children}
use Rattle.bptree_invariant.proofs.NodePieces.{keys_each}
use Rattle.bptree_search.proofs.Summed.{pieces, summaries, whole, are_pieces, same, down, leaf_whole, leaf_sorted}

module _ {C X : Type 0} (f : C → List X) where
  flatten_map : (cs : List C) → flatten (map f cs) ≡ flat f cs
  flatten_map [] = refl
  flatten_map (c ∷ cs) = ap (λ rest. f c ++ rest) (flatten_map cs)

  piece_of : (cs : List C) (i : ℕ) (d : C) → i < length cs → piece_at (map f cs) i ≡ f (get_or cs i d)
  piece_of [] i d within = absurd (omega arith)
  piece_of (c ∷ cs) zero d within = refl
  piece_of (c ∷ cs) (suc i) d within = let small : i < length cs = omega arith in piece_of cs i d small

keys_of_each : {C K V : Type 0} (f : C → List (K × V)) (cs : List C) → key_pieces (map f cs) ≡ keys_each f cs
keys_of_each f [] = refl
keys_of_each f (c ∷ cs) = ap (λ rest. keys_of (f c) ∷ rest) (keys_of_each f cs)

module _ {K V A W R : Type 0} {cmp : K → K → Ordering} (total : IsTotalOrder cmp) (is_summary : A → List K → Type 0) (slots : Slots (Inner K A) (Leaf K V)) (outcomes : W → List (K × V) → VisitResult R → Type 0) where
  -- an error that is allowed below is allowed above
  allowed_above : (old new : W) (above below : List (K × V)) → ((outcome : VisitResult R) → outcomes new below outcome → outcomes old above outcome) → (error : DescendError) → IsAllowedError outcomes new below error → IsAllowedError outcomes old above error
  allowed_above old new above below carried OutOfMemory there = tt
  allowed_above old new above below carried InvalidChild there = carried invalid_child there

  module _ (n : ℕ) (arguments : List A) (old new : W) (step : DescendVisitResult R)
      (clause : (ps : List (List (K × V))) → ArePieces cmp (key_pieces ps) → AllZip is_summary arguments (key_pieces ps) → length ps ≡ n + 1 → IsStep outcomes old new ps step)
    where
      module _ (h : ℕ) (id : InnerNodeId) (node : Inner K A) (s : IsSubtree cmp is_summary slots (suc h) (kind.Inner id)) (e : slots.inner id.0 ≡ Present node) (wide : n ≡ length node.keys) (is : arguments ≡ node.arguments) where
        -- the pairs below each child
        abbrev parts : List (List (K × V))
        parts = map (pairs_at slots h) node.children

        as_keys : key_pieces parts ≡ pieces total is_summary slots h id node s e
        as_keys = keys_of_each (pairs_at slots h) node.children

        all_of : flatten parts ≡ pairs_at slots (suc h) (kind.Inner id)
        all_of = flatten_map (pairs_at slots h) node.children ∙ sym (whole total is_summary slots h id node s e)

        many : length parts ≡ n + 1
        many = length-map node.children (pairs_at slots h) ∙ (node_children total slots (suc h) id node s.stored e ∙ ap (λ m. m + 1) (sym wide))

        stepped : IsStep outcomes old new parts step
        stepped =
            clause parts
            (subst (ArePieces cmp) (sym as_keys) (are_pieces total is_summary slots h id node s e))
            (subst (AllZip is_summary arguments) (sym as_keys) (subst (λ l. AllZip is_summary l (pieces total is_summary slots h id node s e)) (sym is) (summaries total is_summary slots h id node s e)))
            many

        ended_here : step ≡ Cancel → outcomes old (pairs_at slots (suc h) (kind.Inner id)) (returned None)
        ended_here c = subst (λ l. outcomes old l (returned None)) all_of (subst (IsStep outcomes old new parts) c stepped)

        reported_here : (r : R) → step ≡ Complete r → outcomes old (pairs_at slots (suc h) (kind.Inner id)) (returned (Some r))
        reported_here r c = subst (λ l. outcomes old l (returned (Some r))) all_of (subst (IsStep outcomes old new parts) c stepped)

        lost_here : (i : ℕ) → step ≡ GoDown i → n < i → outcomes old (pairs_at slots (suc h) (kind.Inner id)) invalid_child
        lost_here i c past = subst (λ l. outcomes old l invalid_child) all_of ((subst (IsStep outcomes old new parts) c stepped).1 (omega (arith, many, past)))

        went_here : (i : ℕ) (child : NodeId) → step ≡ GoDown i → i ≤ n → slice_get node.children i ≡ Some child → (outcome : VisitResult R) → outcomes new (pairs_at slots h child) outcome → outcomes old (pairs_at slots (suc h) (kind.Inner id)) outcome
        went_here i child c within read outcome there =
            let short : i < length node.children = omega (arith, many, within, length-map node.children (pairs_at slots h)) in
            let small : i < length parts = omega (arith, many, within) in
            let piece : piece_at parts i ≡ pairs_at slots h child = piece_of (pairs_at slots h) node.children i child short ∙ ap (pairs_at slots h) (same total is_summary slots h id node s e i child short read) in
            subst (λ l. outcomes old l outcome) all_of ((subst (IsStep outcomes old new parts) c stepped).0 small outcome (subst (λ l. outcomes new l outcome) (sym piece) there))

      -- the lemmas above at a height h, with the child at the height h - 1
      module _ (top : NodeId) (id : InnerNodeId) (node : Inner K A) (wide : n ≡ length node.keys) (are : arguments ≡ node.arguments) where
        pub ended : (h : ℕ) → IsSubtree cmp is_summary slots h top → top ≡ kind.Inner id → slots.inner id.0 ≡ Present node → step ≡ Cancel → outcomes old (pairs_at slots h top) (returned None)
        ended zero s is e c = absurd (rw is at s.stored.tree)
        ended (suc h) s is e c = rw is (ended_here h id node (rw is at s) e wide are c)

        pub reported : (r : R) (h : ℕ) → IsSubtree cmp is_summary slots h top → top ≡ kind.Inner id → slots.inner id.0 ≡ Present node → step ≡ Complete r → outcomes old (pairs_at slots h top) (returned (Some r))
        reported r zero s is e c = absurd (rw is at s.stored.tree)
        reported r (suc h) s is e c = rw is (reported_here h id node (rw is at s) e wide are r c)

        pub lost : (i : ℕ) (h : ℕ) → IsSubtree cmp is_summary slots h top → top ≡ kind.Inner id → slots.inner id.0 ≡ Present node → step ≡ GoDown i → length node.keys < i → outcomes old (pairs_at slots h top) invalid_child
        lost i zero s is e c past = absurd (rw is at s.stored.tree)
        lost i (suc h) s is e c past = rw is (lost_here h id node (rw is at s) e wide are i c (omega (arith, wide, past)))

        pub went : (i : ℕ) (child : NodeId) (h : ℕ) → IsSubtree cmp is_summary slots h top → top ≡ kind.Inner id → slots.inner id.0 ≡ Present node → step ≡ GoDown i → i ≤ length node.keys → slice_get node.children i ≡ Some child
            → (done : Result (Option R) DescendError) → IsAllowedResult outcomes new (pairs_at slots (h - 1) child) done → IsAllowedResult outcomes old (pairs_at slots h top) done
        went i child zero s is e c within read done there = absurd (rw is at s.stored.tree)
        went i child (suc h) s is e c within read done there =
            let carried = went_here h id node (rw is at s) e wide are i child c (omega (arith, wide, within)) read in
            rw is (MatchResult-weaker done (rw (down total is_summary slots h) at there) (λ outcome below. carried (returned outcome) below) (λ error below. allowed_above old new (pairs_at slots (suc h) (kind.Inner id)) (pairs_at slots h child) carried error below))

  -- the result of a visitor at a leaf is allowed on the pairs of the tree
  pub at_leaf : (visitor : W) (keys : List K) (values : List V) (outcome : Option R) → ((pairs : List (K × V)) → keys_of pairs ≡ keys → values_of pairs ≡ values → IsStrictlySortedBy cmp keys → outcomes visitor pairs (returned outcome))
      → (h : ℕ) (top : NodeId) (id : LeafNodeId) (node : Leaf K V) → IsSubtree cmp is_summary slots h top → top ≡ kind.Leaf id → slots.leaf id.0 ≡ Present node → keys ≡ keys_of node.pairs → values ≡ values_of node.pairs → outcomes visitor (pairs_at slots h top) (returned outcome)
  at_leaf visitor keys values outcome clause h top id node s top_is e is are =
      let s' : IsSubtree cmp is_summary slots h (kind.Leaf id) = rw top_is at s in
      rw (top_is, leaf_whole total is_summary slots h id node s' e) (clause node.pairs (sym is) (sym are) (rw is (leaf_sorted total is_summary slots h id node s' e)))
