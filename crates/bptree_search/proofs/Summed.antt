-- What a descent by summaries has established at an inner node, and at the child that it continues
-- in.
use Rattle.std.proofs.Common.{◌≡◌, ℕ, zero, suc, ◌+◌, ◌-◌, ◌<◌, ◌^◌, List, [], ◌∷◌, ◌++◌, length, take, drop, get_or, refl, sym, ap, subst, ◌∙◌, arith, Option, Some, None, length-append, append_assoc, append-nil, slice_get, Result, MatchResult}
use Rattle.std.specs.declared.cmp.Ordering.{Ordering}
use Rattle.std.specs.declared.cmp.Ordering.TheVariants.{Less, Greater}
use Rattle.std.specs.Cmp.{IsTotalOrder}
use Rattle.std.specs.List.{AllByRecursion, AllZip}
use Rattle.std.specs.List.Sorted.{IsStrictlySortedBy}
use Rattle.std.specs.Map.{keys_of}
use Rattle.std.proofs.lemmas.List.{length-map}
use Rattle.std.proofs.lemmas.Map.Entries.{length-keys_of}
use Rattle.std.proofs.lemmas.Option.{get_or_from_slice_get, slice_get_within}
use Rattle.bptree_arguments.specs.Ranks.{AllAbove, AllBelow}
use Rattle.bptree_arguments.specs.Selection.{LeadsTo}
use Rattle.bptree_keys.specs.Contents.{IsAscending, has}
use Rattle.bptree_nodes.specs.Inner.{Inner}
use Rattle.bptree_nodes.specs.Leaf.{Leaf}
use Rattle.bptree_keys.specs.Indexes.{AllCompare}
use Rattle.bptree_keys.specs.Pieces.{flatten, piece_at, start_of, AllNonEmpty, ArePieces}
use Rattle.bptree_nodes.specs.Slot.{Slot, Slots, Present}
use Rattle.bptree_keys.specs.declared.node_id.InnerNodeId.{InnerNodeId}
use Rattle.bptree_keys.specs.declared.node_id.LeafNodeId.{LeafNodeId}
use Rattle.bptree_keys.specs.declared.node_id.NodeId.{NodeId}
use Rattle.bptree_keys.specs.declared.node_id.Position.{Position}
use Rattle.bptree_keys.specs.declared.node_id.NodeId.TheVariants as kind
use Rattle.bptree_keys.proofs.Around.{has_around}
use Rattle.bptree_keys.proofs.Ascending.{all_keys}
use Rattle.bptree_keys.proofs.PieceLemmas.{AllByRecursion-append, AllByRecursion-at, AllZip-take, flatten-cut, sorted_left}
use Rattle.bptree_search.specs.ByArgument.{IsSubtree, IsSelected, IsSelectedAt, RanksAmong}
use Rattle.bptree_invariant.specs.Leaves.{pairs_of}
use Rattle.bptree_invariant.specs.Order.{flat, Chain, LeadsDown}
use Rattle.bptree_invariant.specs.NodeTree.{IsWhole, NodeTree}
use Rattle.bptree_invariant.specs.Shape.{leaf_pairs, inner_keys, inner_children, inner_arguments, pairs_at, leaves_at, IsTree, IsSummed, IsWellShaped, root_least}
use Rattle.bptree_invariant.proofs.Down.{pairs_of_all, is_stored_above}
use Rattle.bptree_invariant.proofs.NodePieces.{keys_each, keys_of_flat, keys_at, keys_take, keys_drop, keys_start, chain_pieces}
use Rattle.bptree_invariant.proofs.Spot.{parts_of, parts_of_read}
use Rattle.bptree_invariant.proofs.Walk.{flat_parts, flat-append, tree_ascends, tree_inside, chain_at, chain_smaller, chain_greater}

all_take : {X : Type 0} (P : X → Type 0) (n : ℕ) (xs : List X) → AllByRecursion P xs → AllByRecursion P (take n xs)
all_take P zero xs all = tt
all_take P (suc n) [] all = tt
all_take P (suc n) (x ∷ xs) all = (all.0, all_take P n xs all.1)

pub get_past : {X : Type 0} (xs ys : List X) (i : ℕ) → slice_get (xs ++ ys) (length xs + i) ≡ slice_get ys i
get_past [] ys i = let n : 0 + i ≡ i = omega arith in rw n refl
get_past (x ∷ xs) ys i = let n : length (x ∷ xs) + i ≡ suc (length xs + i) = omega arith in rw n (get_past xs ys i)

pub get_early : {X : Type 0} (xs ys : List X) (i : ℕ) → i < length xs → slice_get (xs ++ ys) i ≡ slice_get xs i
get_early [] ys i within = absurd (omega arith)
get_early (x ∷ xs) ys zero within = refl
get_early (x ∷ xs) ys (suc i) within = let small : i < length xs = omega arith in get_early xs ys i small

module _ {K V A : Type 0} {cmp : K → K → Ordering} (total : IsTotalOrder cmp) (is_summary : A → List K → Type 0) (slots : Slots (Inner K A) (Leaf K V)) where
  module _ (h : ℕ) (id : InnerNodeId) (node : Inner K A) (s : IsSubtree cmp is_summary slots (suc h) (kind.Inner id)) (e : slots.inner id.0 ≡ Present node) where
    -- the keys below each child
    abbrev pub pieces : List (List K)
    pieces = keys_each (pairs_at slots h) node.children

    chain : Chain cmp (IsTree cmp slots 16 h) node.keys node.children s.stored.low s.stored.high
    chain = subst (λ (x : Slot (Inner K A)). Chain cmp (IsTree cmp slots 16 h) (inner_keys x) (inner_children x) s.stored.low s.stored.high) e s.stored.tree.1

    pub summaries : AllZip is_summary node.arguments pieces
    summaries = subst (λ (x : Slot (Inner K A)). AllZip is_summary (inner_arguments x) (keys_each (pairs_at slots h) (inner_children x))) e s.summed.0

    summed_below : AllByRecursion (IsSummed slots is_summary h) node.children
    summed_below = subst (λ (x : Slot (Inner K A)). AllByRecursion (IsSummed slots is_summary h) (inner_children x)) e s.summed.1

    pub whole : pairs_at slots (suc h) (kind.Inner id) ≡ flat (pairs_at slots h) node.children
    whole = ap (λ (x : Slot (Inner K A)). flat (pairs_at slots h) (inner_children x)) e

    whole_keys : keys_of (pairs_at slots (suc h) (kind.Inner id)) ≡ flatten pieces
    whole_keys = ap keys_of whole ∙ keys_of_flat (pairs_at slots h) node.children

    pub are_pieces : ArePieces cmp pieces
    are_pieces = chain_pieces total slots h node.keys node.children s.stored.low s.stored.high chain (subst (λ l. length l < 2 ^ 64) whole s.fits)

    module _ (i : ℕ) (child : NodeId) (within : i < length node.children) (read : slice_get node.children i ≡ Some child) where
      pub same : get_or node.children i child ≡ child
      same = get_or_from_slice_get node.children i child child read

      parts : flat (pairs_at slots h) node.children ≡ flat (pairs_at slots h) (take i node.children) ++ (pairs_at slots h child ++ flat (pairs_at slots h) (drop (suc i) node.children))
      parts =
          flat_parts (pairs_at slots h) node.children i child within
          ∙ ap (λ c. flat (pairs_at slots h) (take i node.children) ++ (pairs_at slots h c ++ flat (pairs_at slots h) (drop (suc i) node.children))) same

      piece : piece_at pieces i ≡ keys_of (pairs_at slots h child)
      piece = keys_at (pairs_at slots h) node.children i child within ∙ ap (λ c. keys_of (pairs_at slots h c)) same

      -- the child is a tree with its summaries
      pub below : IsSubtree cmp is_summary slots h child
      below =
          let there = chain_at cmp (IsTree cmp slots 16 h) node.keys node.children s.stored.low s.stored.high i child within chain in
          let left = flat (pairs_at slots h) (take i node.children) in
          let right = flat (pairs_at slots h) (drop (suc i) node.children) in
          record {
            stored = record { least = 16; low = there.0; high = there.1; tree = subst (λ c. IsTree cmp slots 16 h c there.0 there.1) same there.2 };
            summed = subst (λ c. IsSummed slots is_summary h c) same (AllByRecursion-at (λ c. IsSummed slots is_summary h c) node.children i child within summed_below);
            fits = omega (arith, s.fits, ap length (whole ∙ parts), length-append left (pairs_at slots h child ++ right), length-append (pairs_at slots h child) right);
          }

      -- a position that is selected below the child that the query leads to is selected below the
      -- node
      pub selected_above : {Q : Type 0} (selects : Q → List K → Option ℕ → Type 0) (query next : Q) → LeadsTo selects query pieces (Some (i, next)) → (outcome : Option Position) → IsSelectedAt selects next slots h child outcome → IsSelectedAt selects query slots (suc h) (kind.Inner id) outcome
      selected_above selects query next leads None selected =
          subst (λ keys. selects query keys None) (sym whole_keys) (leads.1 None tt (subst (λ keys. selects next keys None) (sym piece) selected))
      selected_above selects query next leads (Some at) (stored, short, selected) =
          let left = flat (leaves_at slots h) (take i node.children) in
          let index : ℕ = length (pairs_of slots stored.before) + at.slot in
          let long : length (piece_at pieces i) ≡ length (pairs_at slots h child) = ap length piece ∙ length-keys_of (pairs_at slots h child) in
          let here = leaf_pairs (slots.leaf at.leaf.0) in
          let cut = ap length (parts_of slots h child at.leaf stored) in
          let inside : index < length (piece_at pieces i) =
          omega (arith, long, cut, short, length-append (pairs_of slots stored.before) (here ++ pairs_of slots stored.after), length-append here (pairs_of slots stored.after)) in
          let start : start_of pieces i ≡ length (pairs_of slots left) = keys_start (pairs_at slots h) node.children i ∙ ap length (sym (pairs_of_all slots h (take i node.children))) in
          let moved : start_of pieces i + index ≡ length (pairs_of slots (left ++ stored.before)) + at.slot =
          omega (arith, start, ap length (flat-append (λ (l : LeafNodeId). leaf_pairs (slots.leaf l.0)) left stored.before), length-append (pairs_of slots left) (pairs_of slots stored.before)) in
          let there = leads.1 (Some index) inside (subst (λ keys. selects next keys (Some index)) (sym piece) selected) in (
            is_stored_above slots h id node e i child at.leaf within read stored,
            short,
            subst (λ (n : ℕ). selects query (keys_of (pairs_at slots (suc h) (kind.Inner id))) (Some n)) moved (subst (λ keys. selects query keys (Some (start_of pieces i + index))) (sym whole_keys) there),
          )

      module _ (k : K) (leads : LeadsDown cmp k node.keys i) where
        smaller : AllCompare cmp k Less (flat (pairs_at slots h) (take i node.children))
        smaller = chain_smaller total (pairs_at slots h) (IsTree cmp slots 16 h) (λ c a b u. tree_inside total slots 16 h c a b u) k node.keys node.children s.stored.low s.stored.high i chain leads

        greater : AllCompare cmp k Greater (flat (pairs_at slots h) (drop (suc i) node.children))
        greater = chain_greater total (pairs_at slots h) (IsTree cmp slots 16 h) (λ c a b u. tree_inside total slots 16 h c a b u) k node.keys node.children s.stored.low s.stored.high i chain leads

        -- a key is below the node if and only if it is below the child for it
        pub has_above : has cmp (pairs_at slots (suc h) (kind.Inner id)) k ≡ has cmp (pairs_at slots h child) k
        has_above =
            ap (λ l. has cmp l k) (whole ∙ parts)
            ∙ has_around cmp k (flat (pairs_at slots h) (take i node.children)) (pairs_at slots h child) (flat (pairs_at slots h) (drop (suc i) node.children)) smaller greater

        low_keys : AllBelow cmp k (flatten (take i pieces))
        low_keys =
            subst (AllBelow cmp k) (keys_of_flat (pairs_at slots h) (take i node.children) ∙ ap flatten (sym (keys_take (pairs_at slots h) node.children i)))
            (all_keys (λ x. cmp x k ≡ Less) (λ x. cmp x k ≡ Less) (λ x less. less) (flat (pairs_at slots h) (take i node.children)) smaller)

        high_keys : AllAbove cmp k (flatten (drop (suc i) pieces))
        high_keys =
            subst (AllAbove cmp k) (keys_of_flat (pairs_at slots h) (drop (suc i) node.children) ∙ ap flatten (sym (keys_drop (pairs_at slots h) node.children (suc i))))
            (all_keys (λ x. cmp x k ≡ Greater) (λ x. cmp x k ≡ Greater) (λ x more. more) (flat (pairs_at slots h) (drop (suc i) node.children)) greater)

        -- a rank below the child, carried on from the keys before it, is a rank below the node
        pub rank_above : {R : Type 0} (represents : R → K → List K → Type 0) (ranks : K → List K → R → Type 0) (rank next : R)
            → ((before : List K) (ps : List (List K)) → AllNonEmpty ps → AllZip is_summary (take i node.arguments) ps → IsStrictlySortedBy cmp (before ++ flatten ps) → AllBelow cmp k (before ++ flatten ps) → length (before ++ flatten ps) < 2 ^ 64 → represents rank k before → represents next k (before ++ flatten ps))
            → (outcome : Result R R) → RanksAmong cmp represents ranks k next (keys_of (pairs_at slots h child)) outcome → RanksAmong cmp represents ranks k rank (keys_of (pairs_at slots (suc h) (kind.Inner id))) outcome
        rank_above represents ranks rank next carries outcome there before after sorted low high long stored =
            let front = flatten (take i pieces) in
            let back = flatten (drop (suc i) pieces) in
            let keys = keys_of (pairs_at slots h child) in
            let within' : i < length pieces = omega (arith, within, length-map node.children (λ c. keys_of (pairs_at slots h c))) in
            let cut : keys_of (pairs_at slots (suc h) (kind.Inner id)) ≡ front ++ (keys ++ back) = whole_keys ∙ (flatten-cut pieces i within' ∙ ap (λ p. front ++ (p ++ back)) piece) in
            let all : before ++ (keys_of (pairs_at slots (suc h) (kind.Inner id)) ++ after) ≡ (before ++ front) ++ (keys ++ (back ++ after)) = ap (λ l. before ++ (l ++ after)) cut ∙ (simp append_assoc) in
            let sorted' = subst (IsStrictlySortedBy cmp) all sorted in
            let long' = subst (λ l. length l < 2 ^ 64) all long in
            let low' = AllByRecursion-append (λ x. cmp x k ≡ Less) before front low low_keys in
            let high' = AllByRecursion-append (λ x. cmp x k ≡ Greater) back after high_keys high in
            let stands' = carries before (take i pieces) (all_take (λ p. 0 < length p) i pieces are_pieces.nonempty) (AllZip-take is_summary i node.arguments pieces summaries) (sorted_left cmp (before ++ front) (keys ++ (back ++ after)) sorted') low' (omega (arith, long', length-append (before ++ front) (keys ++ (back ++ after)))) stored in
            rw all (there (before ++ front) (back ++ after) sorted' low' high' long' stands')

    module _ {Q : Type 0} (selects : Q → List K → Option ℕ → Type 0) (query : Q) (outcome : Option (ℕ × Q)) (arguments : List A) (is : arguments ≡ node.arguments)
        (clause : (ps : List (List K)) → ArePieces cmp ps → AllZip is_summary arguments ps → LeadsTo selects query ps outcome) where
      led : LeadsTo selects query pieces outcome
      led = clause pieces are_pieces (subst (λ l. AllZip is_summary l pieces) (sym is) summaries)

      pub led_within : (i : ℕ) (next : Q) → outcome ≡ Some (i, next) → i < length node.children
      led_within i next some = let l = (subst (LeadsTo selects query pieces) some led).0 in omega (arith, l, length-map node.children (λ c. keys_of (pairs_at slots h c)))

      pub led_nowhere : outcome ≡ None → IsSelectedAt selects query slots (suc h) (kind.Inner id) None
      led_nowhere none = subst (λ keys. selects query keys None) (sym whole_keys) (subst (LeadsTo selects query pieces) none led)

      pub led_on : (i : ℕ) (next : Q) → outcome ≡ Some (i, next) → (child : NodeId) → slice_get node.children i ≡ Some child → (found : Option Position) → IsSelectedAt selects next slots h child found → IsSelectedAt selects query slots (suc h) (kind.Inner id) found
      led_on i next some child read found selected = selected_above i child (led_within i next some) read selects query next (subst (LeadsTo selects query pieces) some led) found selected

  -- the lemmas above at a height h, with the child at the height h - 1
  pub down : (h : ℕ) → suc h - 1 ≡ h
  down h = omega arith

  pub child_subtree : (h : ℕ) (id : InnerNodeId) (node : Inner K A) → IsSubtree cmp is_summary slots h (kind.Inner id) → slots.inner id.0 ≡ Present node → (i : ℕ) (child : NodeId) → i < length node.children → slice_get node.children i ≡ Some child → IsSubtree cmp is_summary slots (h - 1) child
  child_subtree zero id node s e i child within read = absurd s.stored.tree
  child_subtree (suc h) id node s e i child within read = rw (down h) (below h id node s e i child within read)

  pub leaf_whole : (h : ℕ) (id : LeafNodeId) (node : Leaf K V) → IsSubtree cmp is_summary slots h (kind.Leaf id) → slots.leaf id.0 ≡ Present node → pairs_at slots h (kind.Leaf id) ≡ node.pairs
  leaf_whole zero id node s e = ap leaf_pairs e
  leaf_whole (suc h) id node s e = absurd s.stored.tree

  pub leaf_sorted : (h : ℕ) (id : LeafNodeId) (node : Leaf K V) → IsSubtree cmp is_summary slots h (kind.Leaf id) → slots.leaf id.0 ≡ Present node → IsAscending cmp node.pairs
  leaf_sorted zero id node s e = subst (λ (x : Slot (Leaf K V)). IsAscending cmp (leaf_pairs x)) e s.stored.tree.2
  leaf_sorted (suc h) id node s e = absurd s.stored.tree

  -- a rank that was carried on from no keys ranks k among the keys of the tree
  pub ranked_alone : {R : Type 0} (represents : R → K → List K → Type 0) (ranks : K → List K → R → Type 0) (k : K) (rank : R) → represents rank k [] → (h : ℕ) (id : NodeId) → IsSubtree cmp is_summary slots h id → (outcome : Result R R)
      → RanksAmong cmp represents ranks k rank (keys_of (pairs_at slots h id)) outcome → MatchResult outcome (ranks k (keys_of (pairs_at slots h id))) (ranks k (keys_of (pairs_at slots h id)))
  ranked_alone represents ranks k rank stored h id s outcome there =
      let keys = keys_of (pairs_at slots h id) in
      let same : keys ≡ keys ++ [] = sym (append-nil keys) in
      let sorted : IsStrictlySortedBy cmp keys = tree_ascends total slots s.stored.least h id s.stored.low s.stored.high s.stored.tree in
      let long : length keys < 2 ^ 64 = omega (arith, s.fits, length-keys_of (pairs_at slots h id)) in
      subst (λ l. MatchResult outcome (ranks k l) (ranks k l)) (append-nil keys)
      (there [] [] (subst (IsStrictlySortedBy cmp) same sorted) tt tt (subst (λ l. length l < 2 ^ 64) same long) stored)

  -- a position selected in a leaf that was read is that of a pair of the whole
  pub pair_selected : {Q : Type 0} (selects : Q → List K → Option ℕ → Type 0) (query : Q) (h : ℕ) (id : NodeId) (leaf : LeafNodeId) (slot : ℕ) (node : Leaf K V) (key : K) (value : V) → slots.leaf leaf.0 ≡ Present node → slice_get node.pairs slot ≡ Some (key, value)
      → IsSelectedAt selects query slots h id (Some (record { leaf = leaf; slot = slot })) → IsSelected selects query (pairs_at slots h id) (Some (key, value))
  pair_selected selects query h id leaf slot node key value e read (stored, short, selected) =
      let before = pairs_of slots stored.before in
      let after = pairs_of slots stored.after in
      let long : slot < length node.pairs = slice_get_within node.pairs slot (key, value) read in
      let cut : pairs_at slots h id ≡ before ++ (node.pairs ++ after) = parts_of_read slots h id leaf stored node e in (
        Some (length before + slot),
        omega (arith, long, ap length cut, length-append before (node.pairs ++ after), length-append node.pairs after),
        selected,
        sym (ap (λ l. slice_get l (length before + slot)) cut ∙ (get_past before (node.pairs ++ after) slot ∙ (get_early node.pairs after slot long ∙ read))),
      )

  -- a whole tree whose length fits in 64 bits is a subtree with its summaries
  pub whole_subtree : (h : ℕ) (root : NodeId) (len : ℕ) → IsWellShaped cmp is_summary slots h root → len ≡ length (pairs_at slots h root) → len < 2 ^ 64 → IsSubtree cmp is_summary slots h root
  whole_subtree h root len shape is fits = record {
    stored = record { least = root_least h; low = None; high = None; tree = shape.tree };
    summed = shape.summed;
    fits = omega (arith, is, fits);
  }

-- the whole tree, as the value in contracts, is a subtree with its summaries
pub known_subtree : {S K V A : Type 0} {cmp : K → K → Ordering} {is_summary : A → List K → Type 0} (slots : S → Slots (Inner K A) (Leaf K V)) {tree : NodeTree S K V A} → IsWhole cmp is_summary slots tree → length tree.contents < 2 ^ 64 → IsSubtree cmp is_summary (slots tree.store) tree.height tree.root
known_subtree slots {tree} whole fits = record {
  stored = record { least = root_least tree.height; low = None; high = None; tree = whole.shape.tree };
  summed = whole.shape.summed;
  fits = omega (arith, ap length whole.contents, fits);
}
