-- The start of a group below a node, and the position of one of its pairs in a leaf.
use Rattle.std.proofs.Common.{◌≡◌, ℕ, zero, suc, ◌+◌, ◌-◌, ◌<◌, ◌≤◌, ◌⊎◌, inl, inr, Bool, true, false, cond, List, [], ◌∷◌, ◌++◌, length, filter, take, drop, min, get_or, refl, sym, ap, subst, ◌∙◌, arith, Option, Some, None, length-append, length-drop, slice_get}
use Rattle.std.specs.declared.cmp.Ordering.{Ordering}
use Rattle.std.specs.Ordering.{is_gt}
use Rattle.std.specs.Cmp.{IsTotalOrder}
use Rattle.std.specs.Map.{keys_of}
use Rattle.std.proofs.lemmas.List.{length-take}
use Rattle.std.proofs.lemmas.Map.Entries.{length-keys_of}
use Rattle.std.proofs.lemmas.List.Elements.{filter-append}
use Rattle.std.proofs.lemmas.Option.{get_or_from_slice_get}
use Rattle.bptree_arguments.specs.GroupResults.{IsGroupBorder, is_before}
use Rattle.bptree_arguments.specs.Groups.{of_group}
use Rattle.bptree_keys.specs.Contents.{IsAscending}
use Rattle.bptree_keys.specs.Ranges.{part}
use Rattle.bptree_keys.specs.declared.node_id.InnerNodeId.{InnerNodeId}
use Rattle.bptree_keys.specs.declared.node_id.LeafNodeId.{LeafNodeId}
use Rattle.bptree_keys.specs.declared.node_id.Position.{Position}
use Rattle.bptree_keys.specs.declared.node_id.NodeId.{NodeId}
use Rattle.bptree_keys.specs.declared.node_id.NodeId.TheVariants as kind
use Rattle.bptree_keys.proofs.PieceLemmas.{AllByRecursion-right}
use Rattle.bptree_nodes.specs.Inner.{Inner}
use Rattle.bptree_nodes.specs.Leaf.{Leaf}
use Rattle.bptree_nodes.specs.Slot.{Slot, Slots, Present}
use Rattle.bptree_ranges.specs.Indexes.{before_entry, before_group, IsIndexInGroup, IsSkipped}
use Rattle.bptree_ranges.specs.declared.indexes.Skipped.{Skipped}
use Rattle.bptree_ranges.specs.declared.indexes.Skipped.TheVariants.{Found, Short}
use Rattle.bptree_invariant.specs.Leaves.{pairs_of}
use Rattle.bptree_invariant.specs.Order.{flat, Chain}
use Rattle.bptree_invariant.specs.Shape.{leaf_pairs, inner_keys, inner_children, pairs_at, IsTree, IsWellShaped}
use Rattle.bptree_invariant.proofs.Between.{Falls, none_pass}
use Rattle.bptree_invariant.proofs.Spot.{parts_of_read}
use Rattle.bptree_invariant.proofs.Walk.{flat_parts, tree_inside}
use Rattle.bptree_search.specs.ByArgument.{IsSubtree}
use Rattle.bptree_search.proofs.Child.{IsChildAt, border_child, separators_ascend}
use Rattle.bptree_search.proofs.Summed.{whole, down, leaf_sorted}
use Rattle.bptree_ranges.proofs.Bordered.{IsCut, every_pass, cut_counts, falls_all, chain_passes, chain_fails, key_falls, of_group_is, border_cut, leaf_cut}
use Rattle.bptree_ranges.proofs.Passing.{found, later_on, next_is}
use Rattle.bptree_ranges.proofs.Ranged.{start_is, size_of, contents_ascend, part_of_part}

-- lists in which the members that pass a test come first
module _ {X : Type 0} (t : X → Bool) where
  no_more : (l : List X) → length (filter t l) ≤ length l
  no_more [] = omega arith
  no_more (x ∷ l) = by (t x) (no_more l)
    where
      by : (b : Bool) → length (filter t l) ≤ length l → length (cond b (x ∷ filter t l) (filter t l)) ≤ length (x ∷ l)
      by true few = omega arith
      by false few = omega arith

  falls_behind : (xs ys : List X) → Falls t (xs ++ ys) → Falls t ys
  falls_behind [] ys falls = falls
  falls_behind (x ∷ xs) ys falls = falls_behind xs ys falls.1

  -- all members of the front pass, or no member after it does
  either_side : (xs ys : List X) → Falls t (xs ++ ys) → (length (filter t xs) ≡ length xs) ⊎ (filter t ys ≡ [])
  either_side [] ys falls = inl refl
  either_side (x ∷ xs) ys falls = by (t x) refl (either_side xs ys falls.1)
    where
      by : (b : Bool) → t x ≡ b → (length (filter t xs) ≡ length xs) ⊎ (filter t ys ≡ []) → (length (filter t (x ∷ xs)) ≡ length (x ∷ xs)) ⊎ (filter t ys ≡ [])
      by true e (inl all) = inl (rw e (ap suc all))
      by true e (inr none) = inr none
      by false e rest = inr (none_pass t ys (AllByRecursion-right (λ y. t y ≡ false) xs ys (falls.0 e)))

  module _ (a m b : List X) (falls : Falls t (a ++ (m ++ b))) (end slot : ℕ) (count : length (filter t m) ≡ end) where
    sum : length (filter t (a ++ (m ++ b))) ≡ length (filter t a) + (end + length (filter t b))
    sum =
        let one = ap length (filter-append t a (m ++ b)) in
        let other = ap length (filter-append t m b) in
        omega (arith, one, other, count, length-append (filter t a) (filter t (m ++ b)), length-append (filter t m) (filter t b))

    inside_end : slot < end → length a + slot < length (filter t (a ++ (m ++ b)))
    inside_end less =
        elim (either_side a (m ++ b) falls) [
          | inl all ↦ omega (arith, sum, all, less)
          | inr none ↦ absurd (omega (arith, less, count, ap length none, ap length (filter-append t m b), length-append (filter t m) (filter t b)))
        ]

    behind_end : end ≤ slot → slot < length m → length (filter t (a ++ (m ++ b))) ≤ length a + slot
    behind_end past short =
        elim (either_side m b (falls_behind a (m ++ b) falls)) [
          | inl all ↦ absurd (omega (arith, all, count, past, short))
          | inr none ↦ omega (arith, sum, ap length none, no_more a, past)
        ]

module _ {K G : Type 0} {cmp : K → K → Ordering} {R : G → G → Ordering} (total : IsTotalOrder cmp) (o : IsTotalOrder R) (group_of : K → G) (keeps : (x y : K) → is_gt (cmp x y) ≡ false → is_gt (R (group_of x) (group_of y)) ≡ false) (g : G) where
  -- whether a key is before the end of the group, or else before its start
  abbrev test : Bool → K → Bool
  test end k = is_before end (R (group_of k) g)

  falls_at : {V : Type 0} (end : Bool) (l : List (K × V)) → IsAscending cmp l → Falls (λ (p : K × V). test end p.0) l
  falls_at end l ascending = falls_all total (test end) (key_falls total o group_of keeps g end) l ascending

  size_of_group : {V : Type 0} (l : List (K × V)) → IsAscending cmp l → length (of_group R group_of g l) ≡ length (filter (λ (p : K × V). test true p.0) l) - before_group R group_of g l
  size_of_group {V} l ascending =
      let b = before_group R group_of g l in
      let e = length (filter (λ (p : K × V). test true p.0) l) in
      let is = ap length (of_group_is total o group_of keeps g l b e ascending refl refl) in
      omega (arith, is, length-take (e - b) (drop b l), length-drop b l, no_more (λ (p : K × V). test true p.0) l)

  -- the pairs from a pair of the group to the group's end are the rest of the group
  pub rest_of_group : {V : Type 0} (l : List (K × V)) (at j i n : ℕ) → IsAscending cmp l → at ≡ before_group R group_of g l + i → i < length (of_group R group_of g l) → j ≡ length (filter (λ (p : K × V). test true p.0) l) → (at ≤ j) × (part l at (min n (j - at)) ≡ part (of_group R group_of g l) i n)
  rest_of_group l at j i n ascending here more there =
      let b = before_group R group_of g l in
      let is = of_group_is total o group_of keeps g l b j ascending refl there in
      let more' : i < j - b = omega (arith, more, ap length is, length-take (j - b) (drop b l)) in
      let rest : j - at ≡ (j - b) - i = omega (arith, here, more') in (
        omega (arith, here, more'),
        ap (λ m. part l at (min n m)) rest ∙ (ap (λ k. part l k (min n ((j - b) - i))) here ∙ (sym (part_of_part l b (j - b) i n more') ∙ ap (λ l'. part l' i n) (sym is))),
      )

  module _ {V A : Type 0} (slots : Slots (Inner K A) (Leaf K V)) (is_summary : A → List K → Type 0) where
    -- the start of a group below a node is its start below the child that the group leads to
    module _ (h : ℕ) (id : InnerNodeId) (node : Inner K A) (s : IsSubtree cmp is_summary slots (suc h) (kind.Inner id)) (e : slots.inner id.0 ≡ Present node) where
      chain : Chain cmp (IsTree cmp slots 16 h) node.keys node.children s.stored.low s.stored.high
      chain = subst (λ (x : Slot (Inner K A)). Chain cmp (IsTree cmp slots 16 h) (inner_keys x) (inner_children x) s.stored.low s.stored.high) e s.stored.tree.1

      begins_here : (i : ℕ) (child : NodeId) → i < length node.children → slice_get node.children i ≡ Some child → IsCut (test false) node.keys i → before_group R group_of g (pairs_at slots (suc h) (kind.Inner id)) ≡ before_entry slots (suc h) (kind.Inner id) i + before_group R group_of g (pairs_at slots h child)
      begins_here i child within read parts' =
          let f = pairs_at slots h in
          let t = λ (p : K × V). test false p.0 in
          let inside = λ (c : NodeId) (a b : Option K) (u : IsTree cmp slots 16 h c a b). tree_inside total slots 16 h c a b u in
          let left = flat f (take i node.children) in
          let right = flat f (drop (suc i) node.children) in
          let same : get_or node.children i child ≡ child = get_or_from_slice_get node.children i child child read in
          let parts : pairs_at slots (suc h) (kind.Inner id) ≡ left ++ (f child ++ right) = whole total is_summary slots h id node s e ∙ (flat_parts f node.children i child within ∙ ap (λ c. left ++ (f c ++ right)) same) in
          let all : filter t left ≡ left = every_pass t left (chain_passes total (test false) (key_falls total o group_of keeps g false) f (IsTree cmp slots 16 h) inside node.keys node.children s.stored.low s.stored.high i chain parts'.within parts'.pass) in
          let none : filter t right ≡ [] = none_pass t right (chain_fails total (test false) (key_falls total o group_of keeps g false) f (IsTree cmp slots 16 h) inside node.keys node.children s.stored.low s.stored.high i chain parts'.within parts'.fail) in
          let is : before_entry slots (suc h) (kind.Inner id) i ≡ length left = ap (λ (x : Slot (Inner K A)). length (flat f (take i (inner_children x)))) e in
          let cut : length (filter t (pairs_at slots (suc h) (kind.Inner id))) ≡ length (filter t left) + length (filter t (f child ++ right)) = ap (λ l. length (filter t l)) parts ∙ (ap length (filter-append t left (f child ++ right)) ∙ length-append (filter t left) (filter t (f child ++ right))) in
          let rest : length (filter t (f child ++ right)) ≡ length (filter t (f child)) + length (filter t right) = ap length (filter-append t (f child) right) ∙ length-append (filter t (f child)) (filter t right) in
          omega (arith, cut, rest, is, ap length all, ap length none)

    module _ (top : NodeId) (id : InnerNodeId) (node : Inner K A) (n : ℕ) (child : NodeId) where
      begins : (h : ℕ) → IsChildAt cmp is_summary slots h top id node n child → IsCut (test false) node.keys n → before_group R group_of g (pairs_at slots h top) ≡ before_entry slots h top n + before_group R group_of g (pairs_at slots (h - 1) child)
      begins zero there parts = absurd there.at.subtree.stored.tree
      begins (suc h) there parts = rw (there.at.is, down total is_summary slots h) (begins_here h id node there.at.subtree there.at.read n child there.within there.child_is parts)

    -- a walk from the start of the group ends below that child, or else after it
    module _ (h : ℕ) (top : NodeId) (id : InnerNodeId) (node : Inner K A) (s : IsSubtree cmp is_summary slots h top) (is : top ≡ kind.Inner id) (e : slots.inner id.0 ≡ Present node)
        (given : List K) (n : ℕ) (are : given ≡ node.keys) (few : n ≤ length given) (border : IsGroupBorder cmp R group_of g false given n) (child : NodeId) (read : slice_get node.children n ≡ Some child) where
      there : IsChildAt cmp is_summary slots h top id node n child
      there = border_child total is_summary slots h top id node s is e given n are few child read

      starts : before_group R group_of g (pairs_at slots h top) ≡ before_entry slots h top n + before_group R group_of g (pairs_at slots (h - 1) child)
      starts = begins top id node n child h there (border_cut total o group_of keeps g false node.keys given n are (separators_ascend total is_summary slots h top id node there.at) few border)

      pub found_in_child : (i : ℕ) (index : Position) → IsSkipped slots (h - 1) child (before_group R group_of g (pairs_at slots (h - 1) child)) i (Found index) → IsSkipped slots h top (before_group R group_of g (pairs_at slots h top)) i (Found index)
      found_in_child i index below =
          found total is_summary slots top id node n h child there (before_group R group_of g (pairs_at slots (h - 1) child)) i (before_group R group_of g (pairs_at slots h top)) i index (omega (arith, starts)) below

      pub found_behind : (i rest : ℕ) (skipped : Skipped) → IsSkipped slots (h - 1) child (before_group R group_of g (pairs_at slots (h - 1) child)) i (Short rest) → IsSkipped slots h (kind.Inner id) (before_entry slots h (kind.Inner id) (n + 1)) rest skipped → IsSkipped slots h top (before_group R group_of g (pairs_at slots h top)) i skipped
      found_behind i rest skipped short behind =
          let behind' = subst (λ t. IsSkipped slots h t (before_entry slots h t (n + 1)) rest skipped) (sym is) behind in
          later_on total is_summary slots h top (before_group R group_of g (pairs_at slots h top)) (before_entry slots h top (n + 1)) rest i (omega (arith, starts, next_is total is_summary slots top id node n h child there, short)) skipped behind'

    -- if the tree is a leaf, a walk from the group's start in that leaf is one over the tree
    pub found_in_leaf : (h : ℕ) (top : NodeId) (id : LeafNodeId) (node : Leaf K V) → IsSubtree cmp is_summary slots h top → top ≡ kind.Leaf id → slots.leaf id.0 ≡ Present node → (given : List K) (n : ℕ) → given ≡ keys_of node.pairs → n ≤ length given → IsGroupBorder cmp R group_of g false given n
        → (i : ℕ) (skipped : Skipped) → IsSkipped slots h (kind.Leaf id) (before_entry slots h (kind.Leaf id) n) i skipped → IsSkipped slots h top (before_group R group_of g (pairs_at slots h top)) i skipped
    found_in_leaf zero top id node s is e given n are few found i skipped there =
        let s' : IsSubtree cmp is_summary slots zero (kind.Leaf id) = rw is at s in
        let parts = border_cut total o group_of keeps g false (keys_of node.pairs) given n are (leaf_sorted total is_summary slots zero id node s' e) few found in
        let long : length (leaf_pairs (slots.leaf id.0)) ≡ length node.pairs = ap (λ (x : Slot (Leaf K V)). length (leaf_pairs x)) e in
        let count : before_group R group_of g (leaf_pairs (slots.leaf id.0)) ≡ n = ap (λ (x : Slot (Leaf K V)). before_group R group_of g (leaf_pairs x)) e ∙ cut_counts (test false) node.pairs n parts in
        let same : before_entry slots zero (kind.Leaf id) n ≡ before_group R group_of g (pairs_at slots zero (kind.Leaf id)) = omega (arith, long, count, parts.within, length-keys_of node.pairs) in
        rw is (subst (λ m. IsSkipped slots zero (kind.Leaf id) m i skipped) same there)
    found_in_leaf (suc h) top id node s is e given n are few found i skipped there = absurd (rw is at s.stored.tree)

    -- a walk over the whole tree finds the position of a pair of the group
    module _ (h : ℕ) (root : NodeId) (shape : IsWellShaped cmp is_summary slots h root) (i : ℕ) where
      abbrev pairs : List (K × V)
      pairs = pairs_at slots h root

      ascending : IsAscending cmp pairs
      ascending = contents_ascend is_summary slots h root shape total

      pub group_short : (n : ℕ) → IsSkipped slots h root (before_group R group_of g pairs) i (Short n) → IsIndexInGroup slots R group_of g h root i None
      group_short n all = omega (arith, size_of_group pairs ascending, no_more (λ (p : K × V). test true p.0) pairs, all)

      module _ (leaf : LeafNodeId) (slot end : ℕ) (node : Leaf K V) (there : IsSkipped slots h root (before_group R group_of g pairs) i (Found (record { leaf = leaf; slot = slot }))) (e : slots.leaf leaf.0 ≡ Present node)
          (given : List K) (are : given ≡ keys_of node.pairs) (few : end ≤ length given) (found' : IsGroupBorder cmp R group_of g true given end) where
        ends_there : length (filter (λ (p : K × V). test true p.0) node.pairs) ≡ end
        ends_there = cut_counts (test true) node.pairs end (leaf_cut total o group_of keeps g is_summary slots h root shape leaf node there.0 e true given end are few found')

        abbrev front : List (K × V)
        front = pairs_of slots there.0.before

        abbrev back : List (K × V)
        back = pairs_of slots there.0.after

        cut : pairs ≡ front ++ (node.pairs ++ back)
        cut = parts_of_read slots h root leaf there.0 node e

        falls : Falls (λ (p : K × V). test true p.0) (front ++ (node.pairs ++ back))
        falls = subst (Falls (λ (p : K × V). test true p.0)) cut (falls_at true pairs ascending)

        ends : length (filter (λ (p : K × V). test true p.0) pairs) ≡ length (filter (λ (p : K × V). test true p.0) (front ++ (node.pairs ++ back)))
        ends = ap (λ l. length (filter (λ (p : K × V). test true p.0) l)) cut

        pub in_group : slot < end → IsIndexInGroup slots R group_of g h root i (Some (record { leaf = leaf; slot = slot }))
        in_group less =
            let inside = inside_end (λ (p : K × V). test true p.0) front node.pairs back falls end slot ends_there less in
            let short = there.1 in
            let at = there.2 in (
              record { stored = there.0; within = omega (arith, short) },
              omega (arith, start_is is_summary slots h root shape leaf there.0, at),
              omega (arith, size_of_group pairs ascending, ends, inside, at),
            )

        pub past_group : end ≤ slot → IsIndexInGroup slots R group_of g h root i None
        past_group past =
            let small : slot < length node.pairs = omega (arith, there.1, size_of is_summary slots h root shape leaf node e) in
            let behind = behind_end (λ (p : K × V). test true p.0) front node.pairs back falls end slot ends_there past small in
            omega (arith, size_of_group pairs ascending, ends, behind, there.2)
