-- The leaf in which the keys end that pass a test, if no key passes it that is above one that
-- doesn't.
use Rattle.std.proofs.Common.{◌≡◌, ℕ, zero, suc, ◌+◌, ◌-◌, ◌<◌, ◌≤◌, Bool, true, false, not, ◌&&◌, List, [], ◌∷◌, ◌++◌, length, map, filter, take, drop, refl, sym, ap, subst, ◌∙◌, arith, Option, Some, slice_get, length-append}
use mathlib.Core.Bool.{true≢false}
use Rattle.std.specs.declared.cmp.Ordering.{Ordering}
use Rattle.std.specs.declared.cmp.Ordering.TheVariants.{Less, Equal, Greater}
use Rattle.std.specs.Ordering.{is_eq, is_gt, is_lt}
use Rattle.std.specs.Cmp.{IsTotalOrder}
use Rattle.std.specs.List.{AllByRecursion}
use Rattle.std.specs.Map.{keys_of}
use Rattle.std.proofs.lemmas.List.Elements.{filter-append}
use Rattle.std.specs.List.Sorted.{IsStrictlySortedBy}
use Rattle.std.proofs.lemmas.Map.Entries.{length-keys_of}
use Rattle.std.proofs.lemmas.Map.Keys.{sorted_head, sorted_tail}
use Rattle.bptree_arguments.specs.GroupResults.{IsBorderOf, IsGroupBorder, is_before}
use Rattle.bptree_arguments.specs.Groups.{of_group}
use Rattle.bptree_arguments.proofs.GroupOrderLemmas.{before_below}
use Rattle.bptree_nodes.specs.Inner.{Inner}
use Rattle.bptree_nodes.specs.Leaf.{Leaf}
use Rattle.bptree_nodes.specs.Slot.{Slots, Present}
use Rattle.bptree_keys.specs.Contents.{IsAscending}
use Rattle.bptree_keys.specs.Ranges.{part}
use Rattle.bptree_keys.specs.declared.node_id.InnerNodeId.{InnerNodeId}
use Rattle.bptree_keys.specs.declared.node_id.LeafNodeId.{LeafNodeId}
use Rattle.bptree_keys.specs.declared.node_id.NodeId.{NodeId}
use Rattle.bptree_keys.specs.declared.node_id.NodeId.TheVariants as kind
use Rattle.bptree_keys.proofs.Ascending.{all_pairs, less_turned}
use Rattle.bptree_keys.proofs.PieceLemmas.{AllByRecursion-append, AllByRecursion-weaker}
use Rattle.bptree_invariant.specs.Leaves.{pairs_of, IsStored, IsLeafOf, IsBorderLeaf}
use Rattle.bptree_invariant.specs.Order.{flat, Within, Chain}
use Rattle.bptree_ranges.specs.Ranges.{start, IsIndexOn}
use Rattle.bptree_invariant.specs.Shape.{leaf_pairs, pairs_at, leaves_at, IsTree, IsWellShaped}
use Rattle.bptree_invariant.proofs.Between.{Falls, cut, none_pass}
use Rattle.bptree_invariant.proofs.Down.{inner_at, node_children, pairs_of_all, is_stored_above}
use Rattle.bptree_invariant.proofs.Ordered.{by_cases, not_less_back}
use Rattle.bptree_ranges.proofs.Ranged.{contents_ascend, filter_fewer, size_of, start_is}
use Rattle.bptree_invariant.proofs.Spot.{leaf_ascends, parts_of_read}
use Rattle.bptree_invariant.proofs.Walk.{flat-append, chain_inside, tree_inside}

-- a property of the first n results of a function, or of the later ones, is one of the members they
-- come from
module _ {X Y : Type 0} (P : Y → Type 0) (f : X → Y) where
  first_made : (n : ℕ) (xs : List X) → AllByRecursion P (take n (map f xs)) → AllByRecursion (λ x. P (f x)) (take n xs)
  first_made zero xs all = tt
  first_made (suc n) [] all = tt
  first_made (suc n) (x ∷ xs) all = (all.0, first_made n xs all.1)

  made_from : (n : ℕ) (xs : List X) → AllByRecursion P (drop n (map f xs)) → AllByRecursion (λ x. P (f x)) (drop n xs)
  made_from zero [] all = tt
  made_from zero (x ∷ xs) all = (all.0, made_from zero xs all.1)
  made_from (suc n) [] all = tt
  made_from (suc n) (x ∷ xs) all = made_from n xs all

-- the first n keys pass a test, and no others do
pub record IsCut {K : Type 0} (test : K → Bool) (keys : List K) (n : ℕ) : Type 0 where
  pub within : n ≤ length keys
  pub pass : AllByRecursion (λ k. test k ≡ true) (take n keys)
  pub fail : AllByRecursion (λ k. test k ≡ false) (drop n keys)

pub every_pass : {X : Type 0} (test : X → Bool) (l : List X) → AllByRecursion (λ x. test x ≡ true) l → filter test l ≡ l
every_pass test [] all = refl
every_pass test (x ∷ l) all = rw all.0 (ap (λ more. x ∷ more) (every_pass test l all.1))

-- if the first n keys pass and no others do, n pairs pass
count_of_first : {K V : Type 0} (test : K → Bool) (l : List (K × V)) (n : ℕ) → n ≤ length l → AllByRecursion (λ k. test k ≡ true) (take n (keys_of l)) → AllByRecursion (λ k. test k ≡ false) (drop n (keys_of l)) → length (filter (λ (p : K × V). test p.0) l) ≡ n
count_of_first test [] n within pass fail = omega (arith, within)
count_of_first test (p ∷ l) zero within pass fail = rw fail.0 (count_of_first test l zero (omega arith) tt fail.1)
count_of_first test (p ∷ l) (suc n) within pass fail = rw pass.0 (ap suc (count_of_first test l n (omega (arith, within)) pass.1 fail))

pub cut_counts : {K V : Type 0} (test : K → Bool) (l : List (K × V)) (n : ℕ) → IsCut test (keys_of l) n → length (filter (λ (p : K × V). test p.0) l) ≡ n
cut_counts test l n parts = count_of_first test l n (omega (arith, parts.within, length-keys_of l)) parts.pass parts.fail

module _ {K : Type 0} {cmp : K → K → Ordering} (total : IsTotalOrder cmp) (test : K → Bool) (falls : (x y : K) → is_gt (cmp x y) ≡ false → test y ≡ true → test x ≡ true) where
  fails_from : (x y : K) → is_lt (cmp y x) ≡ false → test x ≡ false → test y ≡ false
  fails_from x y up low =
      by (test y) refl
    where
      not_above : is_gt (cmp x y) ≡ false
      not_above = by_cases (cmp x y) (λ e. ap is_gt e) (λ e. ap is_gt e) (λ e. absurd (true≢false (sym (ap is_lt (less_turned cmp total x y e)) ∙ up)))

      by : (b : Bool) → test y ≡ b → test y ≡ false
      by true e = absurd (true≢false (sym (falls x y not_above e) ∙ low))
      by false e = e

  pub falls_all : {V : Type 0} (l : List (K × V)) → IsAscending cmp l → Falls (λ (p : K × V). test p.0) l
  falls_all [] ascending = tt
  falls_all (p ∷ l) ascending = (
    (λ low. all_pairs (λ key. cmp p.0 key ≡ Less) (λ key. test key ≡ false) (λ key less. fails_from p.0 key (not_less_back total p.0 key less) low) l (sorted_head cmp p.0 (keys_of l) ascending)),
    falls_all l (sorted_tail cmp p.0 (keys_of l) ascending),
  )

  module _ {C V : Type 0} (f : C → List (K × V)) (P : C → Option K → Option K → Type 0) (inside : (c : C) (lo hi : Option K) → P c lo hi → AllByRecursion (λ p. Within cmp lo hi p.0) (f c)) where
    -- if the first i separators pass and no others do, the keys of the children before child i
    -- pass, and no key of a child after it does
    pub chain_passes : (ks : List K) (cs : List C) (lo hi : Option K) (i : ℕ) → Chain cmp P ks cs lo hi → i ≤ length ks → AllByRecursion (λ k. test k ≡ true) (take i ks) → AllByRecursion (λ (p : K × V). test p.0 ≡ true) (flat f (take i cs))
    chain_passes ks [] lo hi i h within all = absurd h
    chain_passes [] (c ∷ []) lo hi zero h within all = tt
    chain_passes [] (c ∷ []) lo hi (suc i) h within all = absurd (omega (arith, within))
    chain_passes [] (c ∷ d ∷ cs) lo hi i h within all = absurd h
    chain_passes (s ∷ ss) (c ∷ cs) lo hi zero h within all = tt
    chain_passes (s ∷ ss) (c ∷ cs) lo hi (suc i) h within all =
        AllByRecursion-append _ (f c) (flat f (take i cs))
        (AllByRecursion-weaker _ _ (λ p w. falls p.0 s (ap is_gt w.1) all.0) (f c) (inside c lo (Some s) h.0))
        (chain_passes ss cs (Some s) hi i h.2 (omega (arith, within)) all.1)

    pub chain_fails : (ks : List K) (cs : List C) (lo hi : Option K) (i : ℕ) → Chain cmp P ks cs lo hi → i ≤ length ks → AllByRecursion (λ k. test k ≡ false) (drop i ks) → AllByRecursion (λ (p : K × V). test p.0 ≡ false) (flat f (drop (suc i) cs))
    chain_fails ks [] lo hi i h within all = absurd h
    chain_fails [] (c ∷ []) lo hi zero h within all = tt
    chain_fails [] (c ∷ []) lo hi (suc i) h within all = absurd (omega (arith, within))
    chain_fails [] (c ∷ d ∷ cs) lo hi i h within all = absurd h
    chain_fails (s ∷ ss) (c ∷ cs) lo hi zero h within all =
        AllByRecursion-weaker _ _ (λ p w. fails_from s p.0 w.0 all.0) (flat f cs) (chain_inside total f P inside ss cs (Some s) hi h.2)
    chain_fails (s ∷ ss) (c ∷ cs) lo hi (suc i) h within all = chain_fails ss cs (Some s) hi i h.2 (omega (arith, within)) all

  module _ {V A : Type 0} (slots : Slots (Inner K A) (Leaf K V)) where
    -- the border below the child after the separators that pass is the border below the node
    border_above : (h : ℕ) (id : InnerNodeId) (node : Inner K A) (e : slots.inner id.0 ≡ Present node) (lo hi : Option K) (i : ℕ) (child : NodeId) (leaf : LeafNodeId) → Chain cmp (IsTree cmp slots 16 h) node.keys node.children lo hi → i ≤ length node.keys → i < length node.children
        → AllByRecursion (λ k. test k ≡ true) (take i node.keys) → AllByRecursion (λ k. test k ≡ false) (drop i node.keys) → slice_get node.children i ≡ Some child → IsBorderLeaf slots test h child leaf → IsBorderLeaf slots test (suc h) (kind.Inner id) leaf
    border_above h id node e lo hi i child leaf chain few within pass fail read below =
        let inside = λ (c : NodeId) (a b : Option K) (u : IsTree cmp slots 16 h c a b). tree_inside total slots 16 h c a b u in
        let left = flat (leaves_at slots h) (take i node.children) in
        let right = flat (leaves_at slots h) (drop (suc i) node.children) in
        record {
          stored = is_stored_above slots h id node e i child leaf within read below.stored;
          before =
              rw (flat-append (λ (l : LeafNodeId). leaf_pairs (slots.leaf l.0)) left below.stored.before, pairs_of_all slots h (take i node.children))
              (AllByRecursion-append (λ (p : K × V). test p.0 ≡ true) (flat (pairs_at slots h) (take i node.children)) (pairs_of slots below.stored.before)
              (chain_passes (pairs_at slots h) (IsTree cmp slots 16 h) inside node.keys node.children lo hi i chain few pass) below.before);
          behind =
              rw (flat-append (λ (l : LeafNodeId). leaf_pairs (slots.leaf l.0)) below.stored.after right, pairs_of_all slots h (drop (suc i) node.children))
              (AllByRecursion-append (λ (p : K × V). test p.0 ≡ false) (pairs_of slots below.stored.after) (flat (pairs_at slots h) (drop (suc i) node.children))
              below.behind (chain_fails (pairs_at slots h) (IsTree cmp slots 16 h) inside node.keys node.children lo hi i chain few fail));
        }

    -- the border below a child is the border below its node, at a height that the code knows
    pub border_node : (h : ℕ) (id : InnerNodeId) (node : Inner K A) (i : ℕ) (child : NodeId) → IsStored cmp slots h (kind.Inner id) → slots.inner id.0 ≡ Present node → IsCut test node.keys i → slice_get node.children i ≡ Some child → (leaf : LeafNodeId) → IsBorderLeaf slots test (h - 1) child leaf → IsBorderLeaf slots test h (kind.Inner id) leaf
    border_node h id node i child s e parts read leaf below =
        let at = inner_at total slots h id node s e in
        let down : h - 1 ≡ at.below = let up = at.above in omega arith in
        let long = node_children total slots h id node s e in
        subst (λ m. IsBorderLeaf slots test m (kind.Inner id) leaf) (sym at.above)
        (border_above at.below id node e at.low at.high i child leaf at.chain parts.within (omega (arith, long, parts.within)) parts.pass parts.fail read (subst (λ m. IsBorderLeaf slots test m child leaf) down below))

    -- a leaf is the border of its tree
    pub border_leaf : (h : ℕ) (id : LeafNodeId) → IsStored cmp slots h (kind.Leaf id) → IsBorderLeaf slots test h (kind.Leaf id) id
    border_leaf zero id s = record { stored = record { before = []; after = []; leaves = refl; present = s.tree.0 }; before = tt; behind = tt }
    border_leaf (suc h) id s = absurd s.tree

    -- the slot after the keys that pass in the border leaf is a position of the tree, after all
    -- pairs that pass
    pub border_index : (is_summary : A → List K → Type 0) (h : ℕ) (root : NodeId) (shape : IsWellShaped cmp is_summary slots h root) (leaf : LeafNodeId) (node : Leaf K V) → IsBorderLeaf slots test h root leaf → slots.leaf leaf.0 ≡ Present node
        → (n : ℕ) → IsCut test (keys_of node.pairs) n → IsIndexOn slots h root leaf n × (start slots h root leaf + n ≡ length (filter (λ (p : K × V). test p.0) (pairs_at slots h root)))
    border_index is_summary h root shape leaf node border here n parts =
        let in' = border.stored in
        let before = pairs_of slots in'.before in
        let after = pairs_of slots in'.after in
        let t = λ (p : K × V). test p.0 in
        let here' : length (filter t node.pairs) ≡ n = cut_counts test node.pairs n parts in
        let one : filter t before ≡ before = every_pass t before border.before in
        let other : filter t after ≡ [] = none_pass t after border.behind in
        let cut' : filter t (pairs_at slots h root) ≡ before ++ (filter t node.pairs ++ []) =
        ap (filter t) (parts_of_read slots h root leaf in' node here) ∙ (filter-append t before (node.pairs ++ after) ∙ (ap (λ l. l ++ filter t (node.pairs ++ after)) one ∙ ap (λ l. before ++ l) (filter-append t node.pairs after ∙ ap (λ l. filter t node.pairs ++ l) other))) in (
          record { stored = in'; within = omega (arith, parts.within, length-keys_of node.pairs, size_of is_summary slots h root shape leaf node here) },
          omega (arith, start_is is_summary slots h root shape leaf in', ap length cut', length-append before (filter t node.pairs ++ []), length-append (filter t node.pairs) [], here'),
        )

module _ {K G : Type 0} {cmp : K → K → Ordering} {R : G → G → Ordering} (total : IsTotalOrder cmp) (o : IsTotalOrder R) (group_of : K → G) (keeps : (x y : K) → is_gt (cmp x y) ≡ false → is_gt (R (group_of x) (group_of y)) ≡ false) (g : G) where
  -- whether a key is before the end of the group, or else before its start
  abbrev pub is_key_before : Bool → K → Bool
  is_key_before end k = is_before end (R (group_of k) g)

  pub key_falls : (end : Bool) (x y : K) → is_gt (cmp x y) ≡ false → is_key_before end y ≡ true → is_key_before end x ≡ true
  key_falls end x y up e = before_below o g end (group_of x) (group_of y) (keeps x y up) e

  eq_parts : (r : Ordering) → is_eq r ≡ (not (is_before false r) && is_before true r)
  eq_parts Less = refl
  eq_parts Equal = refl
  eq_parts Greater = refl

  -- the pairs of a group are those from its start to its end
  pub of_group_is : {V : Type 0} (l : List (K × V)) (i j : ℕ) → IsAscending cmp l → i ≡ length (filter (λ (p : K × V). is_before false (R (group_of p.0) g)) l) → j ≡ length (filter (λ (p : K × V). is_before true (R (group_of p.0) g)) l) → of_group R group_of g l ≡ part l i (j - i)
  of_group_is {V} l i j ascending e f =
      let one = λ (p : K × V). is_key_before false p.0 in
      let other = λ (p : K × V). is_key_before true p.0 in
      rw (e, f) (ap (λ t. filter t l) (λ i p. eq_parts (R (group_of p.0) g) i) ∙ cut one other l (falls_all total (is_key_before false) (key_falls false) l ascending) (falls_all total (is_key_before true) (key_falls true) l ascending))

  -- the border that a search finds among ascending keys divides them by the test
  pub border_cut : (end : Bool) (keys given : List K) (n : ℕ) → given ≡ keys → IsStrictlySortedBy cmp keys → n ≤ length given → IsGroupBorder cmp R group_of g end given n → IsCut (is_key_before end) keys n
  border_cut end keys given n is sorted few found =
      let border : IsBorderOf R g end (map group_of keys) n = (rw is at found) sorted in
      record {
        within = omega (arith, few, ap length is);
        pass = first_made (λ x. is_before end (R x g) ≡ true) group_of n keys border.before;
        fail = made_from (λ x. is_before end (R x g) ≡ false) group_of n keys border.from_there;
      }

  -- the border that a search finds among the keys of a leaf of a tree divides them by the test
  pub leaf_cut : {V A : Type 0} (is_summary : A → List K → Type 0) (slots : Slots (Inner K A) (Leaf K V)) (h : ℕ) (root : NodeId) → IsWellShaped cmp is_summary slots h root → (leaf : LeafNodeId) (node : Leaf K V) → IsLeafOf slots h root leaf → slots.leaf leaf.0 ≡ Present node
      → (end : Bool) (given : List K) (n : ℕ) → given ≡ keys_of node.pairs → n ≤ length given → IsGroupBorder cmp R group_of g end given n → IsCut (is_key_before end) (keys_of node.pairs) n
  leaf_cut is_summary slots h root shape leaf node in' e end given n is few found =
      border_cut end (keys_of node.pairs) given n is (leaf_ascends total slots h root leaf node in' (contents_ascend is_summary slots h root shape total) e) few found

before_begins : (r : Ordering) → is_before false r ≡ true → is_before true r ≡ true
before_begins Less e = refl
before_begins Equal e = absurd (true≢false (sym e))
before_begins Greater e = absurd (true≢false (sym e))

-- a group does not end before it begins
pub group_rises : {K V G : Type 0} (R : G → G → Ordering) (group_of : K → G) (g : G) (l : List (K × V)) → length (filter (λ (p : K × V). is_before false (R (group_of p.0) g)) l) ≤ length (filter (λ (p : K × V). is_before true (R (group_of p.0) g)) l)
group_rises {K} {V} R group_of g l = filter_fewer (λ (p : K × V). is_before false (R (group_of p.0) g)) (λ (p : K × V). is_before true (R (group_of p.0) g)) l (λ p. before_begins (R (group_of p.0) g))
