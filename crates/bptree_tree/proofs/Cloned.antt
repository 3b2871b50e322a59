-- A store of clones: its tree has equal keys in the same order, the clones of the values, and the
-- same shape.
use Rattle.std.proofs.Common.{◌≡◌, ℕ, zero, suc, ◌+◌, List, [], ◌∷◌, length, map, refl, sym, ap, ◌∙◌, arith, Option, Some, None, cond, eqb, ◌||◌}
use Rattle.std.specs.declared.cmp.Ordering.{Ordering}
use Rattle.std.specs.declared.cmp.Ordering.TheVariants.{Less, Equal}
use Rattle.std.specs.Ordering.{is_eq, is_lt}
use Rattle.std.specs.Cmp.{IsTotalOrder}
use Rattle.std.specs.List.{AllByRecursion, AllZip}
use Rattle.std.specs.List.Sorted.{IsStrictlySortedBy}
use Rattle.std.specs.Map.{keys_of}
use Rattle.std.proofs.lemmas.Cmp.{alike_right}
use Rattle.std.proofs.lemmas.Map.Keys.{sorted_head, sorted_tail}
use Rattle.std.proofs.lemmas.Slice.Zip.{AllZip-long}
use Rattle.bptree_keys.specs.Contents.{has}
use Rattle.bptree_keys.proofs.Ascending.{ascending_cons}
use Rattle.bptree_keys.proofs.PieceLemmas.{AllZip-append}
use Rattle.bptree_nodes.specs.Clones.{IsInnerClone, IsLeafClone}
use Rattle.bptree_nodes.specs.Inner.{Inner}
use Rattle.bptree_nodes.specs.Leaf.{Leaf}
use Rattle.bptree_nodes.specs.Slot.{Slot, Slots, Free, Held, Present, IsPresent}
use Rattle.bptree_stores.specs.Clones.{IsSlotClone, IsSlotsClone}
use Rattle.bptree_keys.specs.declared.node_id.LeafNodeId.{LeafNodeId}
use Rattle.bptree_keys.specs.declared.node_id.NodeId.{NodeId}
use Rattle.bptree_keys.specs.declared.node_id.NodeId.TheVariants as kind
use Rattle.bptree_invariant.specs.Order.{flat, AtLeast, Under, AtMost, Within, Chain}
use Rattle.bptree_invariant.specs.Shape.{leaf_pairs, leaf_prev, leaf_next, inner_keys, inner_children, inner_arguments, pairs_at, leaves_at, leaf_count, inner_count, stored, AreLinked, IsSummed, IsTree, IsWellShaped, root_least}
use Rattle.bptree_invariant.proofs.Agreeing.{present_if_stored, stored_if_present, flat_same, total_same, each_keeps}
use Rattle.bptree_propagation.proofs.Alike.{every}

zip_weaker : {X Y : Type 0} (P Q : X → Y → Type 0) → ((x : X) (y : Y) → P x y → Q x y) → (xs : List X) (ys : List Y) → AllZip P xs ys → AllZip Q xs ys
zip_weaker P Q so [] [] all = tt
zip_weaker P Q so [] (y ∷ ys) all = absurd all
zip_weaker P Q so (x ∷ xs) [] all = absurd all
zip_weaker P Q so (x ∷ xs) (y ∷ ys) all = (so x y all.0, zip_weaker P Q so xs ys all.1)

-- a property of the members of one list holds of those of the other
zip_turns : {X Y : Type 0} (R : X → Y → Type 0) (P : X → Type 0) (Q : Y → Type 0) → ((x : X) (y : Y) → R x y → P x → Q y) → (xs : List X) (ys : List Y) → AllZip R xs ys → AllByRecursion P xs → AllByRecursion Q ys
zip_turns R P Q turns [] [] zipped all = tt
zip_turns R P Q turns [] (y ∷ ys) zipped all = absurd zipped
zip_turns R P Q turns (x ∷ xs) [] zipped all = absurd zipped
zip_turns R P Q turns (x ∷ xs) (y ∷ ys) zipped all = (turns x y zipped.0 all.0, zip_turns R P Q turns xs ys zipped.1 all.1)

zip_flat : {C X : Type 0} (R : X → X → Type 0) (f g : C → List X) (cs : List C) → AllByRecursion (λ c. AllZip R (f c) (g c)) cs → AllZip R (flat f cs) (flat g cs)
zip_flat R f g [] all = tt
zip_flat R f g (c ∷ cs) all = AllZip-append R (f c) (g c) (flat f cs) (flat g cs) all.0 (zip_flat R f g cs all.1)

module _ {K : Type 0} (cmp : K → K → Ordering) where
  -- keys that are equal, one by one
  abbrev AreEqual : List K → List K → Type 0
  AreEqual keys copies = AllZip (λ k c. cmp k c ≡ Equal) keys copies

  -- the bounds are equal, or both are absent
  abbrev AreBounds : Option K → Option K → Type 0
  AreBounds None None = Unit {0}
  AreBounds None (Some b) = ⊥
  AreBounds (Some a) None = ⊥
  AreBounds (Some a) (Some b) = cmp a b ≡ Equal

  module _ (total : IsTotalOrder cmp) where
    -- equal keys compare alike
    same_result : (k c a b : K) → cmp k c ≡ Equal → cmp a b ≡ Equal → cmp c b ≡ cmp k a
    same_result k c a b same bound = sym (total.congr k c b same) ∙ sym (alike_right total a b k bound)

    at_least : (lo lo' : Option K) (k c : K) → AreBounds lo lo' → cmp k c ≡ Equal → AtLeast cmp lo k → AtLeast cmp lo' c
    at_least None None k c bound same h = tt
    at_least None (Some b) k c bound same h = absurd bound
    at_least (Some a) None k c bound same h = absurd bound
    at_least (Some a) (Some b) k c bound same h = ap is_lt (same_result k c a b same bound) ∙ h

    under : (hi hi' : Option K) (k c : K) → AreBounds hi hi' → cmp k c ≡ Equal → Under cmp hi k → Under cmp hi' c
    under None None k c bound same h = tt
    under None (Some b) k c bound same h = absurd bound
    under (Some a) None k c bound same h = absurd bound
    under (Some a) (Some b) k c bound same h = same_result k c a b same bound ∙ h

    at_most : (hi hi' : Option K) (k c : K) → AreBounds hi hi' → cmp k c ≡ Equal → AtMost cmp hi k → AtMost cmp hi' c
    at_most None None k c bound same h = tt
    at_most None (Some b) k c bound same h = absurd bound
    at_most (Some a) None k c bound same h = absurd bound
    at_most (Some a) (Some b) k c bound same h = ap is_lt (same_result a b k c bound same) ∙ h

    chain_alike : {C : Type 0} (P Q : C → Option K → Option K → Type 0) (ks ks' : List K) (cs : List C) (lo hi lo' hi' : Option K) → AreEqual ks ks'
        → AllByRecursion (λ c. (a b a' b' : Option K) → AreBounds a a' → AreBounds b b' → P c a b → Q c a' b') cs
        → AreBounds lo lo' → AreBounds hi hi' → Chain cmp P ks cs lo hi → Chain cmp Q ks' cs lo' hi'
    chain_alike P Q ks ks' [] lo hi lo' hi' equal all low high h = absurd h
    chain_alike P Q [] [] (c ∷ []) lo hi lo' hi' equal all low high h = all.0 lo hi lo' hi' low high h
    chain_alike P Q [] (k' ∷ ks') (c ∷ []) lo hi lo' hi' equal all low high h = absurd equal
    chain_alike P Q [] ks' (c ∷ d ∷ cs) lo hi lo' hi' equal all low high h = absurd h
    chain_alike P Q (k ∷ ks) [] (c ∷ cs) lo hi lo' hi' equal all low high h = absurd equal
    chain_alike P Q (k ∷ ks) (k' ∷ ks') (c ∷ cs) lo hi lo' hi' equal all low high h = (
      all.0 lo (Some k) lo' (Some k') low equal.0 h.0,
      (at_least lo lo' k k' low equal.0 h.1.0, at_most hi hi' k k' high equal.0 h.1.1),
      chain_alike P Q ks ks' cs (Some k) hi (Some k') hi' equal.1 all.1 equal.0 high h.2,
    )

    ascending_alike : (keys copies : List K) → AreEqual keys copies → IsStrictlySortedBy cmp keys → IsStrictlySortedBy cmp copies
    unfolding IsStrictlySortedBy
    ascending_alike [] [] equal ascending = tt
    ascending_alike [] (c ∷ copies) equal ascending = absurd equal
    ascending_alike (k ∷ keys) [] equal ascending = absurd equal
    ascending_alike (k ∷ keys) (c ∷ copies) equal ascending =
        ascending_cons cmp c copies
        (zip_turns (λ x y. cmp x y ≡ Equal) (λ y. cmp k y ≡ Less) (λ y. cmp c y ≡ Less) (λ x y same less. same_result k c x y equal.0 same ∙ less) keys copies equal.1 (sorted_head cmp k keys ascending))
        (ascending_alike keys copies equal.1 (sorted_tail cmp k keys ascending))

module _ {N : Type 0} (node_clone : N → N → Type 0) where
  -- a relation of two free slots, of two held ones, and of a node and its clone
  of_slots : (P : Slot N → Slot N → Type 0) → P Free Free → P Held Held → ((node copy : N) → node_clone node copy → P (Present node) (Present copy)) → (old new : Slot N) → IsSlotClone node_clone old new → P old new
  of_slots P free held node Free new is = rw is free
  of_slots P free held node Held new is = rw is held
  of_slots P free held node (Present x) new is = rw is.1 (node x is.0 is.2)

  -- a node is in both slots or in neither, and one slot is held only with the other
  abbrev IsSlotAlike : Slot N → Slot N → Type 0
  IsSlotAlike old new = (stored new ≡ stored old) × (new ≡ Held → old ≡ Held)

  slot_alike : (old new : Slot N) → IsSlotClone node_clone old new → IsSlotAlike old new
  slot_alike = of_slots IsSlotAlike (refl, λ h. h) (refl, λ h. h) (λ node copy clone. (refl, λ h. cc))

module _ {K V : Type 0} (cmp : K → K → Ordering) (value_clone : V → V → Type 0) where
  -- a pair whose key is equal and whose value is a clone
  abbrev pub IsPairClone : K × V → K × V → Type 0
  IsPairClone p q = (cmp p.0 q.0 ≡ Equal) × value_clone p.1 q.1

  zip_keys : (pairs copies : List (K × V)) → AllZip IsPairClone pairs copies → AreEqual cmp (keys_of pairs) (keys_of copies)
  zip_keys [] [] all = tt
  zip_keys [] (q ∷ copies) all = absurd all
  zip_keys (p ∷ pairs) [] all = absurd all
  zip_keys (p ∷ pairs) (q ∷ copies) all = (all.0.0, zip_keys pairs copies all.1)

  -- the links of both leaves are equal, and the second's pairs are clones of the first's
  record LeafAlike (old new : Slot (Leaf K V)) : Type 0 where
    pairs : AllZip IsPairClone (leaf_pairs old) (leaf_pairs new)
    prev : leaf_prev new ≡ leaf_prev old
    next : leaf_next new ≡ leaf_next old

  module _ (key_clone : K → K → Type 0) (clone_is_equal : (x y : K) → key_clone x y → cmp x y ≡ Equal) where
    leaf_alike : (old new : Slot (Leaf K V)) → IsSlotClone (IsLeafClone key_clone value_clone) old new → LeafAlike old new
    leaf_alike =
        of_slots (IsLeafClone key_clone value_clone) LeafAlike (record { pairs = tt; prev = refl; next = refl }) (record { pairs = tt; prev = refl; next = refl }) (λ leaf copy clone. record {
          pairs = zip_weaker (λ p q. key_clone p.0 q.0 × value_clone p.1 q.1) IsPairClone (λ p q both. (clone_is_equal p.0 q.0 both.0, both.1)) leaf.pairs copy.pairs clone.pairs;
          prev = clone.links.0;
          next = clone.links.1;
        })

module _ {K A : Type 0} (cmp : K → K → Ordering) (argument_clone : A → A → Type 0) where
  -- both inner nodes have the same children and equal keys, and the second's arguments are clones
  record InnerAlike (old new : Slot (Inner K A)) : Type 0 where
    keys : AreEqual cmp (inner_keys old) (inner_keys new)
    arguments : AllZip argument_clone (inner_arguments old) (inner_arguments new)
    children : inner_children new ≡ inner_children old

  module _ (key_clone : K → K → Type 0) (clone_is_equal : (x y : K) → key_clone x y → cmp x y ≡ Equal) where
    inner_alike : (old new : Slot (Inner K A)) → IsSlotClone (IsInnerClone key_clone argument_clone) old new → InnerAlike old new
    inner_alike =
        of_slots (IsInnerClone key_clone argument_clone) InnerAlike (record { keys = tt; arguments = tt; children = refl }) (record { keys = tt; arguments = tt; children = refl }) (λ node copy clone. record {
          keys = zip_weaker key_clone (λ k c. cmp k c ≡ Equal) clone_is_equal node.keys copy.keys clone.keys;
          arguments = clone.arguments;
          children = clone.children;
        })

-- clones of summaries of some lists are summaries of lists of equal keys
summaries_alike : {C K A : Type 0} (cmp : K → K → Ordering) (is_summary : A → List K → Type 0) (argument_clone : A → A → Type 0)
    → ((a b : A) (keys copies : List K) → argument_clone a b → AllZip (λ k c. cmp k c ≡ Equal) keys copies → is_summary a keys → is_summary b copies)
    → (f g : C → List K) (was now : List A) (cs : List C) → AllZip argument_clone was now → AllByRecursion (λ c. AreEqual cmp (f c) (g c)) cs → AllZip is_summary was (map f cs) → AllZip is_summary now (map g cs)
summaries_alike cmp is_summary argument_clone reported f g [] [] [] clones equal all = tt
summaries_alike cmp is_summary argument_clone reported f g [] (b ∷ now) cs clones equal all = absurd clones
summaries_alike cmp is_summary argument_clone reported f g (a ∷ was) [] cs clones equal all = absurd clones
summaries_alike cmp is_summary argument_clone reported f g [] [] (c ∷ cs) clones equal all = absurd all
summaries_alike cmp is_summary argument_clone reported f g (a ∷ was) (b ∷ now) [] clones equal all = absurd all
summaries_alike cmp is_summary argument_clone reported f g (a ∷ was) (b ∷ now) (c ∷ cs) clones equal all =
    (reported a b (f c) (g c) clones.0 equal.0 all.0, summaries_alike cmp is_summary argument_clone reported f g was now cs clones.1 equal.1 all.1)

module _ {K V A : Type 0} {cmp : K → K → Ordering} (total : IsTotalOrder cmp) (is_summary : A → List K → Type 0) (key_clone : K → K → Type 0) (value_clone : V → V → Type 0) (argument_clone : A → A → Type 0)
    (clone_is_equal : (x y : K) → key_clone x y → cmp x y ≡ Equal)
    (clone_is_summary : (a b : A) (keys copies : List K) → argument_clone a b → AllZip (λ k c. cmp k c ≡ Equal) keys copies → is_summary a keys → is_summary b copies)
    (old new : Slots (Inner K A) (Leaf K V)) (is : IsSlotsClone (IsInnerClone key_clone argument_clone) (IsLeafClone key_clone value_clone) old new) where
  leaf : (n : ℕ) → LeafAlike cmp value_clone (old.leaf n) (new.leaf n)
  leaf n = leaf_alike cmp value_clone key_clone clone_is_equal (old.leaf n) (new.leaf n) (is.leaf n)

  inner : (n : ℕ) → InnerAlike cmp argument_clone (old.inner n) (new.inner n)
  inner n = inner_alike cmp argument_clone key_clone clone_is_equal (old.inner n) (new.inner n) (is.inner n)

  leaf_slot : (n : ℕ) → (stored (new.leaf n) ≡ stored (old.leaf n)) × (new.leaf n ≡ Held → old.leaf n ≡ Held)
  leaf_slot n = slot_alike (IsLeafClone key_clone value_clone) (old.leaf n) (new.leaf n) (is.leaf n)

  inner_slot : (n : ℕ) → (stored (new.inner n) ≡ stored (old.inner n)) × (new.inner n ≡ Held → old.inner n ≡ Held)
  inner_slot n = slot_alike (IsInnerClone key_clone argument_clone) (old.inner n) (new.inner n) (is.inner n)

  -- the clone's pairs are clones of the pairs, in their order
  pub pairs_alike : (h : ℕ) (id : NodeId) → AllZip (IsPairClone cmp value_clone) (pairs_at old h id) (pairs_at new h id)
  pairs_alike zero (kind.Leaf id) = (leaf id.0).pairs
  pairs_alike zero (kind.Inner id) = tt
  pairs_alike (suc h) (kind.Leaf id) = tt
  pairs_alike (suc h) (kind.Inner id) =
      let cs = inner_children (old.inner id.0) in rw (inner id.0).children (zip_flat (IsPairClone cmp value_clone) (pairs_at old h) (pairs_at new h) cs (every _ (pairs_alike h) cs))

  keys_alike : (h : ℕ) (id : NodeId) → AreEqual cmp (keys_of (pairs_at old h id)) (keys_of (pairs_at new h id))
  keys_alike h id = zip_keys cmp value_clone (pairs_at old h id) (pairs_at new h id) (pairs_alike h id)

  leaves_same : (h : ℕ) (id : NodeId) → leaves_at new h id ≡ leaves_at old h id
  leaves_same zero (kind.Leaf id) = refl
  leaves_same zero (kind.Inner id) = refl
  leaves_same (suc h) (kind.Leaf id) = refl
  leaves_same (suc h) (kind.Inner id) = let cs = inner_children (old.inner id.0) in rw (inner id.0).children (flat_same (leaves_at old h) (leaves_at new h) cs (every _ (leaves_same h) cs))

  leaf_counts_same : (h : ℕ) (id : NodeId) (n : ℕ) → leaf_count new h id n ≡ leaf_count old h id n
  leaf_counts_same zero (kind.Leaf id) n = refl
  leaf_counts_same zero (kind.Inner id) n = refl
  leaf_counts_same (suc h) (kind.Leaf id) n = refl
  leaf_counts_same (suc h) (kind.Inner id) n =
      let cs = inner_children (old.inner id.0) in rw (inner id.0).children (total_same (λ c. leaf_count old h c n) (λ c. leaf_count new h c n) cs (every _ (λ c. leaf_counts_same h c n) cs))

  inner_counts_same : (h : ℕ) (id : NodeId) (n : ℕ) → inner_count new h id n ≡ inner_count old h id n
  inner_counts_same zero (kind.Leaf id) n = refl
  inner_counts_same zero (kind.Inner id) n = refl
  inner_counts_same (suc h) (kind.Leaf id) n = refl
  inner_counts_same (suc h) (kind.Inner id) n =
      let cs = inner_children (old.inner id.0) in
      rw (inner id.0).children (ap (λ m. cond (eqb id.0 n) 1 0 + m) (total_same (λ c. inner_count old h c n) (λ c. inner_count new h c n) cs (every _ (λ c. inner_counts_same h c n) cs)))

  present_alike : {N : Type 0} (x y : Slot N) → stored y ≡ stored x → IsPresent x → IsPresent y
  present_alike x y same present = present_if_stored y (omega (arith, same, stored_if_present x present))

  leaf_tree : (least : ℕ) (id : LeafNodeId) (lo hi lo' hi' : Option K) → AreBounds cmp lo lo' → AreBounds cmp hi hi' → IsTree cmp old least 0 (kind.Leaf id) lo hi → IsTree cmp new least 0 (kind.Leaf id) lo' hi'
  leaf_tree least id lo hi lo' hi' low high t =
      let a = leaf id.0 in
      let was = leaf_pairs (old.leaf id.0) in
      let now = leaf_pairs (new.leaf id.0) in
      let long : length now ≡ length was = AllZip-long (IsPairClone cmp value_clone) was now a.pairs in (
        present_alike (old.leaf id.0) (new.leaf id.0) (leaf_slot id.0).0 t.0,
        zip_turns (IsPairClone cmp value_clone) (λ p. Within cmp lo hi p.0) (λ p. Within cmp lo' hi' p.0) (λ p q both within. (at_least cmp total lo lo' p.0 q.0 low both.0 within.0, under cmp total hi hi' p.0 q.0 high both.0 within.1)) was now a.pairs t.1,
        ascending_alike cmp total (keys_of was) (keys_of now) (zip_keys cmp value_clone was now a.pairs) t.2,
        rw long t.3,
        rw long t.4,
      )

  tree_alike : (least h : ℕ) (id : NodeId) (lo hi lo' hi' : Option K) → AreBounds cmp lo lo' → AreBounds cmp hi hi' → IsTree cmp old least h id lo hi → IsTree cmp new least h id lo' hi'
  tree_alike least zero (kind.Leaf id) lo hi lo' hi' low high t = leaf_tree least id lo hi lo' hi' low high t
  tree_alike least zero (kind.Inner id) lo hi lo' hi' low high t = absurd t
  tree_alike least (suc h) (kind.Leaf id) lo hi lo' hi' low high t = absurd t
  tree_alike least (suc h) (kind.Inner id) lo hi lo' hi' low high t =
      let a = inner id.0 in
      let cs = inner_children (old.inner id.0) in
      let was = inner_keys (old.inner id.0) in
      let now = inner_keys (new.inner id.0) in
      let long : length now ≡ length was = AllZip-long (λ k c. cmp k c ≡ Equal) was now a.keys in (
        present_alike (old.inner id.0) (new.inner id.0) (inner_slot id.0).0 t.0,
        rw a.children (chain_alike cmp total (IsTree cmp old 16 h) (IsTree cmp new 16 h) was now cs lo hi lo' hi' a.keys (every _ (λ c a b a' b' l u s. tree_alike 16 h c a b a' b' l u s) cs) low high t.1),
        rw long t.2,
        rw long t.3,
      )

  summed_alike : (h : ℕ) (id : NodeId) → IsSummed old is_summary h id → IsSummed new is_summary h id
  summed_alike zero id s = tt
  summed_alike (suc h) (kind.Leaf id) s = tt
  summed_alike (suc h) (kind.Inner id) s =
      let a = inner id.0 in
      let cs = inner_children (old.inner id.0) in
      rw a.children (
        summaries_alike cmp is_summary argument_clone clone_is_summary (λ c. keys_of (pairs_at old h c)) (λ c. keys_of (pairs_at new h c)) (inner_arguments (old.inner id.0)) (inner_arguments (new.inner id.0)) cs a.arguments (every _ (keys_alike h) cs) s.0,
        each_keeps (IsSummed old is_summary h) (IsSummed new is_summary h) cs (every _ (summed_alike h) cs) s.1,
      )

  linked_alike : (p : Option LeafNodeId) (ids : List LeafNodeId) (q : Option LeafNodeId) → AreLinked old p ids q → AreLinked new p ids q
  linked_alike p [] q l = tt
  linked_alike p (x ∷ []) q l = ((leaf x.0).prev ∙ l.0, (leaf x.0).next ∙ l.1)
  linked_alike p (x ∷ y ∷ ys) q l = ((leaf x.0).prev ∙ l.0, (leaf x.0).next ∙ l.1, linked_alike (Some x) (y ∷ ys) q l.2)

  -- the clone's nodes have the shape of a tree
  pub shape_alike : (h : ℕ) (root : NodeId) → IsWellShaped cmp is_summary old h root → IsWellShaped cmp is_summary new h root
  shape_alike h root w = record {
    tree = tree_alike (root_least h) h root None None None None tt tt w.tree;
    leaves = λ n. leaf_counts_same h root n ∙ (w.leaves n ∙ sym (leaf_slot n).0);
    inners = λ n. inner_counts_same h root n ∙ (w.inners n ∙ sym (inner_slot n).0);
    no_leaf_held = λ n held. w.no_leaf_held n ((leaf_slot n).1 held);
    no_inner_held = λ n held. w.no_inner_held n ((inner_slot n).1 held);
    summed = summed_alike h root w.summed;
    linked = rw (leaves_same h root) (linked_alike None (leaves_at old h root) None w.linked);
  }

  -- both have equally many pairs
  pub long_alike : (h : ℕ) (root : NodeId) → length (pairs_at new h root) ≡ length (pairs_at old h root)
  long_alike h root = AllZip-long (IsPairClone cmp value_clone) (pairs_at old h root) (pairs_at new h root) (pairs_alike h root)

  -- a clone of a summary of all keys is a summary of the clone's keys
  pub reported_alike : (h : ℕ) (root : NodeId) (a b : A) → argument_clone a b → is_summary a (keys_of (pairs_at old h root)) → is_summary b (keys_of (pairs_at new h root))
  reported_alike h root a b clone reported = clone_is_summary a b (keys_of (pairs_at old h root)) (keys_of (pairs_at new h root)) clone (keys_alike h root) reported

-- a key is among the clones of some pairs if and only if it is among the pairs
pub has_alike : {K V : Type 0} {cmp : K → K → Ordering} (total : IsTotalOrder cmp) (value_clone : V → V → Type 0) (pairs copies : List (K × V)) → AllZip (IsPairClone cmp value_clone) pairs copies → (k : K) → has cmp copies k ≡ has cmp pairs k
has_alike total value_clone [] [] all k = refl
has_alike total value_clone [] (q ∷ copies) all k = absurd all
has_alike total value_clone (p ∷ pairs) [] all k = absurd all
has_alike {cmp = cmp} total value_clone (p ∷ pairs) (q ∷ copies) all k =
    ap (λ o. is_eq o || has cmp copies k) (sym (total.congr p.0 q.0 k all.0.0)) ∙ ap (λ rest. is_eq (cmp p.0 k) || rest) (has_alike total value_clone pairs copies all.1 k)
