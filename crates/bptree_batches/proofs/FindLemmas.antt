-- Values of keys whose slots in their leaves are known, and lists under a map.
use Rattle.std.proofs.Common.{◌≡◌, ℕ, zero, suc, ◌<◌, false, cond, List, [], ◌∷◌, length, get_or, take, drop, map, refl, sym, ap, subst, ◌∙◌, arith, Option, Some, None, is_some, Result, Ok, Err, IfOk}
use Rattle.std.specs.declared.cmp.Ordering.{Ordering}
use Rattle.std.specs.declared.cmp.Ordering.TheVariants.{Less, Equal, Greater}
use Rattle.std.specs.Ordering.{is_eq, ordering_reverse}
use Rattle.std.specs.Cmp.{IsTotalOrder}
use Rattle.std.specs.List.{AllZip, AllByRecursion}
use Rattle.std.specs.Map.{keys_of}
use Rattle.std.specs.Option.{option_map}
use Rattle.std.proofs.lemmas.Map.Keys.{sorted_head, sorted_tail}
use Rattle.bptree_keys.specs.Contents.{IsAscending, has, value}
use Rattle.bptree_keys.specs.Locate.{one_later, locate_by, locate}
use Rattle.bptree_keys.specs.declared.node_id.NodeId.{NodeId}
use Rattle.bptree_keys.proofs.Equal.{has_where_value}
use Rattle.bptree_nodes.specs.Inner.{Inner}
use Rattle.bptree_nodes.specs.Leaf.{Leaf}
use Rattle.bptree_nodes.specs.Slot.{Slots}
use Rattle.bptree_invariant.specs.Leaves.{IsLeafFor}
use Rattle.bptree_invariant.specs.Shape.{pairs_at, root_least, IsWellShaped}
use Rattle.bptree_invariant.proofs.Spot.{leaf_ascends}
use Rattle.bptree_invariant.proofs.Walk.{tree_ascends}
use Rattle.bptree_batches.specs.Slots.{value_in_slot, AreLeavesThere, IsSlotWithin, ReadsSlot, IsSlotOfLeaf, AreSlotsIn}
use Rattle.bptree_batches.specs.Ways.{IsLeafNodeFor}
use Rattle.bptree_batches.proofs.WayLemmas.{leaf_there, value_from_leaf}
use Rattle.std.proofs.lemmas.List.{map-append}
use borrow.Rule.Slice.PartMut.{put_mid}

-- ---- the slot of a key among ascending keys

ok_later : (o : Ordering) (r : Result ℕ ℕ) (n : ℕ) → IfOk r (λ i. i < n) → IfOk (locate_by o r) (λ i. i < suc n)
ok_later Less (Ok i) n within = omega arith
ok_later Less (Err i) n within = tt
ok_later Equal r n within = omega arith
ok_later Greater r n within = tt

not_equal : {K : Type 0} (cmp : K → K → Ordering) → IsTotalOrder cmp → (x y k : K) → cmp x y ≡ Less → cmp x k ≡ Greater → is_eq (cmp y k) ≡ false
not_equal cmp total x y k below above =
    let back : cmp k x ≡ Less = total.antisymm k x ∙ ap ordering_reverse above in
    let far : cmp k y ≡ Less = total.trans k x y back below in
    let up : cmp y k ≡ Greater = total.antisymm y k ∙ ap ordering_reverse far in
    rw up refl

module _ {K V : Type 0} (cmp : K → K → Ordering) where
  located_within : (pairs : List (K × V)) (k : K) → IfOk (locate cmp (keys_of pairs) k) (λ i. i < length pairs)
  located_within [] k = tt
  located_within (p ∷ pairs) k = ok_later (cmp p.0 k) (locate cmp (keys_of pairs) k) (length pairs) (located_within pairs k)

  value_later : (p : K × V) (pairs : List (K × V)) (r : Result ℕ ℕ) → value_in_slot (p ∷ pairs) (one_later r) ≡ value_in_slot pairs r
  value_later p pairs (Ok i) = refl
  value_later p pairs (Err i) = refl

  module _ (total : IsTotalOrder cmp) where
    no_value : (x k : K) (pairs : List (K × V)) → cmp x k ≡ Greater → AllByRecursion (λ y. cmp x y ≡ Less) (keys_of pairs) → value cmp pairs k ≡ None
    no_value x k [] above below = refl
    no_value x k (p ∷ pairs) above below = rw (not_equal cmp total x p.0 k below.0 above) (no_value x k pairs above below.1)

    located_value : (pairs : List (K × V)) (k : K) → IsAscending cmp pairs → value_in_slot pairs (locate cmp (keys_of pairs) k) ≡ value cmp pairs k
    located_value [] k ascending = refl
    located_value (p ∷ pairs) k ascending = by_result (located_value pairs k (sorted_tail cmp p.0 (keys_of pairs) ascending)) (cmp p.0 k) refl
      where
        by_result : value_in_slot pairs (locate cmp (keys_of pairs) k) ≡ value cmp pairs k → (o : Ordering) → cmp p.0 k ≡ o
            → value_in_slot (p ∷ pairs) (locate_by o (locate cmp (keys_of pairs) k)) ≡ cond (is_eq o) (Some p.1) (value cmp pairs k)
        by_result later Less e = value_later p pairs (locate cmp (keys_of pairs) k) ∙ later
        by_result later Equal e = refl
        by_result later Greater e = sym (no_value p.0 k pairs e (sorted_head cmp p.0 (keys_of pairs) ascending))

-- ---- slots in the leaves for keys

module _ {K V A : Type 0} {cmp : K → K → Ordering} (total : IsTotalOrder cmp) (slots : Slots (Inner K A) (Leaf K V)) where
  pub slots_at : (n : ℕ) (nodes : List NodeId) (keys : List K) (indexes : List (Result ℕ ℕ)) (id : NodeId) (k : K) (child_index : Result ℕ ℕ) → n < length keys → AreSlotsIn cmp slots nodes keys indexes
      → IsSlotOfLeaf cmp slots (get_or nodes n id) (get_or keys n k) (get_or indexes n child_index)
  slots_at n [] [] ss id k child_index within all = absurd (omega arith)
  slots_at n [] (b ∷ keys) ss id k child_index within all = absurd all
  slots_at n (a ∷ nodes) [] ss id k child_index within all = absurd all
  slots_at n (a ∷ nodes) (b ∷ keys) [] id k child_index within all = absurd all
  slots_at zero (a ∷ nodes) (b ∷ keys) (s ∷ ss) id k child_index within all = all.0
  slots_at (suc n) (a ∷ nodes) (b ∷ keys) (s ∷ ss) id k child_index within all = slots_at n nodes keys ss id k child_index (omega arith) all.1

  pub leaves_there : (top : ℕ) (root : NodeId) (keys : List K) (nodes : List NodeId) → AllZip (IsLeafNodeFor cmp slots top root) keys nodes → AreLeavesThere slots nodes
  leaves_there top root [] [] all = tt
  leaves_there top root [] (id ∷ nodes) all = absurd all
  leaves_there top root (k ∷ keys) [] all = absurd all
  leaves_there top root (k ∷ keys) (id ∷ nodes) all = (leaf_there total slots top root k id all.0, leaves_there top root keys nodes all.1)

  module _ (is_summary : A → List K → Type 0) (top : ℕ) (root : NodeId) (k : K) (id : NodeId) (child_index : Result ℕ ℕ) (shape : IsWellShaped cmp is_summary slots top root) (for' : IsLeafNodeFor cmp slots top root k id)
      (placed : IsSlotOfLeaf cmp slots id k child_index) where
    -- the slot of a key in its leaf has a pair
    pub slot_within : IsSlotWithin slots id child_index
    slot_within = λ leaf node is there.
        let for_leaf : IsLeafFor cmp slots top root k leaf = subst (IsLeafNodeFor cmp slots top root k) is for' in
        let ascending = leaf_ascends total slots top root leaf node for_leaf.stored (tree_ascends total slots (root_least top) top root None None shape.tree) there in
        subst (λ r. IfOk r (λ i. i < length node.pairs)) (sym (placed leaf node is there ascending)) (located_within cmp node.pairs k)

    -- the value in the slot of a key in its leaf is the value of the key in the whole
    pub value_from_slot : (found : Option V) → ReadsSlot slots id child_index found → found ≡ value cmp (pairs_at slots top root) k
    value_from_slot found reads =
        value_from_leaf total slots is_summary top root k id found shape for'
        (λ leaf node is there ascending. reads leaf node is there ∙ (ap (value_in_slot node.pairs) (placed leaf node is there ascending) ∙ located_value cmp total node.pairs k ascending))

-- a member of a list that has an index
pub member_of : {X : Type 0} (xs : List X) (n : ℕ) → n < length xs → X
member_of [] n within = absurd (omega arith)
member_of (x ∷ xs) n within = x

-- ---- lists under a map

module _ {X Y : Type 0} (f : X → Y) where
  map_take : (n : ℕ) (xs : List X) → map f (take n xs) ≡ take n (map f xs)
  map_take zero xs = refl
  map_take (suc n) [] = refl
  map_take (suc n) (x ∷ xs) = ap (λ rest. f x ∷ rest) (map_take n xs)

  map_drop : (n : ℕ) (xs : List X) → map f (drop n xs) ≡ drop n (map f xs)
  map_drop zero xs = refl
  map_drop (suc n) [] = refl
  map_drop (suc n) (x ∷ xs) = map_drop n xs

  -- a part that is written, under a map
  pub map_put_mid : (a k : ℕ) (xs ys : List X) → map f (put_mid a k xs ys) ≡ put_mid a k (map f xs) (map f ys)
  map_put_mid a k xs ys = simp (map-append, map_take, map_drop)

-- lists that are equal under maps are equal under the maps at each index
pub same_at : {X Y Z : Type 0} (f : X → Z) (g : Y → Z) (xs : List X) (ys : List Y) (n : ℕ) (x : X) (y : Y) → map f xs ≡ map g ys → n < length ys → f (get_or xs n x) ≡ g (get_or ys n y)
same_at f g xs [] n x y same within = absurd (omega arith)
same_at f g [] (b ∷ ys) n x y same within = cc
same_at f g (a ∷ xs) (b ∷ ys) zero x y same within = cc
same_at f g (a ∷ xs) (b ∷ ys) (suc n) x y same within = let later : map f xs ≡ map g ys = cc in same_at f g xs ys n x y later (omega arith)

-- a member that was read from the first of two lists that are equal under maps
pub member_shows : {X Y Z : Type 0} (f : X → Z) (g : Y → Z) (xs : List X) (ys : List Y) (n : ℕ) (x : X) (y : Y) (read : X) → get_or xs n x ≡ read → map f xs ≡ map g ys → n < length ys → g (get_or ys n y) ≡ f read
member_shows f g xs ys n x y read is same within = sym (same_at f g xs ys n x y same within) ∙ ap f is

some_mapped : {X Y : Type 0} (f : X → Y) (found : Option X) → is_some (option_map f found) ≡ is_some found
some_mapped f None = refl
some_mapped f (Some x) = refl

-- a key is present if and only if a value was found for it
pub mark_found : {K V X : Type 0} (cmp : K → K → Ordering) (pairs : List (K × V)) (k : K) (f : X → V) (found : Option X) → option_map f found ≡ value cmp pairs k → is_some found ≡ has cmp pairs k
mark_found cmp pairs k f found same = sym (some_mapped f found) ∙ (ap is_some same ∙ has_where_value cmp pairs k)
