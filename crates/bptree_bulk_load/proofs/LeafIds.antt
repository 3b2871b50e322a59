-- The ids of leaves, one after another.
use Rattle.std.proofs.Common.{◌≡◌, ◌∙◌, ◌+◌, ◌<◌, ◌≤◌, ℕ, zero, suc, inl, inr, cond, eqb, sym, ap, subst, refl, Option, Some, None, List, [], ◌∷◌, ◌++◌, length, map, take, arith, append_assoc, slice_index_or}
use Rattle.std.specs.declared.alloc.Global.{Global}
use Rattle.std.specs.declared.boxed.Box.{Box}
use Rattle.std.specs.declared.cmp.Ordering.{Ordering}
use Rattle.std.specs.List.{AllByRecursion}
use Rattle.std.specs.Map.{keys_of}
use Rattle.std.proofs.lemmas.Bool.Decides.{eqb_tells}
use Rattle.bptree_keys.specs.declared.node_id.LeafNodeId.{LeafNodeId}
use Rattle.bptree_keys.specs.declared.node_id.NodeId.{NodeId}
use Rattle.bptree_nodes.specs.Inner.{Inner}
use Rattle.bptree_nodes.specs.Leaf.{Leaf}
use Rattle.bptree_nodes.specs.Slot.{Slots, Held, Present, IsPresent, UpdatesLeaf}
use Rattle.bptree_invariant.specs.Shape.{leaf_next, leaf_pairs, leaves_at, AreLinked, IsWellShaped}
use Rattle.bptree_invariant.proofs.Hinted.{count_of, first_or, linked_next, total-append}
use Rattle.bptree_propagation.proofs.Rooted.{present_leaf}
use Rattle.bptree_bulk_load.specs.Rooms.{first_id, id_count, pairs_under, parts_of, IsPresentAt, KeepsLeaves}

same_number : (n m : ℕ) → n ≡ m → ◌≡◌ {A = ℕ} (cond (eqb n m) 1 0) 1
same_number n m same = elim (eqb_tells n m) [ inl here ↦ rw here.0 refl | inr other ↦ absurd (other.1 same) ]

first_same : (ids : List LeafNodeId) → first_or None ids ≡ first_id ids
first_same [] = refl
first_same (id ∷ ids) = refl

pub starts : (ids : List LeafNodeId) (id : LeafNodeId) → first_id ids ≡ Some id → (rest : List LeafNodeId) × (ids ≡ id ∷ rest)
starts [] id first = absurd (let z : None ≡ Some id = first in cc)
starts (x ∷ rest) id first = let same : x ≡ id = cc in (rest, ap (λ y. y ∷ rest) same)

-- a walk along the links of a tree's leaves
module _ {K V A : Type 0} (cmp : K → K → Ordering) (is_summary : A → List K → Type 0) (slots : Slots (Inner K A) (Leaf K V)) (h : ℕ) (root : NodeId) (shape : IsWellShaped cmp is_summary slots h root) (before rest : List LeafNodeId) (are : leaves_at slots h root ≡ before ++ rest) (id : LeafNodeId) (at : first_id rest ≡ Some id) where
  abbrev pub left : List LeafNodeId
  left = (starts rest id at).0

  here : leaves_at slots h root ≡ before ++ id ∷ left
  here = are ∙ ap (λ l. before ++ l) (starts rest id at).1

  pub walk_there : IsPresent (slots.leaf id.0)
  walk_there =
      present_leaf cmp is_summary slots h root shape id.0 (omega (arith, ap (λ l. count_of l id.0) here, total-append (λ (l : LeafNodeId). cond (eqb l.0 id.0) 1 0) before (id ∷ left), same_number id.0 id.0 refl))

  pub walk_on : leaf_next (slots.leaf id.0) ≡ first_id left
  walk_on = linked_next slots None before id left None (subst (λ ids. AreLinked slots None ids None) here shape.linked) ∙ first_same left

  pub walked : (now : List LeafNodeId) → now ≡ before ++ id ∷ [] → leaves_at slots h root ≡ now ++ left
  walked now is = here ∙ (sym (append_assoc before (id ∷ []) left) ∙ ap (λ l. l ++ left) (sym is))

module _ {X : Type 0} where
  pub take_on : (xs : List X) (i : ℕ) (d : X) → i < length xs → take (i + 1) xs ≡ take i xs ++ slice_index_or xs i d ∷ []
  take_on xs i d within = let next : i + 1 ≡ suc i = omega arith in ap (λ n. take n xs) next ∙ go xs i within
    where
      go : (ys : List X) (j : ℕ) → j < length ys → take (suc j) ys ≡ take j ys ++ slice_index_or ys j d ∷ []
      go [] j below = absurd (omega arith)
      go (y ∷ ys) zero below = refl
      go (y ∷ ys) (suc j) below = ap (λ l. y ∷ l) (go ys j (omega arith))

  pub all_at : (P : X → Type 0) (xs : List X) (i : ℕ) (d : X) → i < length xs → AllByRecursion P xs → P (slice_index_or xs i d)
  all_at P [] i d within all = absurd (omega arith)
  all_at P (x ∷ xs) zero d within all = all.0
  all_at P (x ∷ xs) (suc i) d within all = all_at P xs i d (omega arith) all.1

  pub map_on : {Y : Type 0} (f : X → Y) (xs ys : List X) → map f (xs ++ ys) ≡ map f xs ++ map f ys
  map_on f [] ys = refl
  map_on f (x ∷ xs) ys = ap (λ l. f x ∷ l) (map_on f xs ys)

count_before : (ids : List LeafNodeId) (i : ℕ) (d : LeafNodeId) → i < length ids → id_count (take i ids) (slice_index_or ids i d).0 + 1 ≤ id_count ids (slice_index_or ids i d).0
count_before [] i d within = absurd (omega arith)
count_before (x ∷ ids) zero d within = omega (arith, same_number x.0 x.0 refl)
count_before (x ∷ ids) (suc i) d within = omega (arith, count_before ids i d (omega arith))

-- one more leaf is taken out of the store
module _ {K V A : Type 0} (old now new : Slots (Inner K A) (Leaf K V)) (ids : List LeafNodeId) (i : ℕ) (d : LeafNodeId) (within : i < length ids) (once : (n : ℕ) → id_count ids n ≤ 1) (present : AllByRecursion (IsPresentAt old) ids) (kept : KeepsLeaves old now (take i ids)) where
  abbrev id : LeafNodeId
  id = slice_index_or ids i d

  same_here : now.leaf id.0 ≡ old.leaf id.0
  same_here = kept.0 id.0 (omega (arith, count_before ids i d within, once id.0))

  pub there : IsPresent (now.leaf id.0)
  there = subst IsPresent (sym same_here) (all_at (IsPresentAt old) ids i d within present)

  pub keeps_others : UpdatesLeaf now new id.0 Held → KeepsLeaves old new (take (i + 1) ids)
  keeps_others updates = (
    λ n none.
        let apart : id_count (take i ids ++ id ∷ []) n ≡ 0 = ap (λ l. id_count l n) (sym (take_on ids i d within)) ∙ none in
        let counts = total-append (λ (l : LeafNodeId). cond (eqb l.0 n) 1 0) (take i ids) (id ∷ []) in
        elim (eqb_tells id.0 n) [
          | inl same ↦ absurd (omega (arith, apart, counts, same_number id.0 n same.1))
          | inr other ↦ (updates.leaf.others n (λ q. other.1 (sym q)) ∙ kept.0 n (omega (arith, apart, counts)))
        ],
    updates.inner ∙ kept.1,
  )

  pub taken_on : (leaf : Box (Leaf K V) Global) (before leaves leaves' : List (Box (Leaf K V) Global)) → now.leaf id.0 ≡ Present leaf.value → leaves' ≡ leaves ++ leaf ∷ [] → parts_of leaves ≡ parts_of before ++ map (pairs_under old) (take i ids) → parts_of leaves' ≡ parts_of before ++ map (pairs_under old) (take (i + 1) ids)
  taken_on leaf before leaves leaves' value more same =
      let part : pairs_under old id ≡ leaf.value.pairs = ap leaf_pairs (sym same_here ∙ value) in
      ap parts_of more
      ∙ (map_on (λ (l : Box (Leaf K V) Global). l.value.pairs) leaves (leaf ∷ [])
      ∙ (ap (λ l. l ++ leaf.value.pairs ∷ []) same
      ∙ (append_assoc (parts_of before) (map (pairs_under old) (take i ids)) (leaf.value.pairs ∷ [])
      ∙ ap (λ l. parts_of before ++ l) (ap (λ p. map (pairs_under old) (take i ids) ++ p ∷ []) (sym part) ∙ (sym (map_on (pairs_under old) (take i ids) (id ∷ [])) ∙ ap (map (pairs_under old)) (sym (take_on ids i d within)))))))
