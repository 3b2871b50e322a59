-- Leaves that are stored one after another.
use Rattle.std.proofs.Common.{◌≡◌, ◌∙◌, ◌+◌, ◌<◌, ◌≤◌, ℕ, zero, suc, sym, ap, subst, refl, Option, Some, None, List, [], ◌∷◌, ◌++◌, drop, length, arith, length-append, append_assoc, slice_get, slice_index_or}
use Rattle.std.specs.declared.cmp.Ordering.{Ordering}
use Rattle.std.specs.Cmp.{IsTotalOrder}
use Rattle.std.specs.Option.{option_to_list, IsSome}
use Rattle.std.specs.Vec.Iter.{into_iter_items, into_iter_len, into_iter_steps}
use Rattle.std.specs.declared.alloc.Global.{Global}
use Rattle.std.specs.declared.boxed.Box.{Box}
use Rattle.std.specs.declared.vec.IntoIter.{IntoIter}
use Rattle.bptree_keys.specs.Contents.{IsAscending}
use Rattle.bptree_keys.specs.declared.node_id.LeafNodeId.{LeafNodeId}
use Rattle.bptree_nodes.specs.Inner.{Inner}
use Rattle.bptree_nodes.specs.Leaf.{Leaf}
use Rattle.bptree_nodes.specs.Slot.{Slots, Held}
use Rattle.bptree_bulk_load.specs.Layer.{with_leaves, Builds, IsLayer}
use Rattle.bptree_bulk_load.specs.Rooms.{first_id, joined, parts_of, FitsRoom, IsFrame, IsPlanted, IsPlanting}
use Rattle.bptree_bulk_load.specs.declared.building.Built.{Built}
use Rattle.bptree_bulk_load.specs.declared.subtree.Subtree.{Subtree}
use Rattle.bptree_bulk_load.proofs.Lists.{nothing}
use Rattle.bptree_bulk_load.proofs.Planted.{planted_all, plants_leaf, was_held}

module _ {X : Type 0} where
  drop_at : (xs : List X) (i : ℕ) (d : X) → i < length xs → drop i xs ≡ slice_index_or xs i d ∷ drop (suc i) xs
  drop_at [] i d within = absurd (omega arith)
  drop_at (x ∷ xs) zero d within = refl
  drop_at (x ∷ xs) (suc i) d within = drop_at xs i d (omega arith)

  -- the rest of a list from an index on is the member there and the rest after it
  pub drop_on : (xs : List X) (i : ℕ) (d : X) → i < length xs → drop i xs ≡ slice_index_or xs i d ∷ drop (i + 1) xs
  drop_on xs i d within = let next : suc i ≡ i + 1 = omega arith in drop_at xs i d within ∙ ap (λ n. slice_index_or xs i d ∷ drop n xs) next

  pub drop_all : (xs : List X) (i : ℕ) → length xs ≤ i → drop i xs ≡ []
  drop_all [] zero within = refl
  drop_all [] (suc i) within = refl
  drop_all (x ∷ xs) zero within = absurd (omega arith)
  drop_all (x ∷ xs) (suc i) within = drop_all xs i (omega arith)

-- the first id from an index on is the one at that index
pub first_is : (ids : List LeafNodeId) (i : ℕ) → slice_get ids i ≡ first_id (drop i ids)
first_is [] zero = refl
first_is [] (suc i) = refl
first_is (x ∷ ids) zero = refl
first_is (x ∷ ids) (suc i) = first_is ids i

module _ {X Z : Type 0} (old new : IntoIter X Z) where
  pub counted_on : (r : Option X) → into_iter_items old ≡ option_to_list r ++ into_iter_items new → into_iter_len old ≡ length (into_iter_items old) → into_iter_len new + length (option_to_list r) ≡ into_iter_len old → into_iter_len new ≡ length (into_iter_items new)
  counted_on r items counted len = omega (arith, len, counted, ap length items, length-append (option_to_list r) (into_iter_items new))

  -- an iterator that has an item left returns one
  pub some_next : (r : Option X) → into_iter_steps old r new → into_iter_items old ≡ option_to_list r ++ into_iter_items new → into_iter_len new ≡ length (into_iter_items new) → 0 < length (into_iter_items old) → IsSome r
  some_next None steps items counted some = absurd (omega (arith, some, ap length items, counted, steps.1))
  some_next (Some x) steps items counted some = refl

module _ {K V A : Type 0} (cmp : K → K → Ordering) (is_summary : A → List K → Type 0) (slots : Slots (Inner K A) (Leaf K V)) (least : ℕ) (done : List (Subtree K A)) (prev : Option LeafNodeId) (pairs : List (K × V)) (id : LeafNodeId) (ids : List LeafNodeId) where
  parts_long : (leaves : List (Box (Leaf K V) Global)) → length (parts_of leaves) ≡ length leaves
  parts_long [] = refl
  parts_long (leaf ∷ leaves) = ap suc (parts_long leaves)

  some_part : (trees : List (Subtree K A)) (parts : List (List (K × V))) → FitsRoom cmp is_summary least trees (id ∷ ids) parts → 0 < length parts
  some_part [] parts fits = absurd fits
  some_part (tree ∷ trees) [] fits = absurd fits
  some_part (tree ∷ trees) (part ∷ parts) fits = omega arith

  -- if a reserved id is left, a leaf is left
  pub some_leaf : (trees : List (Subtree K A)) (leaves : List (Box (Leaf K V) Global)) → IsPlanting cmp is_summary slots least done trees (id ∷ ids) prev (parts_of leaves) pairs → 0 < length leaves
  some_leaf trees leaves planting = omega (arith, some_part trees (parts_of leaves) planting.fits, parts_long leaves)

module _ {K V A : Type 0} {cmp : K → K → Ordering} (total' : IsTotalOrder cmp) (is_summary : A → List K → Type 0) (base old : Slots (Inner K A) (Leaf K V)) (least : ℕ) (done trees : List (Subtree K A)) (prev next : Option LeafNodeId) (pairs part : List (K × V)) (id : LeafNodeId) (ids : List LeafNodeId) (parts : List (List (K × V)))
    (planting : IsPlanting cmp is_summary (with_leaves base old.leaf) least done trees (id ∷ ids) prev (part ∷ parts) pairs) (ascending : IsAscending cmp pairs) where
  -- the id of the next leaf is reserved
  pub held_there : old.leaf id.0 ≡ Held
  held_there = was_held is_summary (with_leaves base old.leaf) least done trees id ids prev (part ∷ parts) pairs planting

  -- the next leaf is stored
  pub planted_on : (new : Slots (Inner K A) (Leaf K V)) → next ≡ first_id ids → IsPlanted old new id part prev next
      → (done' : List (Subtree K A)) × (trees' : List (Subtree K A)) × (done ++ trees ≡ done' ++ trees') × IsPlanting cmp is_summary (with_leaves base new.leaf) least done' trees' ids (Some id) parts pairs
  planted_on new next_is planted = go trees planting
    where
      go : (ts : List (Subtree K A)) → IsPlanting cmp is_summary (with_leaves base old.leaf) least done ts (id ∷ ids) prev (part ∷ parts) pairs
          → (done' : List (Subtree K A)) × (trees' : List (Subtree K A)) × (done ++ ts ≡ done' ++ trees') × IsPlanting cmp is_summary (with_leaves base new.leaf) least done' trees' ids (Some id) parts pairs
      go [] p = absurd p.fits
      go (tree ∷ ts) p = (
        done ++ tree ∷ [],
        ts,
        sym (append_assoc done (tree ∷ []) ts),
        plants_leaf total' is_summary (with_leaves base old.leaf) (with_leaves base new.leaf) least done tree ts id ids prev next part parts pairs p ascending next_is (record { leaf = planted.leaf; inner = refl }),
      )

-- all leaves are stored
pub planted_whole : {K V A : Type 0} {cmp : K → K → Ordering} (is_summary : A → List K → Type 0) (slots new : Slots (Inner K A) (Leaf K V)) (own ids : List LeafNodeId) (built : Built A) (parts left : List (List (K × V))) (frame : IsFrame cmp is_summary slots own built parts) (done trees : List (Subtree K A)) (prev : Option LeafNodeId)
    → ids ≡ [] → frame.trees ≡ done ++ trees → new.inner ≡ slots.inner → IsPlanting cmp is_summary (with_leaves frame.base new.leaf) frame.least done trees ids prev left (joined parts) → Builds cmp is_summary new (joined parts) built
planted_whole {cmp = cmp} is_summary slots new own ids built parts left frame done trees prev none same inner planting =
    let ends = subst (λ l. IsPlanting cmp is_summary (with_leaves frame.base new.leaf) frame.least done trees l prev left (joined parts)) none planting in
    let layer = planted_all is_summary frame.least (with_leaves frame.base new.leaf) done trees prev left (joined parts) (subst (λ l. 1 < length l → 16 ≤ frame.least) same frame.many) ends in
    let whole = frame.raises new.leaf (subst (λ l. IsLayer cmp is_summary (with_leaves frame.base new.leaf) 0 l (joined parts)) (sym same) layer) in
    subst (λ inner. Builds cmp is_summary (record { inner = inner; leaf = new.leaf }) (joined parts) built) (sym inner) whole
