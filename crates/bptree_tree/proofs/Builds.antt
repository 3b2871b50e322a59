-- Leaves that got all pairs of a vector, each its part.
use Rattle.std.proofs.Common.{◌≡◌, ◌∙◌, ◌<◌, ◌≤◌, ◌-◌, ◌+◌, ℕ, List, [], ◌∷◌, ◌++◌, ap, arith, drop, length, length-append, refl, subst, suc, sym, take}
use Rattle.std.proofs.lemmas.List.{length-take-le, take-append-drop}
use Rattle.std.specs.Cmp.{IsTotalOrder}
use Rattle.std.specs.List.{AllByRecursion}
use Rattle.std.specs.declared.alloc.Global.{Global}
use Rattle.std.specs.declared.boxed.Box.{Box}
use Rattle.std.specs.declared.cmp.Ordering.{Ordering}
use Rattle.bptree_bulk_load.specs.Plans.{PlansAll}
use Rattle.bptree_bulk_load.specs.Rooms.{joined, parts_of, ArePlanned}
use Rattle.bptree_bulk_load.specs.declared.plan.Plan.{Plan}
use Rattle.bptree_bulk_load.proofs.Standing.{drop_all}
use Rattle.bptree_bulk.specs.Filling.{AreParts, HaveRooms, IsSize, TakeParts}
use Rattle.bptree_tree.specs.Building.{AreAllLeaves, HaveAll, IsFilledLeaf}
use Rattle.bptree_bulk.proofs.Tails.{joined_parts, parts_several, parts_some, part_next, sized}
use Rattle.bptree_invariant.proofs.Ordered.{ascending_after}
use Rattle.bptree_invariant.proofs.Spot.{ascending_before}
use Rattle.bptree_keys.specs.Contents.{IsAscending}
use Rattle.bptree_keys.specs.Ranges.{part}
use Rattle.bptree_nodes.specs.Inner.{Inner}
use Rattle.bptree_nodes.specs.Leaf.{Leaf}
use Rattle.bptree_nodes.specs.Slot.{Slots}

-- the first pairs are in so many parts
abbrev pub AreInParts : {X : Type 0} → List X → ℕ → ℕ → Type 0
AreInParts {X} pairs done count = (parts : List (List X)) × AreParts pairs parts (drop done pairs) × (count ≡ length parts)

module _ {X : Type 0} (pairs : List X) where
  pub one_room_more : (left size count : ℕ) → left ≤ length pairs → 0 < left → IsSize left size → AreInParts pairs (length pairs - left) count → AreInParts pairs (length pairs - (left - size)) (count + 1)
  one_room_more left size count within some size_is (parts, are, same) =
      let s = sized left size size_is in
      let from = length pairs - left in
      let to = length pairs - (left - size) in
      let next = part pairs from (to - from) in
      let more = part_next pairs pairs parts from to size are (subst (λ n. IsSize n size) (omega (arith, within)) size_is) (omega (arith, within, s.within)) (omega (arith, within, some)) in
      (parts ++ next ∷ [], more, omega (arith, same, length-append parts (next ∷ [])))

  pub no_room_more : (left count : ℕ) → left ≤ 0 → AreInParts pairs (length pairs - left) count → (parts : List (List X)) × AreParts pairs parts [] × (count ≡ length parts)
  no_room_more left count none (parts, are, same) = (parts, subst (AreParts pairs parts) (drop_all pairs (length pairs - left) (omega (arith, none))) are, same)

module _ {K V : Type 0} {cmp : K → K → Ordering} (total : IsTotalOrder cmp) where
  -- each leaf has pairs, which ascend
  pub filled_leaves : (l : List (K × V)) (leaves : List (Box (Leaf K V) Global)) → AreParts l (parts_of leaves) [] → IsAscending cmp l → AllByRecursion (IsFilledLeaf cmp) leaves
  filled_leaves l [] are ascending = tt
  filled_leaves l (leaf ∷ leaves) (n, size, some, is, are) ascending =
      let s = sized (length l) n size in
      let both = subst (IsAscending cmp) (sym (take-append-drop n l)) ascending in
      let long : length leaf.value.pairs ≡ n = ap length is ∙ length-take-le n l s.within in (
        (omega (arith, long, s.some some), subst (IsAscending cmp) (sym is) (ascending_before cmp (take n l) (drop n l) both)),
        filled_leaves (drop n l) leaves are (ascending_after total (take n l) (drop n l) both),
      )

pub one_part : {K V : Type 0} (leaves : List (Box (Leaf K V) Global)) → length (parts_of leaves) ≡ length leaves
one_part [] = refl
one_part (leaf ∷ leaves) = ap suc (one_part leaves)

-- leaves with all pairs can be all the leaves of a tree
pub all_leaves : {K V : Type 0} {cmp : K → K → Ordering} (total : IsTotalOrder cmp) (leaves : List (Box (Leaf K V) Global)) (pairs : List (K × V)) → HaveAll cmp leaves pairs → AreAllLeaves cmp leaves
all_leaves {cmp = cmp} total leaves pairs have =
    let all = joined_parts pairs (parts_of leaves) have.are in
    record {
      some = omega (arith, parts_some pairs (parts_of leaves) have.are have.some, one_part leaves);
      filled = filled_leaves total pairs leaves have.are have.ascending;
      many = parts_several pairs (parts_of leaves) have.are;
      ascending = subst (IsAscending cmp) (sym all) have.ascending;
      few = omega (arith, ap length all, have.few);
    }

-- the leaves are all those of a tree
pub all_planned : {S K V A : Type 0} {cmp : K → K → Ordering} {is_summary : A → List K → Type 0} (slots : S → Slots (Inner K A) (Leaf K V)) (plan : Plan S K V A) {leaves : List (Box (Leaf K V) Global)}
    (all : AreAllLeaves cmp leaves) → ArePlanned cmp is_summary (slots plan.store) plan.ids.items plan.trees.items (parts_of leaves) → PlansAll cmp is_summary slots plan (parts_of leaves)
all_planned slots plan {leaves = leaves} all planned = record { planned = planned; some = omega (arith, one_part leaves, all.some); many = all.many; ascending = all.ascending; few = all.few }

-- once all leaves are filled they have the parts, and these are all pairs
module _ {K V : Type 0} (pairs items : List (K × V)) (rooms start leaves : List (Box (Leaf K V) Global)) (none : start ≡ []) (same : items ≡ pairs) (have : HaveRooms pairs rooms) (takes : TakeParts items start leaves) where
  pub all_parts : AreParts pairs (parts_of leaves) []
  all_parts =
      let filled = takes have.0 (subst (λ l. AreParts l have.0 []) (sym same) have.1) ∙ ap (λ l. parts_of l ++ have.0) none in
      subst (λ parts. AreParts pairs parts []) (sym filled) have.1

  pub all_pairs : joined (parts_of leaves) ≡ pairs
  all_pairs = joined_parts pairs (parts_of leaves) all_parts
