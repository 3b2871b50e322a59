-- The leaves of two trees, one behind the other, are all those of one tree.
use Rattle.std.proofs.Common.{◌≡◌, ◌∙◌, ◌<◌, ◌≤◌, ◌^◌, sym, ap, subst, refl, List, [], ◌∷◌, ◌++◌, length, map, arith, append-nil}
use Rattle.std.specs.declared.cmp.Ordering.{Ordering}
use Rattle.std.specs.List.{AllByRecursion}
use Rattle.bptree_bulk_load.specs.Rooms.{joined, pairs_under, AreAllPlanned, ArePlanned, IsFilledAt, IsPresentAt}
use Rattle.bptree_bulk_load.specs.declared.subtree.Subtree.{Subtree}
use Rattle.bptree_bulk.specs.Joining.{parts_of_both}
use Rattle.bptree_bulk.proofs.OwnLeaves.{own_filled, own_least, own_pairs, own_present}
use Rattle.bptree_bulk.proofs.Sides.{enough_leaves, joined_leaves}
use Rattle.bptree_keys.specs.Contents.{IsAscending}
use Rattle.bptree_keys.specs.declared.node_id.LeafNodeId.{LeafNodeId}
use Rattle.bptree_keys.proofs.PieceLemmas.{AllByRecursion-append}
use Rattle.bptree_nodes.specs.Inner.{Inner}
use Rattle.bptree_nodes.specs.Leaf.{Leaf}
use Rattle.bptree_nodes.specs.Slot.{Slots}
use Rattle.bptree_invariant.specs.Leaves.{pairs_of}
use Rattle.bptree_invariant.specs.NodeTree.{IsWhole, NodeTree}
use Rattle.bptree_invariant.specs.Shape.{leaves_at}
use Rattle.bptree_invariant.proofs.Walk.{flat-append}

module _ {X : Type 0} where
  some_part : (parts : List (List X)) → 0 < length (joined parts) → 0 < length parts
  some_part [] some = absurd (omega (arith, some))
  some_part (p ∷ ps) some = omega arith

  -- a property of each of several members, and of a member that is alone, holds of any number of
  -- them
  alone_or_several : (P : X → Type 0) (xs : List X) → (1 < length xs → AllByRecursion P xs) → ((x : X) → xs ≡ x ∷ [] → P x) → AllByRecursion P xs
  alone_or_several P [] several alone = tt
  alone_or_several P (x ∷ []) several alone = (alone x refl, tt)
  alone_or_several P (x ∷ y ∷ xs) several alone = several (omega arith)

-- each leaf of a tree of at least 16 pairs has as many
module _ {S K V A : Type 0} {cmp : K → K → Ordering} {is_summary : A → List K → Type 0} {slots : S → Slots (Inner K A) (Leaf K V)} {tree : NodeTree S K V A} (whole : IsWhole cmp is_summary slots tree) {ids : List LeafNodeId} (are : ids ≡ leaves_at (slots tree.store) tree.height tree.root) (long : 16 ≤ length tree.contents) where
  alone_has : (id : LeafNodeId) → ids ≡ id ∷ [] → pairs_under (slots tree.store) id ≡ tree.contents
  alone_has id alone = sym (append-nil (pairs_under (slots tree.store) id)) ∙ (ap (pairs_of (slots tree.store)) (sym alone) ∙ own_pairs whole are)

  pub least_each : AllByRecursion (λ (id : LeafNodeId). 16 ≤ length (pairs_under (slots tree.store) id)) ids
  least_each = alone_or_several (λ (id : LeafNodeId). 16 ≤ length (pairs_under (slots tree.store) id)) ids (own_least whole are) (λ id alone. omega (arith, long, ap length (alone_has id alone)))

  pub filled_each : IsAscending cmp tree.contents → AllByRecursion (IsFilledAt cmp (slots tree.store)) ids
  filled_each ascending = alone_or_several (IsFilledAt cmp (slots tree.store)) ids (own_filled whole are)
      (λ id alone. (
        (subst (AllByRecursion (IsPresentAt (slots tree.store))) alone (own_present whole are)).0,
        omega (arith, long, ap length (alone_has id alone)),
        subst (IsAscending cmp) (sym (alone_has id alone)) ascending,
      ))

module _ {K V A : Type 0} (one : Slots (Inner K A) (Leaf K V)) (ids : List LeafNodeId) (other : Slots (Inner K A) (Leaf K V)) (others : List LeafNodeId) where
  pub joined_both : joined (parts_of_both one ids other others) ≡ pairs_of one ids ++ pairs_of other others
  joined_both =
      flat-append (λ (p : List (K × V)). p) (map (pairs_under one) ids) (map (pairs_under other) others)
      ∙ (ap (λ m. m ++ joined (map (pairs_under other) others)) (joined_leaves one ids) ∙ ap (λ m. pairs_of one ids ++ m) (joined_leaves other others))

  pub both_planned : {cmp : K → K → Ordering} (is_summary : A → List K → Type 0) (pairs : List (K × V)) → pairs_of one ids ++ pairs_of other others ≡ pairs → AllByRecursion (λ (id : LeafNodeId). 16 ≤ length (pairs_under one id)) ids → AllByRecursion (λ (id : LeafNodeId). 16 ≤ length (pairs_under other id)) others
      → IsAscending cmp pairs → 0 < length pairs → length pairs < 2 ^ 64 → (new : Slots (Inner K A) (Leaf K V)) (own : List LeafNodeId) (trees : List (Subtree K A)) → ArePlanned cmp is_summary new own trees (parts_of_both one ids other others) → AreAllPlanned cmp is_summary new own trees (parts_of_both one ids other others)
  both_planned {cmp} is_summary pairs are least least' ascending some few new own trees planned =
      let all : joined (parts_of_both one ids other others) ≡ pairs = joined_both ∙ are in
      record {
        planned = planned;
        some = some_part (parts_of_both one ids other others) (omega (arith, some, ap length all));
        many = λ several. AllByRecursion-append (λ (p : List (K × V)). 16 ≤ length p) (map (pairs_under one) ids) (map (pairs_under other) others) (enough_leaves one ids least) (enough_leaves other others least');
        ascending = subst (IsAscending cmp) (sym all) ascending;
        few = omega (arith, few, ap length all);
      }
