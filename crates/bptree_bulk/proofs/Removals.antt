-- The leaves around a gap are all those of a tree, and their pairs are all but those of the gap.
use Rattle.std.proofs.Common.{◌≡◌, ◌∙◌, ◌+◌, ◌-◌, ◌<◌, ◌≤◌, ◌^◌, ℕ, inl, inr, sym, ap, subst, List, [], ◌++◌, length, map, take, drop, arith, append_assoc, append-nil, length-append}
use Rattle.std.proofs.Math.Seq.{drop-length}
use Rattle.std.proofs.lemmas.Bool.Decides.{eqb_tells}
use Rattle.std.proofs.lemmas.List.{length-drop, take-append-drop, take_rest}
use Rattle.std.specs.Cmp.{IsTotalOrder}
use Rattle.std.specs.List.{AllByRecursion}
use Rattle.std.specs.declared.alloc.Global.{Global}
use Rattle.std.specs.declared.boxed.Box.{Box}
use Rattle.std.specs.declared.cmp.Ordering.{Ordering}
use Rattle.bptree_bulk_load.specs.Rooms.{joined, pairs_under, parts_of, AreAllPlanned, ArePlanned}
use Rattle.bptree_bulk_load.specs.declared.subtree.Subtree.{Subtree}
use Rattle.bptree_bulk_load.proofs.LeafIds.{map_on}
use Rattle.bptree_bulk.specs.Filling.{AreParts}
use Rattle.bptree_bulk.specs.Gap.{gap_begins, gap_ends, without_part, IsGap}
use Rattle.bptree_bulk.specs.Removing.{border_kept, parts_around}
use Rattle.bptree_bulk.specs.declared.gap.Gap.{Gap}
use Rattle.bptree_bulk.proofs.Dealt.{as_long, pairs_in, parts_dropped, parts_taken, poured_part}
use Rattle.bptree_bulk.proofs.Gaps.{all_kept, edge, kept_len}
use Rattle.bptree_bulk.proofs.Kept.{ascending_around}
use Rattle.bptree_bulk.proofs.Segments.{drop_more}
use Rattle.bptree_bulk.proofs.Sides.{enough_leaves, joined_leaves, several_dropped, several_taken}
use Rattle.bptree_bulk.proofs.Tails.{joined_parts, parts_enough, parts_several, parts_some}
use Rattle.bptree_keys.specs.Contents.{IsAscending}
use Rattle.bptree_keys.specs.declared.node_id.LeafNodeId.{LeafNodeId}
use Rattle.bptree_keys.proofs.PieceLemmas.{AllByRecursion-append}
use Rattle.bptree_nodes.specs.Inner.{Inner}
use Rattle.bptree_nodes.specs.Leaf.{Leaf}
use Rattle.bptree_nodes.specs.Slot.{Slots}
use Rattle.bptree_invariant.specs.Leaves.{pairs_of}
use Rattle.bptree_invariant.proofs.Walk.{flat-append}

-- what stays of an ascending list ascends, and is no longer
pub without_ascends : {K V : Type 0} {cmp : K → K → Ordering} (total : IsTotalOrder cmp) (m n : ℕ) (l : List (K × V)) → m ≤ n → IsAscending cmp l → IsAscending cmp (without_part m n l)
without_ascends {cmp = cmp} total m n l order ascending =
    let sum : m + (n - m) ≡ n = omega (arith, order) in
    let rest : drop m l ≡ take (n - m) (drop m l) ++ drop n l = sym (take-append-drop (n - m) (drop m l)) ∙ ap (λ r. take (n - m) (drop m l) ++ r) (drop_more m (n - m) l ∙ ap (λ k. drop k l) sum) in
    ascending_around total (take m l) (take (n - m) (drop m l)) (drop n l) (subst (IsAscending cmp) (sym (take-append-drop m l) ∙ ap (λ r. take m l ++ r) rest) ascending)

pub without_shorter : {X : Type 0} (m n : ℕ) (l : List X) → m ≤ n → length (without_part m n l) ≤ length l
without_shorter m n l order =
    omega (arith, order, length-append (take m l) (drop n l), length-drop n l, length-drop m l, length-append (take m l) (drop m l), ap length (take-append-drop m l))

module _ {K V A : Type 0} (slots : Slots (Inner K A) (Leaf K V)) (ids : List LeafNodeId) (gap : Gap) (is : IsGap slots ids gap) where
  -- a property of all leaves, if there are several, holds of those before the border and behind it
  module _ (P : LeafNodeId → Type 0) (all : 1 < length ids → AllByRecursion P ids) where
    pub all_before : AllByRecursion P (take gap.from ids)
    all_before = several_taken P gap.from ids all (λ some. omega (arith, some, is.order, is.within))

    pub all_behind : AllByRecursion P (drop gap.to ids)
    all_behind = several_dropped P gap.to ids is.within all (λ more. omega (arith, more, is.order))

  abbrev kept : List (K × V)
  kept = border_kept slots ids gap

  -- parts of the border's pairs that stay
  module _ (parts : List (List (K × V))) (are : AreParts kept parts []) where
    pub around_all : joined (parts_around slots ids gap parts) ≡ without_part (gap_begins slots ids gap) (gap_ends slots ids gap) (pairs_of slots ids)
    around_all =
        let first = map (pairs_under slots) (take gap.from ids) in
        let last = map (pairs_under slots) (drop gap.to ids) in
        flat-append (λ (p : List (K × V)). p) first (parts ++ last)
        ∙ (ap (λ m. m ++ joined (parts ++ last)) (joined_leaves slots (take gap.from ids))
        ∙ (ap (λ m. pairs_of slots (take gap.from ids) ++ m)
        (flat-append (λ (p : List (K × V)). p) parts last ∙ (ap (λ m. m ++ joined last) (joined_parts kept parts are) ∙ ap (λ m. kept ++ m) (joined_leaves slots (drop gap.to ids))))
        ∙ all_kept slots ids gap is))

    module _ (full : 1 < length ids → AllByRecursion (λ (id : LeafNodeId). 16 ≤ length (pairs_under slots id)) ids) where
      abbrev IsEnough : List (K × V) → Type 0
      IsEnough p = 16 ≤ length p

      abbrev IsFull : LeafNodeId → Type 0
      IsFull id = 16 ≤ length (pairs_under slots id)

      around_enough : 16 ≤ gap.count → AllByRecursion IsEnough (parts_around slots ids gap parts)
      around_enough enough =
          AllByRecursion-append IsEnough (map (pairs_under slots) (take gap.from ids)) (parts ++ map (pairs_under slots) (drop gap.to ids)) (enough_leaves slots (take gap.from ids) (all_before IsFull full))
          (AllByRecursion-append IsEnough parts (map (pairs_under slots) (drop gap.to ids)) (parts_enough kept parts are (λ _. omega (arith, enough, kept_len slots ids gap is))) (enough_leaves slots (drop gap.to ids) (all_behind IsFull full)))

      around_many : 1 < length (parts_around slots ids gap parts) → AllByRecursion IsEnough (parts_around slots ids gap parts)
      around_many several = elim (eqb_tells gap.from 0) [
        | inl none ↦ elim (eqb_tells gap.to (length ids)) [
          | inl end ↦ (
              let alone : parts_around slots ids gap parts ≡ parts =
              ap (λ n. map (pairs_under slots) (take n ids) ++ (parts ++ map (pairs_under slots) (drop gap.to ids))) none.1 ∙ (ap (λ xs. parts ++ map (pairs_under slots) xs) (ap (λ n. drop n ids) end.1 ∙ drop-length ids) ∙ append-nil parts) in
              subst (AllByRecursion IsEnough) (sym alone) (parts_several kept parts are (subst (λ ps. 1 < length ps) alone several))
              )
          | inr more ↦ around_enough (is.enough_behind (omega (arith, more.1, is.within)))
        ]
        | inr some ↦ around_enough (is.enough_before (omega (arith, some.1)))
      ]

      pub around_planned : {cmp : K → K → Ordering} (total : IsTotalOrder cmp) (is_summary : A → List K → Type 0) → IsAscending cmp (pairs_of slots ids) → length (pairs_of slots ids) < 2 ^ 64 → (new : Slots (Inner K A) (Leaf K V)) (own : List LeafNodeId) (trees : List (Subtree K A))
          → ArePlanned cmp is_summary new own trees (parts_around slots ids gap parts) → AreAllPlanned cmp is_summary new own trees (parts_around slots ids gap parts)
      around_planned {cmp} total is_summary ascending few new own trees planned =
          let order : gap_begins slots ids gap ≤ gap_ends slots ids gap = omega (arith, is.rises) in
          record {
            planned = planned;
            some = omega (arith, parts_some kept parts are (omega (arith, kept_len slots ids gap is, is.some)), length-append (map (pairs_under slots) (take gap.from ids)) (parts ++ map (pairs_under slots) (drop gap.to ids)), length-append parts (map (pairs_under slots) (drop gap.to ids)));
            many = around_many;
            ascending = subst (IsAscending cmp) (sym around_all) (without_ascends total (gap_begins slots ids gap) (gap_ends slots ids gap) (pairs_of slots ids) order ascending);
            few = omega (arith, few, ap length around_all, without_shorter (gap_begins slots ids gap) (gap_ends slots ids gap) (pairs_of slots ids) order);
          }

  -- leaves that were stored under these ids
  module _ (boxes : List (Box (Leaf K V) Global)) (all : parts_of boxes ≡ map (pairs_under slots) ids) where
    pub poured_edge : joined (parts_of (take (gap.to - gap.from) (drop gap.from boxes))) ≡ edge slots ids gap is
    poured_edge = poured_part slots ids boxes all gap.from (gap.to - gap.from)

    -- the leaves of the new tree
    pub around_dealt : (none one two three rest : List (Box (Leaf K V) Global)) (parts : List (List (K × V))) (count : ℕ) → none ≡ [] → one ≡ none ++ take gap.from boxes → parts_of two ≡ parts_of one ++ parts → rest ≡ drop (gap.to - gap.from) (drop gap.from boxes) → count ≡ length ids - gap.to → three ≡ two ++ take count rest
        → parts_of three ≡ parts_around slots ids gap parts
    around_dealt none one two three rest parts count empty first second rest_is count_is third =
        let before : one ≡ take gap.from boxes = first ∙ ap (λ m. m ++ take gap.from boxes) empty in
        let same : rest ≡ drop gap.to boxes = rest_is ∙ (drop_more gap.from (gap.to - gap.from) boxes ∙ ap (λ n. drop n boxes) (omega (arith, is.order))) in
        let left : take count rest ≡ drop gap.to boxes = ap (take count) same ∙ (ap (λ n. take n (drop gap.to boxes)) (count_is ∙ ap (λ n. n - gap.to) (sym (as_long slots ids boxes all))) ∙ take_rest boxes gap.to) in
        ap parts_of (third ∙ ap (λ m. two ++ m) left)
        ∙ (map_on pairs_in two (drop gap.to boxes)
        ∙ (ap (λ m. m ++ parts_of (drop gap.to boxes)) (second ∙ ap (λ m. m ++ parts) (ap parts_of before ∙ parts_taken slots ids boxes all gap.from))
        ∙ (append_assoc (map (pairs_under slots) (take gap.from ids)) parts (parts_of (drop gap.to boxes)) ∙ ap (λ m. map (pairs_under slots) (take gap.from ids) ++ (parts ++ m)) (parts_dropped slots ids boxes all gap.to))))
