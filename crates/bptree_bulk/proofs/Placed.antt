-- A leaf of a tree, in the list of the ids of all leaves.
use Rattle.std.proofs.Common.{◌≡◌, ◌∙◌, ◌+◌, ◌<◌, ◌≤◌, ℕ, sym, ap, List, [], ◌∷◌, ◌++◌, length, arith, length-append}
use Rattle.std.specs.declared.cmp.Ordering.{Ordering}
use Rattle.std.specs.List.{AllByRecursion}
use Rattle.bptree_bulk_load.specs.Rooms.{id_count, pairs_under}
use Rattle.bptree_keys.specs.declared.node_id.LeafNodeId.{LeafNodeId}
use Rattle.bptree_keys.specs.declared.node_id.NodeId.{NodeId}
use Rattle.bptree_nodes.specs.Inner.{Inner}
use Rattle.bptree_nodes.specs.Leaf.{Leaf}
use Rattle.bptree_nodes.specs.Slot.{Slot, Slots, Free, Held, Present}
use Rattle.bptree_bulk.specs.Cut.{pairs_before}
use Rattle.bptree_bulk.proofs.Cuts.{at_leaf}
use Rattle.bptree_search.proofs.Beside.{others_have}
use Rattle.bptree_ranges.specs.Ranges.{ahead, start}
use Rattle.bptree_ranges.proofs.Ranged.{ahead_of, start_is}
use Rattle.bptree_invariant.specs.Leaves.{pairs_of, IsFirstLeaf, IsLeafOf}
use Rattle.bptree_invariant.specs.Shape.{leaf_pairs, leaves_at, pairs_at, stored, IsWellShaped}
use Rattle.bptree_invariant.proofs.Down.{pairs_of_leaves}
use Rattle.bptree_invariant.proofs.Hinted.{count_leaves}

-- the leaf is in this list, with so many before it
pub record IsAt {K V A : Type 0} (slots : Slots (Inner K A) (Leaf K V)) (h : ℕ) (root : NodeId) (ids : List LeafNodeId) (leaf : LeafNodeId) (i : ℕ) : Type 0 where
  pub start_is : pairs_before slots ids i ≡ start slots h root leaf
  pub next : pairs_before slots ids (i + 1) ≡ pairs_before slots ids i + length (pairs_under slots leaf)
  pub within : i + 1 ≤ length ids

module _ {K V A : Type 0} {cmp : K → K → Ordering} (is_summary : A → List K → Type 0) (slots : Slots (Inner K A) (Leaf K V)) (h : ℕ) (root : NodeId) (shape : IsWellShaped cmp is_summary slots h root) (ids : List LeafNodeId) (are : ids ≡ leaves_at slots h root) where
  pub is_at : (leaf : LeafNodeId) (in' : IsLeafOf slots h root leaf) (i : ℕ) → i ≡ length (ahead leaf.0 ids) → IsAt slots h root ids leaf i
  is_at leaf in' i at =
      let same : i ≡ length in'.before = at ∙ (ap (λ l. length (ahead leaf.0 l)) are ∙ ap length (ahead_of is_summary slots h root shape leaf in')) in
      let here = at_leaf slots ids in'.before leaf in'.after (are ∙ in'.leaves) in
      record {
        start_is = ap (pairs_before slots ids) same ∙ (here.0 ∙ sym (start_is is_summary slots h root shape leaf in'));
        next = ap (λ n. pairs_before slots ids (n + 1)) same ∙ (here.1 ∙ ap (λ n. n + length (pairs_under slots leaf)) (sym here.0 ∙ ap (pairs_before slots ids) (sym same)));
        within = omega (arith, here.2, same);
      }

  pub all_pairs : pairs_of slots ids ≡ pairs_at slots h root
  all_pairs = ap (pairs_of slots) are ∙ pairs_of_leaves slots h root

  -- no leaf is in the list twice
  pub once : (n : ℕ) → id_count ids n ≤ 1
  once n = omega (arith, count_leaves slots h root n, shape.leaves n, stored_le (slots.leaf n), ap (λ l. id_count l n) are)
    where
      stored_le : (s : Slot (Leaf K V)) → stored s ≤ 1
      stored_le Free = omega arith
      stored_le Held = omega arith
      stored_le (Present node) = omega arith

  -- a leaf begins at 0 if and only if it is the first
  module _ (leaf first : LeafNodeId) (in' : IsLeafOf slots h root leaf) (is : IsFirstLeaf slots h root first) where
    pub first_starts : first ≡ leaf → start slots h root leaf ≡ 0
    first_starts same = ap (start slots h root) (sym same) ∙ (start_is is_summary slots h root shape first is.stored ∙ ap (λ l. length (pairs_of slots l)) is.first)

    pub starts_first : start slots h root leaf ≡ 0 → first ≡ leaf
    starts_first none = go in'.before (sym (start_is is_summary slots h root shape leaf in') ∙ none) (others_have slots cmp h root leaf in' shape.tree).0 in'.leaves
      where
        heads : (rest rest' : List LeafNodeId) → leaf ∷ rest ≡ first ∷ rest' → first ≡ leaf
        heads rest rest' same = cc

        go : (before : List LeafNodeId) → length (pairs_of slots before) ≡ 0 → AllByRecursion (λ (l : LeafNodeId). 0 < length (leaf_pairs (slots.leaf l.0))) before → leaves_at slots h root ≡ before ++ leaf ∷ in'.after → first ≡ leaf
        go [] zero all leaves = heads in'.after is.stored.after (sym leaves ∙ (is.stored.leaves ∙ ap (λ l. l ++ first ∷ is.stored.after) is.first))
        go (x ∷ before) some all leaves = absurd (omega (arith, some, all.0, length-append (leaf_pairs (slots.leaf x.0)) (pairs_of slots before)))
