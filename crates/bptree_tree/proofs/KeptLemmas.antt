-- The pairs that a closure keeps, and the leaves that they are in.
use Rattle.std.proofs.Common.{◌≡◌, ◌∙◌, ◌^◌, ◌<◌, ◌≤◌, Bool, true, false, List, [], ◌∷◌, ◌++◌, length, sym, ap, subst, arith, append_assoc, append-nil, length-append}
use Rattle.std.proofs.lemmas.Map.Keys.{sorted_head, sorted_tail}
use Rattle.std.specs.Borrow.{Bor, MutBor}
use Rattle.std.specs.Fn.{Mut}
use Rattle.std.specs.Cmp.{IsTotalOrder}
use Rattle.std.specs.List.{AllByRecursion}
use Rattle.std.specs.List.Sorted.{IsStrictlySortedBy}
use Rattle.std.specs.Map.{keys_of}
use Rattle.std.specs.declared.alloc.Global.{Global}
use Rattle.std.specs.declared.boxed.Box.{Box}
use Rattle.std.specs.declared.cmp.Ordering.{Ordering}
use Rattle.std.specs.declared.cmp.Ordering.TheVariants.{Less}
use Rattle.bptree_bulk_load.specs.Rooms.{joined, parts_of}
use Rattle.bptree_invariant.proofs.Ordered.{ascending_after}
use Rattle.bptree_invariant.proofs.Spot.{ascending_before}
use Rattle.bptree_keys.specs.Contents.{IsAscending}
use Rattle.bptree_keys.proofs.Ascending.{ascending_cons}
use Rattle.bptree_nodes.specs.Leaf.{Leaf}
use Rattle.bptree_nodes.specs.Retaining.{IsRetained}
use Rattle.bptree_keys.proofs.PieceLemmas.{AllByRecursion-append}
use Rattle.bptree_tree.specs.Building.{AreAllLeaves, IsFilledLeaf}
use Rattle.bptree_tree.specs.Keeping.{pairs_to_last, AreOpen, HasEnough}
use Rattle.bptree_tree.proofs.Builds.{one_part}

module _ {F K V : Type 0} (calls : Mut F (Bor K × (MutBor V × Unit {0})) (Bool × (MutBor V × Unit {0}))) where
  -- what holds of all keys holds of those that stay
  keys_kept : (P : K → Type 0) (f : F) (old new : List (K × V)) → IsRetained calls f old new → AllByRecursion P (keys_of old) → AllByRecursion P (keys_of new)
  keys_kept P f [] new r all = subst (λ l. AllByRecursion P (keys_of l)) (sym r) tt
  keys_kept P f (p ∷ old) new (true, g, q, call, stay, r, is) all = subst (λ l. AllByRecursion P (keys_of l)) (sym is) (subst P (sym call.0) all.0, keys_kept P g old stay r all.1)
  keys_kept P f (p ∷ old) new (false, g, q, call, stay, r, is) all = subst (λ l. AllByRecursion P (keys_of l)) (sym is) (keys_kept P g old stay r all.1)

  -- no more pairs stay than there are
  pub kept_fewer : (f : F) (old new : List (K × V)) → IsRetained calls f old new → length new ≤ length old
  kept_fewer f [] new r = omega (arith, ap length r)
  kept_fewer f (p ∷ old) new (true, g, q, call, stay, r, is) = omega (arith, ap length is, kept_fewer g old stay r)
  kept_fewer f (p ∷ old) new (false, g, q, call, stay, r, is) = omega (arith, ap length is, kept_fewer g old stay r)

  -- the pairs that stay ascend
  pub kept_ascends : (cmp : K → K → Ordering) (f : F) (old new : List (K × V)) → IsRetained calls f old new → IsAscending cmp old → IsAscending cmp new
  kept_ascends cmp f [] new r ascending = subst (IsAscending cmp) (sym r) ascending
  kept_ascends cmp f (p ∷ old) new (true, g, q, call, stay, r, is) ascending =
      let above = keys_kept (λ key. cmp p.0 key ≡ Less) g old stay r (sorted_head cmp p.0 (keys_of old) ascending) in
      let rest = kept_ascends cmp g old stay r (sorted_tail cmp p.0 (keys_of old) ascending) in
      subst (IsAscending cmp) (sym is) (subst (λ k. IsStrictlySortedBy cmp (k ∷ keys_of stay)) (sym call.0) (ascending_cons cmp p.0 (keys_of stay) above rest))
  kept_ascends cmp f (p ∷ old) new (false, g, q, call, stay, r, is) ascending =
      subst (IsAscending cmp) (sym is) (kept_ascends cmp g old stay r (sorted_tail cmp p.0 (keys_of old) ascending))

module _ {K V : Type 0} where
  pub joined_with : (leaves : List (Box (Leaf K V) Global)) (leaf : Box (Leaf K V) Global) → joined (parts_of (leaves ++ leaf ∷ [])) ≡ joined (parts_of leaves) ++ leaf.value.pairs
  joined_with [] leaf = append-nil leaf.value.pairs
  joined_with (l ∷ leaves) leaf = ap (λ ps. l.value.pairs ++ ps) (joined_with leaves leaf) ∙ sym (append_assoc l.value.pairs (joined (parts_of leaves)) leaf.value.pairs)

  -- the parts are as long as the leaves have pairs
  pub enough_parts : (leaves : List (Box (Leaf K V) Global)) → AllByRecursion HasEnough leaves → AllByRecursion (λ (part : List (K × V)). 16 ≤ length part) (parts_of leaves)
  enough_parts [] all = tt
  enough_parts (l ∷ leaves) all = (all.0, enough_parts leaves all.1)

  -- leaves whose pairs ascend together are filled
  pub all_filled_leaves : {cmp : K → K → Ordering} (total : IsTotalOrder cmp) (leaves : List (Box (Leaf K V) Global)) → AllByRecursion (λ (leaf : Box (Leaf K V) Global). 0 < length leaf.value.pairs) leaves → IsAscending cmp (joined (parts_of leaves)) → AllByRecursion (IsFilledLeaf cmp) leaves
  all_filled_leaves total [] some ascending = tt
  all_filled_leaves {cmp = cmp} total (l ∷ leaves) some ascending = (
    (some.0, ascending_before cmp l.value.pairs (joined (parts_of leaves)) ascending),
    all_filled_leaves total leaves some.1 (ascending_after total l.value.pairs (joined (parts_of leaves)) ascending),
  )

  pub enough_some : (leaves : List (Box (Leaf K V) Global)) → AllByRecursion HasEnough leaves → AllByRecursion (λ (leaf : Box (Leaf K V) Global). 0 < length leaf.value.pairs) leaves
  enough_some [] all = tt
  enough_some (l ∷ leaves) all = (omega (arith, all.0), enough_some leaves all.1)

  -- leaves and the open one behind them can be all the leaves of a tree, if this one has a pair
  pub all_kept : {cmp : K → K → Ordering} (total : IsTotalOrder cmp) (leaves all : List (Box (Leaf K V) Global)) (last : Box (Leaf K V) Global) → AreOpen leaves last → 0 < length last.value.pairs → IsAscending cmp (pairs_to_last leaves last) → length (pairs_to_last leaves last) < 2 ^ 64 → all ≡ leaves ++ last ∷ [] → AreAllLeaves cmp all
  all_kept {cmp = cmp} total leaves all last are_open some ascending few is =
      let pairs : joined (parts_of all) ≡ pairs_to_last leaves last = ap (λ l. joined (parts_of l)) is ∙ joined_with leaves last in
      let ascends = subst (IsAscending cmp) (sym pairs) ascending in
      let each = subst (AllByRecursion (λ (leaf : Box (Leaf K V) Global). 0 < length leaf.value.pairs)) (sym is) (AllByRecursion-append (λ (leaf : Box (Leaf K V) Global). 0 < length leaf.value.pairs) leaves (last ∷ []) (enough_some leaves are_open.each) (some, tt)) in
      record {
        some = omega (arith, ap length is, length-append leaves (last ∷ []));
        filled = all_filled_leaves total all each ascends;
        many = λ several.
            let before : 0 < length leaves = omega (arith, several, one_part all, ap length is, length-append leaves (last ∷ [])) in
            enough_parts all (subst (AllByRecursion HasEnough) (sym is) (AllByRecursion-append HasEnough leaves (last ∷ []) are_open.each (are_open.last_enough before, tt)));
        ascending = ascends;
        few = omega (arith, ap length pairs, few);
      }
