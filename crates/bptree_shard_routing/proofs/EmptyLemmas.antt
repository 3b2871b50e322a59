-- Lemmas about shards without pairs.
use Rattle.std.proofs.Common.{◌≡◌, ◌+◌, List, [], ◌∷◌, ◌++◌, length, refl, sym, subst, arith}
use Rattle.std.specs.declared.cmp.Ordering.{Ordering}
use Rattle.std.specs.declared.cmp.Ordering.TheVariants.{Less}
use Rattle.std.specs.List.Sorted.{IsStrictlySortedBy}
use Rattle.std.proofs.lemmas.List.{nil_from_length}
use Rattle.bptree_keys.specs.Contents.{IsAscending}
use Rattle.bptree_keys.specs.Pieces.{flatten}
use Rattle.bptree_keys.specs.Indexes.{AllCompare}
use Rattle.bptree_shard_routing.specs.Shards.{AreShards, LieBetween, NoneBelow}

module _ {X : Type 0} where
  left_nil : (xs ys : List X) → xs ++ ys ≡ [] → xs ≡ []
  left_nil [] ys none = refl
  left_nil (x ∷ xs) ys none = absurd cc

  right_nil : (xs ys : List X) → xs ++ ys ≡ [] → ys ≡ []
  right_nil [] ys none = none
  right_nil (x ∷ xs) ys none = absurd cc

none_ascend : {K : Type 0} (cmp : K → K → Ordering) → IsStrictlySortedBy cmp []
unfolding IsStrictlySortedBy
none_ascend cmp = tt

module _ {K V : Type 0} (cmp : K → K → Ordering) where
  empties_lie_between : (bounds : List K) (shards : List (List (K × V))) → length shards ≡ length bounds + 1 → flatten shards ≡ [] → LieBetween cmp bounds shards
  empties_lie_between bounds [] count none = absurd (omega arith)
  empties_lie_between [] (piece ∷ pieces) count none = nil_from_length pieces (omega (arith, count))
  empties_lie_between (bound ∷ bounds) (piece ∷ pieces) count none = (
    subst (AllCompare cmp bound Less) (sym (left_nil piece (flatten pieces) none)) tt,
    subst (NoneBelow cmp bound) (sym (right_nil piece (flatten pieces) none)) tt,
    empties_lie_between bounds pieces (omega (arith, count)) (right_nil piece (flatten pieces) none),
  )

  pub empty_shards : (bounds : List K) (shards : List (List (K × V))) → length shards ≡ length bounds + 1 → flatten shards ≡ [] → AreShards cmp bounds shards
  empty_shards bounds shards count none = record { between = empties_lie_between bounds shards count none; ascending = subst (IsAscending cmp) (sym none) (none_ascend cmp) }
