-- One ascending list in shards: consecutive pieces of the list, cut at ascending bounds. A shard
-- may be empty.
use Rattle.std.specs.Prelude.{◌≡◌, ◌+◌, ◌-◌, ℕ, zero, suc, Bool, false, true, List, [], ◌∷◌, Option, Some, None, length, set, not, filter, reverse, if◌then◌else◌}
use Rattle.std.specs.declared.cmp.Ordering.{Ordering}
use Rattle.std.specs.declared.cmp.Ordering.TheVariants.{Less}
use Rattle.std.specs.Ordering.{is_lt, is_gt}
use Rattle.std.specs.List.{AllByRecursion}
use Rattle.bptree_keys.specs.Contents.{IsAscending}
use Rattle.bptree_keys.specs.Pieces.{flatten, piece_at}
use Rattle.bptree_keys.specs.Indexes.{AllCompare}
use Rattle.bptree_keys.specs.Ranges.{between, part}

module _ {K : Type 0} (cmp : K → K → Ordering) where
  -- The index of a key's shard, which ends at the first bound above the key. A key that equals a
  -- bound belongs behind the bound.
  abbrev pub shard_of : List K → K → ℕ
  shard_of [] k = zero
  shard_of (bound ∷ bounds) k = if is_lt (cmp k bound) then zero else suc (shard_of bounds k)

  -- The index of the last shard that may have a key below k. It ends at the first bound that is not
  -- below k.
  abbrev pub shard_below : List K → K → ℕ
  shard_below [] k = zero
  shard_below (bound ∷ bounds) k = if is_gt (cmp k bound) then suc (shard_below bounds k) else zero

  -- The number of bounds before the first one that is above k, or with `true` that is not below k.
  abbrev pub bounds_before : Bool → List K → K → ℕ
  bounds_before false bounds k = shard_of bounds k
  bounds_before true bounds k = shard_below bounds k

  -- The first and the last shard that may have a pair between two keys. Either key may be left out.
  abbrev pub first_shard : List K → Option K → ℕ
  first_shard bounds None = zero
  first_shard bounds (Some lo) = shard_of bounds lo

  abbrev pub last_shard : List K → Option K → ℕ
  last_shard bounds None = length bounds
  last_shard bounds (Some hi) = shard_below bounds hi

  module _ {V : Type 0} where
    -- No key of a list is below the bound.
    abbrev pub NoneBelow : K → List (K × V) → Type 0
    NoneBelow bound l = AllByRecursion (λ pair. is_lt (cmp pair.0 bound) ≡ false) l

    -- Each piece is between its bounds. There is one piece more than there are bounds.
    abbrev pub LieBetween : List K → List (List (K × V)) → Type 0
    LieBetween bounds [] = ⊥
    LieBetween [] (piece ∷ pieces) = pieces ≡ []
    LieBetween (bound ∷ bounds) (piece ∷ pieces) = AllCompare cmp bound Less piece × NoneBelow bound (flatten pieces) × LieBetween bounds pieces

    -- The pieces are between the bounds, and one after another they are one ascending list.
    pub record AreShards (bounds : List K) (shards : List (List (K × V))) : Type 0 where
      pub between : LieBetween bounds shards
      pub ascending : IsAscending cmp (flatten shards)

    -- The shard of a key.
    abbrev pub own_shard : List K → List (List (K × V)) → K → List (K × V)
    own_shard bounds shards k = piece_at shards (shard_of bounds k)

    -- The last shard that may have a key below k.
    abbrev pub lower_shard : List K → List (List (K × V)) → K → List (K × V)
    lower_shard bounds shards k = piece_at shards (shard_below bounds k)

    -- The shards that may have a pair between two keys.
    abbrev pub shards_between : List K → List (List (K × V)) → Option K → Option K → List (List (K × V))
    shards_between bounds shards lo hi = part shards (first_shard bounds lo) (last_shard bounds hi + 1 - first_shard bounds lo)

    -- If `new` replaces a key's shard, the pieces are shards at the same bounds, and their whole is
    -- `whole`.
    abbrev pub IsOneChanged : List K → List (List (K × V)) → K → List (K × V) → List (K × V) → Type 0
    IsOneChanged bounds shards k new whole =
        let after = set shards (shard_of bounds k) new in AreShards bounds after × (flatten after ≡ whole)

    -- The pairs from a key on, and the pairs up to a key in descending order.
    abbrev pub from_key : List (K × V) → K → List (K × V)
    from_key l k = between cmp l (Some k) None

    abbrev pub back_from : List (K × V) → K → List (K × V)
    back_from l k = reverse (filter (λ pair. not (is_gt (cmp pair.0 k))) l)
