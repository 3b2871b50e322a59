-- The parts of a whole over shards, and how they fit together.
use Rattle.std.specs.Prelude.{◌≡◌, ◌+◌, ◌<◌, ◌^◌, if◌then◌else◌, insert, ℕ, zero, suc, Bool, false, List, [], ◌∷◌, Option, length, map, take}
use Rattle.std.specs.declared.cmp.Ordering.{Ordering}
use Rattle.std.specs.Ordering.{is_gt}
use Rattle.std.specs.List.{remove, sum}
use Rattle.bptree_keys.specs.Contents.{last_member}
use Rattle.bptree_keys.specs.Pieces.{flatten}
use Rattle.bptree_shard_routing.specs.Lengths.{lengths_of}
use Rattle.bptree_shard_routing.specs.Shards.{AreShards, shard_of}

-- one list that is cut into shards at bounds
pub record Partition (K V : Type 0) : Type 0 where
  pub bounds : List K
  pub shards : List (List (K × V))

-- the whole list: the pairs of the shards, one after another
abbrev pub contents : {K V : Type 0} → Partition K V → List (K × V)
contents it = flatten it.shards

-- the shards are those of one ascending list, cut at the bounds; `lengths` are the numbers of their
-- pairs, whose sum fits a `usize`
pub record IsWholeOfShards {K V : Type 0} (cmp : K → K → Ordering) (bounds : List K) (shards : List (List (K × V))) (lengths : List ℕ) : Type 0 where
  pub are : AreShards cmp bounds shards
  pub counted : lengths ≡ lengths_of shards
  pub fits : sum lengths < 2 ^ 64

module _ {K : Type 0} (cmp : K → K → Ordering) where
  -- a bound is above the first of those behind it
  abbrev pub is_above_first : K → List K → Bool
  is_above_first bound [] = false
  is_above_first bound (next ∷ later) = is_gt (cmp bound next)

  -- the bound at an index is above the next one
  abbrev pub descends_at : List K → ℕ → Bool
  descends_at [] i = false
  descends_at (bound ∷ bounds) zero = is_above_first bound bounds
  descends_at (bound ∷ bounds) (suc i) = descends_at bounds i

-- the last pair of the shards before an end
abbrev pub last_pair_before : {T X : Type 0} → (T → List X) → List T → ℕ → Option X
last_pair_before pairs items end = last_member (flatten (take end (map pairs items)))

module _ {K : Type 0} (cmp : K → K → Ordering) where
  -- the bounds with one more, at which the shard of that key is cut
  abbrev pub bounds_with : List K → K → List K
  bounds_with bounds k = insert bounds (shard_of cmp bounds k) k

  -- the bounds after a shard and the next one became one, without the bound between them, or
  -- without the one behind it if that is the lesser
  abbrev pub bounds_merged : List K → ℕ → List K
  bounds_merged bounds shard = remove bounds (if descends_at cmp bounds shard then shard + 1 else shard)

  -- if there is a next shard, its bound is removed as in `bounds_merged`
  abbrev pub MergesBounds : {V : Type 0} → ℕ → Partition K V → Partition K V → Type 0
  MergesBounds shard old new = shard < length old.bounds → new.bounds ≡ bounds_merged old.bounds shard
