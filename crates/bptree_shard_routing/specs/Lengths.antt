-- What the lengths of the shards determine: which shard has an index, which shards have a pair, and
-- which shards have a part of a page.
use Rattle.std.specs.Prelude.{◌≡◌, ◌≤◌, ◌<◌, ◌+◌, ◌-◌, ℕ, List, [], ◌∷◌, ◌++◌, Option, Some, None, length, map, take, min, reverse, slice_get, slice_index}
use Rattle.std.specs.List.{sum}
use Rattle.bptree_keys.specs.Contents.{last_member}
use Rattle.bptree_keys.specs.Pieces.{flatten, piece_at}
use Rattle.bptree_keys.specs.Ranges.{part}
use Rattle.bptree_shard_routing.specs.declared.combining.Part.{Part}

-- The number of members of each piece.
abbrev pub lengths_of : {X : Type 0} → List (List X) → List ℕ
lengths_of pieces = map length pieces

module _ (lengths : List ℕ) where
  -- The member at index `index` of the whole is the member at index `own` of this shard.
  pub record IsIndexInShard (index shard own : ℕ) : Type 0 where
    pub inside : own < slice_index lengths shard
    pub sum_is : index ≡ sum (take shard lengths) + own

  -- The shard that has an index of the whole, and the index in that shard. `None` past the end.
  abbrev pub IsIndexFound : ℕ → Option (ℕ × ℕ) → Type 0
  IsIndexFound index None = sum lengths ≤ index
  IsIndexFound index (Some at) = IsIndexInShard index at.0 at.1

  -- No shard from `from` on and before `to` has a pair.
  abbrev pub AreAllEmpty : ℕ → ℕ → Type 0
  AreAllEmpty from to = (i : ℕ) → from ≤ i → i < to → slice_index lengths i ≡ 0

  -- The first shard from `from` on and before `to` that has a pair. `None` if no shard there has a
  -- pair.
  abbrev pub IsFirstFull : ℕ → ℕ → Option ℕ → Type 0
  IsFirstFull from to None = AreAllEmpty from to
  IsFirstFull from to (Some i) = (from ≤ i) × (i < to) × (0 < slice_index lengths i) × AreAllEmpty from i

  -- The last shard before `to` that has a pair. `None` if no shard there has a pair.
  abbrev pub IsLastFull : ℕ → Option ℕ → Type 0
  IsLastFull to None = AreAllEmpty 0 to
  IsLastFull to (Some i) = (i < to) × (0 < slice_index lengths i) × AreAllEmpty (i + 1) to

  -- The part of a page that one shard has. The page is n pairs from index `index` on. The part has
  -- at least one pair, and as many as the shard has of the page.
  pub record IsFirstPart (index n : ℕ) (first : Part) : Type 0 where
    pub index_is : IsIndexInShard index first.shard first.from
    pub some : 0 < first.count
    pub count_is : first.count ≡ min n (slice_index lengths first.shard - first.from)

  -- The first part of a page. `None` if the page has no pair.
  abbrev pub IsNextPart : ℕ → ℕ → Option Part → Type 0
  IsNextPart index n None = min n (sum lengths - index) ≡ 0
  IsNextPart index n (Some first) = IsFirstPart index n first

  -- The parts of a page, one after another. No pair of the page is behind them.
  abbrev pub ArePartsOf : ℕ → ℕ → List Part → Type 0
  ArePartsOf index n [] = IsNextPart index n None
  ArePartsOf index n (first ∷ rest) = IsFirstPart index n first × ArePartsOf (index + first.count) (n - first.count) rest

module _ {X : Type 0} (shards : List (List X)) where
  -- The member of a shard at an index, the first and the last member of a shard, and a part of a
  -- shard.
  abbrev pub member_in : Option (ℕ × ℕ) → Option X
  member_in None = None
  member_in (Some at) = slice_get (piece_at shards at.0) at.1

  abbrev pub first_in : Option ℕ → Option X
  first_in None = None
  first_in (Some i) = slice_get (piece_at shards i) 0

  abbrev pub last_in : Option ℕ → Option X
  last_in None = None
  last_in (Some i) = last_member (piece_at shards i)

  abbrev pub part_in : Part → List X
  part_in p = part (piece_at shards p.shard) p.from p.count

  -- The part of a shard in reverse order.
  abbrev pub back_in : Part → List X
  back_in p = reverse (part_in p)

  -- A page is the part that the first shard has of it, followed by the rest of the page.
  abbrev pub IsRestOf : ℕ → ℕ → Option Part → Type 0
  IsRestOf index n None = part (flatten shards) index n ≡ []
  IsRestOf index n (Some p) = part (flatten shards) index n ≡ part_in p ++ part (flatten shards) (index + p.count) (n - p.count)
