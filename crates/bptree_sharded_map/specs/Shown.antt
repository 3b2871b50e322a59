-- The pairs that borrowed references show.
use Rattle.std.specs.Prelude.{◌≡◌, ◌++◌, ℕ, Bool, true, false, List, [], ◌∷◌, Option, MatchOption, Result, OnOk, Vec, map, reverse, take}
use Rattle.std.specs.declared.cmp.Ordering.{Ordering}
use Rattle.std.specs.Borrow.{Bor}
use Rattle.std.specs.Map.Iter.{deref_pair}
use Rattle.bptree_bulk.specs.Weave.{put_pair}
use Rattle.bptree_map.specs.Moving.{AllMove}
use Rattle.bptree_map.specs.Splitting.{SplitsOff}
use Rattle.bptree_shard_routing.specs.Shards.{back_from}
use Rattle.bptree_sharded_map.specs.Whole.{Partition, contents}
use Rattle.bptree_tree.specs.Entries.{pairs_between}

-- the pairs that a vector of references shows
abbrev pub shown : {K V : Type 0} → List (Bor K × Bor V) → List (K × V)
shown found = map deref_pair found

-- references to pairs are pushed behind those that a vector has
abbrev pub Pushes : {K V : Type 0} → List (K × V) → List (Bor K × Bor V) → List (Bor K × Bor V) → Type 0
Pushes pairs old new = shown new ≡ shown old ++ pairs

module _ {K V Z : Type 0} where
  -- a vector of references shows these pairs
  abbrev pub Shows : List (K × V) → Vec (Bor K × Bor V) Z → Type 0
  Shows pairs found = shown found.items ≡ pairs

  -- a vector of references shows the first n of the pairs between two keys
  abbrev pub ShowsBetween : (K → K → Ordering) → List (K × V) → Option (Bor K) → Option (Bor K) → ℕ → Vec (Bor K × Bor V) Z → Type 0
  ShowsBetween cmp pairs lo hi n found = Shows (take n (pairs_between cmp pairs lo hi)) found

  module _ {T E : Type 0} where
    -- these pairs are pushed if the call succeeded
    abbrev pub PushesAll : List (K × V) → Vec (Bor K × Bor V) Z → Vec (Bor K × Bor V) Z → Result T E → Type 0
    PushesAll pairs old new r = OnOk r (Pushes pairs old.items new.items)

    -- the first n pairs between two keys are pushed, or the last n up to a key, the last one first
    abbrev pub PushesBetween : (K → K → Ordering) → List (K × V) → Option (Bor K) → Option (Bor K) → ℕ → Vec (Bor K × Bor V) Z → Vec (Bor K × Bor V) Z → Result T E → Type 0
    PushesBetween cmp pairs lo hi n old new r = PushesAll (take n (pairs_between cmp pairs lo hi)) old new r

    abbrev pub PushesBack : (K → K → Ordering) → List (K × V) → K → ℕ → Vec (Bor K × Bor V) Z → Vec (Bor K × Bor V) Z → Result T E → Type 0
    PushesBack cmp pairs k n old new r = PushesAll (take n (back_from cmp pairs k)) old new r

-- a list from its first member on, or from its last one back
abbrev pub turned : {X : Type 0} → Bool → List X → List X
turned false l = l
turned true l = reverse l

-- the first pair of the list was removed, or the list was empty
abbrev pub IsShownTaken : {K V : Type 0} → List (K × V) → Option (Bor K × Bor V) → List (K × V) → Type 0
IsShownTaken old pair new = MatchOption pair (old ≡ []) (λ at. old ≡ deref_pair at ∷ new)

-- ---- splits and merges of shards, by the lists of their pairs

module _ {S K V : Type 0} (pairs : S → List (K × V)) (cmp : K → K → Ordering) where
  -- the pairs of a shard that are not below k moved to another shard
  abbrev pub SplitsShard : K → S → S → S → Type 0
  SplitsShard k old new there = SplitsOff cmp k (pairs old) (pairs new) (pairs there)

  -- all pairs of another shard moved here, if the call did not fail
  abbrev pub AppendsAll : {T E : Type 0} → S → S → S → S → Result T E → Type 0
  AppendsAll old other new rest r = OnOk r (AllMove (put_pair cmp) (pairs old) (pairs other) (pairs new) (pairs rest))
