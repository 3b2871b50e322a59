-- The laws by which the results of the shards make the result of the whole. Each definition states
-- one law.
use Rattle.std.specs.Prelude.{◌≡◌, ◌+◌, ◌-◌, ◌<◌, ◌≤◌, ◌++◌, ℕ, suc, List, [], Option, length, take, drop, min, reverse, slice_get}
use Rattle.std.specs.declared.cmp.Ordering.{Ordering}
use Rattle.std.specs.List.{sum, flat_map}
use Rattle.std.specs.Option.{option_or}
use Rattle.bptree_keys.specs.Contents.{has, value, put, del, next, previous, pairs_below, last_member}
use Rattle.bptree_keys.specs.Pieces.{flatten, piece_at, start_of}
use Rattle.bptree_keys.specs.Ranges.{between, part}
use Rattle.bptree_shard_routing.specs.declared.combining.Part.{Part}
use Rattle.bptree_shard_routing.specs.Lengths.{lengths_of, IsIndexFound, IsFirstFull, IsLastFull, IsNextPart, ArePartsOf, member_in, first_in, last_in, part_in, back_in, IsRestOf}
use Rattle.bptree_shard_routing.specs.Shards.{AreShards, IsOneChanged, own_shard, lower_shard, shard_of, shard_below, first_shard, last_shard, shards_between, from_key, back_from}

module _ {K : Type 0} (cmp : K → K → Ordering) (V : Type 0) where
  -- A statement holds of each key and of each way to cut a list in shards.
  abbrev pub OfEachKey : (List K → List (List (K × V)) → K → Type 0) → Type 0
  OfEachKey P = (bounds : List K) → (shards : List (List (K × V))) → (k : K) → AreShards cmp bounds shards → P bounds shards k

  -- ---- which shard

  -- The shard of a key is among the shards, and so is the last shard that may have a smaller key.
  abbrev pub OwnShardIsThere : Type 0
  OwnShardIsThere = OfEachKey (λ bounds shards k. shard_of cmp bounds k < length shards)

  abbrev pub LowerShardIsThere : Type 0
  LowerShardIsThere = OfEachKey (λ bounds shards k. shard_below cmp bounds k < length shards)

  -- A look-up of a key in the whole returns what a look-up in the key's own shard returns.
  abbrev pub OwnShardHasValue : Type 0
  OwnShardHasValue = OfEachKey (λ bounds shards k. value cmp (flatten shards) k ≡ value cmp (own_shard cmp bounds shards k) k)

  abbrev pub OwnShardHasKey : Type 0
  OwnShardHasKey = OfEachKey (λ bounds shards k. has cmp (flatten shards) k ≡ has cmp (own_shard cmp bounds shards k) k)

  -- Putting or deleting a key changes its own shard alone.
  abbrev pub OwnShardIsPut : Type 0
  OwnShardIsPut = (bounds : List K) → (shards : List (List (K × V))) → (k : K) → (v : V) → AreShards cmp bounds shards →
      IsOneChanged cmp bounds shards k (put cmp (own_shard cmp bounds shards k) k v) (put cmp (flatten shards) k v)

  abbrev pub OwnShardIsDeleted : Type 0
  OwnShardIsDeleted = OfEachKey (λ bounds shards k. IsOneChanged cmp bounds shards k (del cmp (own_shard cmp bounds shards k) k) (del cmp (flatten shards) k))

  -- ---- ranks and neighbours

  -- The number of smaller keys is the number of pairs in the shards before, plus the number of
  -- smaller keys in the own shard.
  abbrev pub RanksAddUp : Type 0
  RanksAddUp = OfEachKey (λ bounds shards k.
      length (pairs_below cmp (flatten shards) k) ≡ start_of shards (shard_of cmp bounds k) + length (pairs_below cmp (own_shard cmp bounds shards k) k))

  -- The next pair is that of the own shard, or else the first pair of the shards behind it.
  abbrev pub NextIsOwnOrBehind : Type 0
  NextIsOwnOrBehind = OfEachKey (λ bounds shards k.
      next cmp (flatten shards) k ≡ option_or (next cmp (own_shard cmp bounds shards k) k) (slice_get (flatten (drop (suc (shard_of cmp bounds k)) shards)) 0))

  -- The first pair behind the own shard is the first pair of the first shard there that has one.
  abbrev pub NextIsOwnOrFirstFull : Type 0
  NextIsOwnOrFirstFull = (bounds : List K) → (shards : List (List (K × V))) → (k : K) → (found : Option ℕ) → AreShards cmp bounds shards →
      IsFirstFull (lengths_of shards) (shard_of cmp bounds k + 1) (length shards) found →
      next cmp (flatten shards) k ≡ option_or (next cmp (own_shard cmp bounds shards k) k) (first_in shards found)

  -- The previous pair is that of the last shard that may have a smaller key, or else the last pair
  -- of the shards before it.
  abbrev pub PreviousIsLowerOrBefore : Type 0
  PreviousIsLowerOrBefore = OfEachKey (λ bounds shards k.
      previous cmp (flatten shards) k ≡ option_or (previous cmp (lower_shard cmp bounds shards k) k) (last_member (flatten (take (shard_below cmp bounds k) shards))))

  abbrev pub PreviousIsLowerOrLastFull : Type 0
  PreviousIsLowerOrLastFull = (bounds : List K) → (shards : List (List (K × V))) → (k : K) → (found : Option ℕ) → AreShards cmp bounds shards →
      IsLastFull (lengths_of shards) (shard_below cmp bounds k) found →
      previous cmp (flatten shards) k ≡ option_or (previous cmp (lower_shard cmp bounds shards k) k) (last_in shards found)

  -- ---- ranges

  -- At most n pairs from a key on are those of its own shard, followed by a page of the whole that
  -- begins with the next shard.
  abbrev pub FromKeyIsOwnThenPage : Type 0
  FromKeyIsOwnThenPage = (bounds : List K) → (shards : List (List (K × V))) → (k : K) → (n : ℕ) → AreShards cmp bounds shards →
      let own = from_key cmp (own_shard cmp bounds shards k) k in
      let rest = part (flatten shards) (start_of shards (shard_of cmp bounds k + 1)) (n - length own) in
      take n (from_key cmp (flatten shards) k) ≡ take n own ++ rest

  -- At most n pairs back from a key are those of its own shard, followed by a page backward that
  -- begins just before this shard.
  abbrev pub BackFromKeyIsOwnThenPage : Type 0
  BackFromKeyIsOwnThenPage = (bounds : List K) → (shards : List (List (K × V))) → (k : K) → (n : ℕ) → AreShards cmp bounds shards →
      let own = back_from cmp (own_shard cmp bounds shards k) k in
      let before = take (start_of shards (shard_of cmp bounds k)) (flatten shards) in
      take n (back_from cmp (flatten shards) k) ≡ take n own ++ take (n - length own) (reverse before)

  -- The pairs between two keys are those of consecutive shards, one after another.
  abbrev pub BetweenIsInTurn : Type 0
  BetweenIsInTurn = (bounds : List K) → (shards : List (List (K × V))) → (lo hi : Option K) → AreShards cmp bounds shards →
      between cmp (flatten shards) lo hi ≡ flat_map (λ shard. between cmp shard lo hi) (shards_between cmp bounds shards lo hi)

  -- Each of these shards except the first and the last has all its pairs between the two keys.
  abbrev pub InnerShardsAreWhole : Type 0
  InnerShardsAreWhole = (bounds : List K) → (shards : List (List (K × V))) → (lo hi : Option K) → (i : ℕ) → AreShards cmp bounds shards →
      first_shard cmp bounds lo < i → i < last_shard cmp bounds hi → between cmp (piece_at shards i) lo hi ≡ piece_at shards i

  -- Shards without pairs are shards at any bounds, if there is one more shard than there are
  -- bounds.
  abbrev pub EmptyShardsLieBetween : Type 0
  EmptyShardsLieBetween = (bounds : List K) → (shards : List (List (K × V))) → length shards ≡ length bounds + 1 → flatten shards ≡ [] → AreShards cmp bounds shards

-- ---- the whole by the numbers of members of its pieces

module _ (T : Type 0) where
  -- The member at an index of the whole is the member of the piece that has the index.
  abbrev pub IndexIsLocated : Type 0
  IndexIsLocated = (shards : List (List T)) → (index : ℕ) → (found : Option (ℕ × ℕ)) →
      IsIndexFound (lengths_of shards) index found → slice_get (flatten shards) index ≡ member_in shards found

  -- The number of members before a piece is the sum of the lengths of the pieces before it.
  abbrev pub StartIsSum : Type 0
  StartIsSum = (shards : List (List T)) → (i : ℕ) → start_of shards i ≡ sum (take i (lengths_of shards))

  -- The first member is that of the first piece that has one, and the last member that of the last
  -- such piece.
  abbrev pub FirstIsInFirstFull : Type 0
  FirstIsInFirstFull = (shards : List (List T)) → (found : Option ℕ) →
      IsFirstFull (lengths_of shards) 0 (length shards) found → slice_get (flatten shards) 0 ≡ first_in shards found

  abbrev pub LastIsInLastFull : Type 0
  LastIsInLastFull = (shards : List (List T)) → (found : Option ℕ) →
      IsLastFull (lengths_of shards) (length shards) found → last_member (flatten shards) ≡ last_in shards found

  -- A page is its part in the first piece that has a member of it, followed by the rest of the
  -- page.
  abbrev pub PageIsFirstPartThenRest : Type 0
  PageIsFirstPartThenRest = (shards : List (List T)) → (index n : ℕ) → (found : Option Part) →
      IsNextPart (lengths_of shards) index n found → IsRestOf shards index n found

  -- A page is its parts, one after another.
  abbrev pub PageIsPartsInTurn : Type 0
  PageIsPartsInTurn = (shards : List (List T)) → (index n : ℕ) → (found : List Part) →
      ArePartsOf (lengths_of shards) index n found → part (flatten shards) index n ≡ flat_map (λ p. part_in shards p) found

  -- A page backward is the same parts, each backward, from the last to the first.
  abbrev pub PageBackIsPartsBack : Type 0
  PageBackIsPartsBack = (shards : List (List T)) → (end n : ℕ) → (found : List Part) →
      end ≤ length (flatten shards) → ArePartsOf (lengths_of shards) (end - n) (min n end) found →
      take n (reverse (take end (flatten shards))) ≡ flat_map (λ p. back_in shards p) (reverse found)
