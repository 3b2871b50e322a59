-- The statements of the callers of the laws of shards.
use Rattle.std.specs.Prelude.{◌≡◌, ◌≤◌, ◌++◌, ℕ, List, Some, None, [], ◌∷◌, false, length, set, take}
use Rattle.std.specs.declared.cmp.Ordering.{Ordering}
use Rattle.std.specs.declared.cmp.Ordering.TheVariants.{Less}
use Rattle.bptree_keys.specs.Contents.{IsAscending, has, value, put, del, next, previous, pairs_below}
use Rattle.bptree_keys.specs.Pieces.{flatten}
use Rattle.bptree_keys.specs.Indexes.{AllCompare}
use Rattle.bptree_keys.specs.Ranges.{between}
use Rattle.bptree_shard_routing.specs.Shards.{AreShards, NoneBelow, own_shard, lower_shard, shard_of, shard_below, from_key, back_from}

module _ {K : Type 0} (cmp : K → K → Ordering) (V : Type 0) where
  -- A look-up in the whole finds what was put into a key's shard.
  abbrev pub FindsWhatWasPut : Type 0
  FindsWhatWasPut = (bounds : List K) → (shards : List (List (K × V))) → (k : K) → (v : V) → AreShards cmp bounds shards →
      let new = put cmp (own_shard cmp bounds shards k) k v in value cmp (flatten (set shards (shard_of cmp bounds k) new)) k ≡ Some v

  -- A look-up in the whole does not find what was deleted from a key's shard.
  abbrev pub FindsNoneDeleted : Type 0
  FindsNoneDeleted = (bounds : List K) → (shards : List (List (K × V))) → (k : K) → AreShards cmp bounds shards →
      let new = del cmp (own_shard cmp bounds shards k) k in value cmp (flatten (set shards (shard_of cmp bounds k) new)) k ≡ None

  -- If a key's shard has no pair, the whole does not have the key.
  abbrev pub EmptyShardHasNoKey : Type 0
  EmptyShardHasNoKey = (bounds : List K) → (shards : List (List (K × V))) → (k : K) → AreShards cmp bounds shards →
      own_shard cmp bounds shards k ≡ [] → has cmp (flatten shards) k ≡ false

  -- The next pair in a key's shard is the next pair of the whole. The previous pair in the last
  -- shard with a smaller key is the previous pair of the whole.
  abbrev pub OwnNextIsNext : Type 0
  OwnNextIsNext = (bounds : List K) → (shards : List (List (K × V))) → (k : K) → (pair : K × V) → AreShards cmp bounds shards →
      next cmp (own_shard cmp bounds shards k) k ≡ Some pair → next cmp (flatten shards) k ≡ Some pair

  abbrev pub LowerPreviousIsPrevious : Type 0
  LowerPreviousIsPrevious = (bounds : List K) → (shards : List (List (K × V))) → (k : K) → (pair : K × V) → AreShards cmp bounds shards →
      previous cmp (lower_shard cmp bounds shards k) k ≡ Some pair → previous cmp (flatten shards) k ≡ Some pair

  -- A key of the first shard has the rank in that shard that it has in the whole.
  abbrev pub FirstShardRanks : Type 0
  FirstShardRanks = (shard : List (K × V)) → (bounds : List K) → (shards : List (List (K × V))) → (k : K) → AreShards cmp bounds (shard ∷ shards) →
      shard_of cmp bounds k ≡ 0 → length (pairs_below cmp (flatten (shard ∷ shards)) k) ≡ length (pairs_below cmp shard k)

  -- If a key's shard has n pairs from the key on, or up to it, they are the first n of the whole.
  abbrev pub OwnPageIsPage : Type 0
  OwnPageIsPage = (bounds : List K) → (shards : List (List (K × V))) → (k : K) → (n : ℕ) → AreShards cmp bounds shards →
      let own = from_key cmp (own_shard cmp bounds shards k) k in n ≤ length own → take n (from_key cmp (flatten shards) k) ≡ take n own

  abbrev pub OwnPageBackIsPageBack : Type 0
  OwnPageBackIsPageBack = (bounds : List K) → (shards : List (List (K × V))) → (k : K) → (n : ℕ) → AreShards cmp bounds shards →
      let own = back_from cmp (own_shard cmp bounds shards k) k in n ≤ length own → take n (back_from cmp (flatten shards) k) ≡ take n own

  -- A range that begins and ends in one shard is the range of that shard.
  abbrev pub RangeInOneShard : Type 0
  RangeInOneShard = (bounds : List K) → (shards : List (List (K × V))) → (lo hi : K) → AreShards cmp bounds shards →
      shard_of cmp bounds lo ≡ shard_below cmp bounds hi →
      between cmp (flatten shards) (Some lo) (Some hi) ≡ between cmp (own_shard cmp bounds shards lo) (Some lo) (Some hi)

  -- One list is two shards at any bound between its parts, and two shards are one list.
  abbrev pub CutsInTwo : Type 0
  CutsInTwo = (bound : K) → (p q : List (K × V)) → IsAscending cmp (p ++ q) → AllCompare cmp bound Less p → NoneBelow cmp bound q → AreShards cmp (bound ∷ []) (p ∷ q ∷ [])

  abbrev pub JoinsTwo : Type 0
  JoinsTwo = (bound : K) → (p q : List (K × V)) → AreShards cmp (bound ∷ []) (p ∷ q ∷ []) → AreShards cmp [] ((p ++ q) ∷ [])
