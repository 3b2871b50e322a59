-- What stays if a bound moves: a shard is split in two, two neighbours are merged, or pairs go from
-- one shard to its neighbour.
use Rattle.std.specs.Prelude.{◌≡◌, ⊤, false, List, [], ◌∷◌, ◌++◌, length}
use Rattle.std.specs.declared.cmp.Ordering.{Ordering}
use Rattle.std.specs.declared.cmp.Ordering.TheVariants.{Less}
use Rattle.std.specs.Ordering.{is_gt}
use Rattle.std.specs.List.{AllByRecursion}
use Rattle.bptree_keys.specs.Pieces.{flatten}
use Rattle.bptree_keys.specs.Indexes.{AllCompare}
use Rattle.bptree_shard_routing.specs.Shards.{AreShards, NoneBelow, shard_of}

module _ {K : Type 0} (cmp : K → K → Ordering) where
  -- No bound is above a later one.
  abbrev pub AreBounds : List K → Type 0
  AreBounds [] = ⊤
  AreBounds (bound ∷ bounds) = AllByRecursion (λ later. is_gt (cmp bound later) ≡ false) bounds × AreBounds bounds

  -- A key between two bounds can become a bound there.
  abbrev pub BoundGoesIn : Type 0
  BoundGoesIn = (low high : List K) (bound : K) → AreBounds (low ++ high) → shard_of cmp (low ++ high) bound ≡ length low → AreBounds (low ++ bound ∷ high)

  -- Each bound can be removed.
  abbrev pub BoundGoesOut : Type 0
  BoundGoesOut = (low high : List K) (bound : K) → AreBounds (low ++ bound ∷ high) → AreBounds (low ++ high)

  module _ (V : Type 0) where
    -- The shards after a change are shards at the new bounds, and their whole is the old whole.
    abbrev pub AreSameWhole : List K → List (List (K × V)) → List (List (K × V)) → Type 0
    AreSameWhole bounds after before = AreShards cmp bounds after × (flatten after ≡ flatten before)

    -- A shard splits at a key whose shard it is: into the pairs with smaller keys and the others.
    abbrev pub ShardSplits : Type 0
    ShardSplits = (low high : List K) (bound : K) (front : List (List (K × V))) (p q : List (K × V)) (back : List (List (K × V))) →
        length front ≡ length low → shard_of cmp (low ++ high) bound ≡ length low → AllCompare cmp bound Less p → NoneBelow cmp bound q →
        AreShards cmp (low ++ high) (front ++ (p ++ q) ∷ back) → AreSameWhole (low ++ bound ∷ high) (front ++ p ∷ q ∷ back) (front ++ (p ++ q) ∷ back)

    -- Two neighbours become one shard, and the bound between them goes.
    abbrev pub ShardsMerge : Type 0
    ShardsMerge = (low high : List K) (bound : K) (front : List (List (K × V))) (p q : List (K × V)) (back : List (List (K × V))) →
        length front ≡ length low → AreBounds (low ++ bound ∷ high) →
        AreShards cmp (low ++ bound ∷ high) (front ++ p ∷ q ∷ back) → AreSameWhole (low ++ high) (front ++ (p ++ q) ∷ back) (front ++ p ∷ q ∷ back)

    -- The last pairs of a shard move to the next shard, and the bound moves down.
    abbrev pub LastPairsMove : Type 0
    LastPairsMove = (low high : List K) (old new : K) (front : List (List (K × V))) (p moved q : List (K × V)) (back : List (List (K × V))) →
        length front ≡ length low → AreBounds (low ++ old ∷ high) → shard_of cmp (low ++ high) new ≡ length low → AllCompare cmp new Less p → NoneBelow cmp new (moved ++ q) →
        AreShards cmp (low ++ old ∷ high) (front ++ (p ++ moved) ∷ q ∷ back) → AreSameWhole (low ++ new ∷ high) (front ++ p ∷ (moved ++ q) ∷ back) (front ++ (p ++ moved) ∷ q ∷ back)

    -- The first pairs of a shard move to the shard before, and the bound moves up.
    abbrev pub FirstPairsMove : Type 0
    FirstPairsMove = (low high : List K) (old new : K) (front : List (List (K × V))) (p moved q : List (K × V)) (back : List (List (K × V))) →
        length front ≡ length low → AreBounds (low ++ old ∷ high) → shard_of cmp (low ++ high) new ≡ length low → AllCompare cmp new Less (p ++ moved) → NoneBelow cmp new q →
        AreShards cmp (low ++ old ∷ high) (front ++ p ∷ (moved ++ q) ∷ back) → AreSameWhole (low ++ new ∷ high) (front ++ (p ++ moved) ∷ q ∷ back) (front ++ p ∷ (moved ++ q) ∷ back)
