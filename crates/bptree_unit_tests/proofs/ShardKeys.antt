-- Lemmas about one shard of several.
use Rattle.std.proofs.Common.{◌≡◌, ℕ, ◌+◌, ◌-◌, ◌<◌, List, [], length, take, drop, ap, ◌∙◌, arith}
use Rattle.std.specs.List.{flat_map}
use Rattle.std.proofs.lemmas.List.{append-nil, drop_more}
use Rattle.bptree_keys.specs.Pieces.{piece_at}
use Rattle.bptree_keys.specs.Ranges.{part}

module _ {X : Type 0} (f : List X → List X) (shards : List (List X)) where
  pub of_one : (i j : ℕ) → i ≡ j → i < length shards → flat_map f (part shards i (j + 1 - i)) ≡ f (piece_at shards i)
  of_one i j same short =
      let count : j + 1 - i ≡ 1 = omega arith in
      ap (λ n. flat_map f (take n (drop i shards))) count ∙ ap (λ l. flat_map f (take 1 l)) (drop_more shards i [] short) ∙ append-nil (f (piece_at shards i))
