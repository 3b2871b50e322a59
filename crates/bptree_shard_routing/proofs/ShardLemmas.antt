-- The position of a key's shard in the whole.
use Rattle.std.proofs.Common.{◌≡◌, ℕ, zero, suc, ◌<◌, Bool, true, false, not, List, [], ◌∷◌, ◌++◌, length, take, drop, set, slice_get, ◌+◌, refl, sym, ap, subst, cond, ◌∙◌, arith}
use Rattle.std.specs.declared.cmp.Ordering.{Ordering}
use Rattle.std.specs.declared.cmp.Ordering.TheVariants.{Less, Equal, Greater}
use Rattle.std.specs.Ordering.{is_lt, is_eq}
use Rattle.std.specs.List.{AllByRecursion}
use Rattle.std.specs.Cmp.{IsTotalOrder}
use Rattle.bptree_keys.specs.Contents.{IsAscending, has, value, put, del, next, pairs_below, pairs_above}
use Rattle.bptree_keys.specs.Pieces.{flatten, piece_at, start_of}
use Rattle.bptree_keys.specs.Indexes.{AllCompare}
use Rattle.bptree_keys.proofs.Ascending.{greater_turned, less_turned}
use Rattle.bptree_keys.proofs.Around.{value_around, has_around, put_around, del_around, pairs_below_around, pairs_above_around}
use Rattle.bptree_keys.proofs.PieceLemmas.{flatten-cut, AllByRecursion-append, AllByRecursion-weaker}
use Rattle.bptree_keys.proofs.Laws.{put_ascending}
use Rattle.bptree_keys.proofs.Updates.{del_ascending}
use Rattle.std.proofs.lemmas.List.{length-append}
use Rattle.bptree_keys.proofs.KeptKeys.{all_put, all_kept}
use Rattle.bptree_shard_routing.proofs.PartLemmas.{flatten_set, all_flatten_set, first_of_two}
use Rattle.std.specs.Option.{option_or}
use Rattle.bptree_shard_routing.specs.Shards.{AreShards, LieBetween, NoneBelow, shard_of}

module _ {K : Type 0} (cmp : K → K → Ordering) (total : IsTotalOrder cmp) (k : K) where
  -- A key below a bound is below k if the bound is not above k. If k is below a bound, each key
  -- that is not below the bound is above k.
  past_bound : (o : Ordering) (bound key : K) → cmp k bound ≡ o → is_lt o ≡ false → cmp key bound ≡ Less → cmp key k ≡ Less
  past_bound Less bound key is low less = absurd cc
  past_bound Equal bound key is low less = less_turned cmp total k key (total.congr k bound key is ∙ greater_turned cmp total key bound less)
  past_bound Greater bound key is low less = total.trans key bound k less (less_turned cmp total k bound is)

  before_bound : (o : Ordering) (bound key : K) → cmp key bound ≡ o → is_lt o ≡ false → cmp k bound ≡ Less → cmp key k ≡ Greater
  before_bound Less bound key is low less = absurd cc
  before_bound Equal bound key is low less = total.congr key bound k is ∙ greater_turned cmp total k bound less
  before_bound Greater bound key is low less = greater_turned cmp total k key (total.trans k bound key less (less_turned cmp total key bound is))

  below_bound : {V : Type 0} (bound : K) (l : List (K × V)) → is_lt (cmp k bound) ≡ false → AllCompare cmp bound Less l → AllCompare cmp k Less l
  below_bound bound l h all = AllByRecursion-weaker (λ pair. cmp pair.0 bound ≡ Less) (λ pair. cmp pair.0 k ≡ Less) (λ pair less. past_bound (cmp k bound) bound pair.0 refl h less) l all

  pub above_bound : {V : Type 0} (bound : K) (l : List (K × V)) → cmp k bound ≡ Less → NoneBelow cmp bound l → AllCompare cmp k Greater l
  above_bound bound l h all = AllByRecursion-weaker (λ pair. is_lt (cmp pair.0 bound) ≡ false) (λ pair. cmp pair.0 k ≡ Greater) (λ pair none. before_bound (cmp pair.0 bound) bound pair.0 refl none h) l all

-- All keys of the shards before a key's shard are smaller, and all keys of those behind it greater.
pub record Routed {K V : Type 0} (cmp : K → K → Ordering) (shards : List (List (K × V))) (i : ℕ) (k : K) : Type 0 where
  pub in_range : i < length shards
  pub smaller : AllCompare cmp k Less (flatten (take i shards))
  pub greater : AllCompare cmp k Greater (flatten (drop (suc i) shards))

pub less_is : (o : Ordering) → is_lt o ≡ true → o ≡ Less
less_is Less h = refl
less_is Equal h = absurd cc
less_is Greater h = absurd cc

module _ {K V : Type 0} (cmp : K → K → Ordering) (total : IsTotalOrder cmp) (k : K) where
  routed_step : (bound : K) (bounds : List K) (piece : List (K × V)) (pieces : List (List (K × V))) (b : Bool) → is_lt (cmp k bound) ≡ b
      → AllCompare cmp bound Less piece → NoneBelow cmp bound (flatten pieces) → Routed cmp pieces (shard_of cmp bounds k) k
      → Routed cmp (piece ∷ pieces) (cond b zero (suc (shard_of cmp bounds k))) k
  routed_step bound bounds piece pieces true is low none rest = record {
    in_range = omega arith;
    smaller = tt;
    greater = above_bound cmp total k bound (flatten pieces) (less_is (cmp k bound) is) none;
  }
  routed_step bound bounds piece pieces false is low none rest = record {
    in_range = let h = rest.in_range in omega arith;
    smaller = AllByRecursion-append (λ pair. cmp pair.0 k ≡ Less) piece (flatten (take (shard_of cmp bounds k) pieces)) (below_bound cmp total k bound piece is low) rest.smaller;
    greater = rest.greater;
  }

  pub routed : (bounds : List K) (shards : List (List (K × V))) → LieBetween cmp bounds shards → Routed cmp shards (shard_of cmp bounds k) k
  routed bounds [] lie = absurd lie
  routed [] (piece ∷ pieces) lie = subst (λ rest. Routed cmp (piece ∷ rest) zero k) (sym lie) (record { in_range = omega arith; smaller = tt; greater = tt })
  routed (bound ∷ bounds) (piece ∷ pieces) lie = routed_step bound bounds piece pieces (is_lt (cmp k bound)) refl lie.0 lie.1 (routed bounds pieces lie.2)

module _ {K V : Type 0} (cmp : K → K → Ordering) (total : IsTotalOrder cmp) (bounds : List K) (shards : List (List (K × V))) (k : K) (are : AreShards cmp bounds shards) where
  abbrev it : Routed cmp shards (shard_of cmp bounds k) k
  it = routed cmp total k bounds shards are.between

  abbrev own : List (K × V)
  own = piece_at shards (shard_of cmp bounds k)

  pub value_routed : value cmp (flatten shards) k ≡ value cmp own k
  value_routed = rw (flatten-cut shards (shard_of cmp bounds k) it.in_range) (value_around cmp k (flatten (take (shard_of cmp bounds k) shards)) own (flatten (drop (suc (shard_of cmp bounds k)) shards)) it.smaller it.greater)

  pub has_routed : has cmp (flatten shards) k ≡ has cmp own k
  has_routed = rw (flatten-cut shards (shard_of cmp bounds k) it.in_range) (has_around cmp k (flatten (take (shard_of cmp bounds k) shards)) own (flatten (drop (suc (shard_of cmp bounds k)) shards)) it.smaller it.greater)

module _ {K V : Type 0} (cmp : K → K → Ordering) (k : K) (new : List (K × V)) where
  -- What holds of k and of a shard's old keys holds of its new keys. If so, the new shard is still
  -- between the bounds.
  abbrev pub Kept : List (K × V) → Type 1
  Kept old = (P : K → Type 0) → P k → AllByRecursion (λ pair. P pair.0) old → AllByRecursion (λ pair. P pair.0) new

  lie_between_step : (bound : K) (bounds : List K) (piece : List (K × V)) (pieces : List (List (K × V))) (b : Bool) → is_lt (cmp k bound) ≡ b
      → AllCompare cmp bound Less piece → NoneBelow cmp bound (flatten pieces) → LieBetween cmp bounds pieces
      → (Kept (piece_at pieces (shard_of cmp bounds k)) → LieBetween cmp bounds (set pieces (shard_of cmp bounds k) new))
      → Kept (piece_at (piece ∷ pieces) (cond b zero (suc (shard_of cmp bounds k))))
      → LieBetween cmp (bound ∷ bounds) (set (piece ∷ pieces) (cond b zero (suc (shard_of cmp bounds k))) new)
  lie_between_step bound bounds piece pieces true is low none rest more kept =
      (kept (λ key. cmp key bound ≡ Less) (less_is (cmp k bound) is) low, none, rest)
  lie_between_step bound bounds piece pieces false is low none rest more kept =
      (low, all_flatten_set (λ pair. is_lt (cmp pair.0 bound) ≡ false) pieces (shard_of cmp bounds k) new (kept (λ key. is_lt (cmp key bound) ≡ false) is) none, more kept)

  pub lie_between_after_set : (bounds : List K) (shards : List (List (K × V))) → LieBetween cmp bounds shards → Kept (piece_at shards (shard_of cmp bounds k))
      → LieBetween cmp bounds (set shards (shard_of cmp bounds k) new)
  lie_between_after_set bounds [] lie kept = absurd lie
  lie_between_after_set [] (piece ∷ pieces) lie kept = lie
  lie_between_after_set (bound ∷ bounds) (piece ∷ pieces) lie kept =
      lie_between_step bound bounds piece pieces (is_lt (cmp k bound)) refl lie.0 lie.1 lie.2 (lie_between_after_set bounds pieces lie.2) kept

module _ {K V : Type 0} (cmp : K → K → Ordering) (total : IsTotalOrder cmp) (bounds : List K) (shards : List (List (K × V))) (k : K) (are : AreShards cmp bounds shards) where
  abbrev at : ℕ
  at = shard_of cmp bounds k

  abbrev found : Routed cmp shards at k
  found = routed cmp total k bounds shards are.between

  abbrev before : List (K × V)
  before = flatten (take at shards)

  abbrev after : List (K × V)
  after = flatten (drop (suc at) shards)

  cut : flatten shards ≡ before ++ (piece_at shards at ++ after)
  cut = flatten-cut shards at found.in_range

  pub put_routed : (v : V) → flatten (set shards at (put cmp (piece_at shards at) k v)) ≡ put cmp (flatten shards) k v
  put_routed v = flatten_set shards at (put cmp (piece_at shards at) k v) found.in_range ∙ sym (ap (λ l. put cmp l k v) cut ∙ put_around cmp k before (piece_at shards at) after found.smaller found.greater v)

  pub put_stays : (v : V) → AreShards cmp bounds (set shards at (put cmp (piece_at shards at) k v))
  put_stays v = record {
    between = lie_between_after_set cmp k (put cmp (piece_at shards at) k v) bounds shards are.between (λ P here all. all_put P cmp (piece_at shards at) k v here all);
    ascending = subst (IsAscending cmp) (sym (put_routed v)) (put_ascending cmp total (flatten shards) are.ascending k v);
  }

  pub del_routed : flatten (set shards at (del cmp (piece_at shards at) k)) ≡ del cmp (flatten shards) k
  del_routed = flatten_set shards at (del cmp (piece_at shards at) k) found.in_range ∙ sym (ap (λ l. del cmp l k) cut ∙ del_around cmp k before (piece_at shards at) after found.smaller found.greater)

  pub del_stays : AreShards cmp bounds (set shards at (del cmp (piece_at shards at) k))
  del_stays = record {
    between = lie_between_after_set cmp k (del cmp (piece_at shards at) k) bounds shards are.between (λ P here all. all_kept P (λ pair. not (is_eq (cmp pair.0 k))) (piece_at shards at) all);
    ascending = subst (IsAscending cmp) (sym del_routed) (del_ascending cmp (flatten shards) k are.ascending);
  }

  pub rank_routed : length (pairs_below cmp (flatten shards) k) ≡ start_of shards at + length (pairs_below cmp (piece_at shards at) k)
  rank_routed = ap (λ l. length (pairs_below cmp l k)) cut ∙ ap length (pairs_below_around cmp k before (piece_at shards at) after found.smaller found.greater) ∙ length-append before (pairs_below cmp (piece_at shards at) k)

  pub next_routed : next cmp (flatten shards) k ≡ option_or (next cmp (piece_at shards at) k) (slice_get after 0)
  next_routed = ap (λ l. next cmp l k) cut ∙ ap (λ l. slice_get l 0) (pairs_above_around cmp k before (piece_at shards at) after found.smaller found.greater) ∙ first_of_two (pairs_above cmp (piece_at shards at) k) after
