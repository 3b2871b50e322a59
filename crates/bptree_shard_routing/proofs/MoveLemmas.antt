-- If a bound moves as a law says, the shards stay shards of the same whole.
use Rattle.std.proofs.Common.{◌≡◌, ℕ, zero, suc, Bool, true, false, List, [], ◌∷◌, ◌++◌, length, refl, sym, ap, subst, cond, ◌∙◌, append_assoc, arith}
use Rattle.std.specs.declared.cmp.Ordering.{Ordering}
use Rattle.std.specs.declared.cmp.Ordering.TheVariants.{Less, Equal, Greater}
use Rattle.std.specs.Ordering.{is_lt, is_gt}
use Rattle.std.specs.List.{AllByRecursion}
use Rattle.std.specs.Cmp.{IsTotalOrder}
use Rattle.std.proofs.lemmas.Cmp.{upto, alike_right}
use Rattle.bptree_keys.specs.Contents.{IsAscending}
use Rattle.bptree_keys.specs.Pieces.{flatten}
use Rattle.bptree_keys.specs.Indexes.{AllCompare}
use Rattle.bptree_keys.proofs.PieceLemmas.{AllByRecursion-append, AllByRecursion-left, AllByRecursion-right, AllByRecursion-weaker}
use Rattle.bptree_shard_routing.specs.Shards.{AreShards, LieBetween, NoneBelow, shard_of}
use Rattle.bptree_shard_routing.specs.Moves.{AreBounds, BoundGoesIn, BoundGoesOut, AreSameWhole, ShardSplits, ShardsMerge, LastPairsMove, FirstPairsMove}
use Rattle.bptree_shard_routing.proofs.ShardLemmas.{above_bound, less_is}
use Rattle.bptree_shard_routing.proofs.RangeLemmas.{gt_turned}

-- Which side of a bound a key belongs to.
goes_on : (b : Bool) (m n : ℕ) → cond b zero (suc m) ≡ suc n → (b ≡ false) × (m ≡ n)
goes_on true m n e = absurd cc
goes_on false m n e = (refl, cc)

stops : (b : Bool) (m : ℕ) → cond b zero (suc m) ≡ zero → b ≡ true
stops true m e = refl
stops false m e = absurd cc

module _ {K : Type 0} (cmp : K → K → Ordering) (total : IsTotalOrder cmp) where
  less_not_greater : (o : Ordering) → o ≡ Less → is_gt o ≡ false
  less_not_greater o is = rw is refl

  -- If a key is not below a bound, the bound is not above the key.
  not_above : (bound k : K) → is_lt (cmp k bound) ≡ false → is_gt (cmp bound k) ≡ false
  not_above bound k low = ap is_gt (total.antisymm bound k) ∙ gt_turned (cmp k bound) ∙ low

  below_next : (key bound h : K) (o : Ordering) → cmp bound h ≡ o → cmp key bound ≡ Less → is_gt o ≡ false → cmp key h ≡ Less
  below_next key bound h Less is less up = total.trans key bound h less is
  below_next key bound h Equal is less up = sym (alike_right total bound h key is) ∙ less
  below_next key bound h Greater is less up = absurd cc

  in_front : (high : List K) (bound : K) → AreBounds cmp high → shard_of cmp high bound ≡ zero → AllByRecursion (λ later. is_gt (cmp bound later) ≡ false) high
  in_front [] bound are at = tt
  in_front (h ∷ high) bound are at =
      let less : cmp bound h ≡ Less = less_is (cmp bound h) (stops (is_lt (cmp bound h)) (shard_of cmp high bound) at) in
      let low = less_not_greater (cmp bound h) less in
      (low, AllByRecursion-weaker (λ later. is_gt (cmp h later) ≡ false) (λ later. is_gt (cmp bound later) ≡ false) (λ later up. upto total bound h later low up) high are.0)

  all_with : (P : K → Type 0) (low high : List K) (bound : K) → P bound → AllByRecursion P (low ++ high) → AllByRecursion P (low ++ bound ∷ high)
  all_with P low high bound here all = AllByRecursion-append P low (bound ∷ high) (AllByRecursion-left P low high all) (here, AllByRecursion-right P low high all)

  pub bound_goes_in : BoundGoesIn cmp
  bound_goes_in [] high bound are at = (in_front high bound are at, are)
  bound_goes_in (l ∷ low) high bound are at =
      let on = goes_on (is_lt (cmp bound l)) (shard_of cmp (low ++ high) bound) (length low) at in
      (all_with (λ later. is_gt (cmp l later) ≡ false) low high bound (not_above l bound on.0) are.0, bound_goes_in low high bound are.1 on.1)

  pub bound_goes_out : BoundGoesOut cmp
  bound_goes_out [] high bound are = are.1
  bound_goes_out (l ∷ low) high bound are =
      let all = are.0 in
      let P = λ (later : K). is_gt (cmp l later) ≡ false in
      (AllByRecursion-append P low high (AllByRecursion-left P low (bound ∷ high) all) (AllByRecursion-right P low (bound ∷ high) all).1, bound_goes_out low high bound are.1)

module _ {K V : Type 0} (cmp : K → K → Ordering) (total : IsTotalOrder cmp) where
  joined : (p q : List (K × V)) (back : List (List (K × V))) → flatten (p ∷ q ∷ back) ≡ flatten ((p ++ q) ∷ back)
  joined p q back = sym (append_assoc p q (flatten back))

  regrouped : (front old new : List (List (K × V))) → flatten new ≡ flatten old → flatten (front ++ new) ≡ flatten (front ++ old)
  regrouped [] old new e = e
  regrouped (f ∷ front) old new e = ap (λ l. f ++ l) (regrouped front old new e)

  -- ---- a split

  behind_bound : (bound h : K) (l : List (K × V)) → cmp bound h ≡ Less → NoneBelow cmp h l → NoneBelow cmp bound l
  behind_bound bound h l less none =
      AllByRecursion-weaker (λ pair. cmp pair.0 bound ≡ Greater) (λ pair. is_lt (cmp pair.0 bound) ≡ false) (λ pair more. ap is_lt more) l (above_bound cmp total bound h l less none)

  split_here : (high : List K) (bound : K) (p q : List (K × V)) (back : List (List (K × V))) → shard_of cmp high bound ≡ zero → AllCompare cmp bound Less p → NoneBelow cmp bound q
      → LieBetween cmp high ((p ++ q) ∷ back) → LieBetween cmp (bound ∷ high) (p ∷ q ∷ back)
  split_here [] bound p q back at low none lie = (low, rw lie (AllByRecursion-append (λ pair. is_lt (cmp pair.0 bound) ≡ false) q [] none tt), lie)
  split_here (h ∷ high) bound p q back at low none lie =
      let less : cmp bound h ≡ Less = less_is (cmp bound h) (stops (is_lt (cmp bound h)) (shard_of cmp high bound) at) in (
        low,
        AllByRecursion-append (λ pair. is_lt (cmp pair.0 bound) ≡ false) q (flatten back) none (behind_bound bound h (flatten back) less lie.1),
        (AllByRecursion-right (λ pair. cmp pair.0 h ≡ Less) p q lie.0, lie.1, lie.2),
      )

  split_between : (low high : List K) (bound : K) (front : List (List (K × V))) (p q : List (K × V)) (back : List (List (K × V))) → length front ≡ length low → shard_of cmp (low ++ high) bound ≡ length low
      → AllCompare cmp bound Less p → NoneBelow cmp bound q → LieBetween cmp (low ++ high) (front ++ (p ++ q) ∷ back) → LieBetween cmp (low ++ bound ∷ high) (front ++ p ∷ q ∷ back)
  split_between [] high bound [] p q back same at less none lie = split_here high bound p q back at less none lie
  split_between [] high bound (f ∷ front) p q back same at less none lie = absurd (omega arith)
  split_between (l ∷ low) high bound [] p q back same at less none lie = absurd (omega arith)
  split_between (l ∷ low) high bound (f ∷ front) p q back same at less none lie =
      let on = goes_on (is_lt (cmp bound l)) (shard_of cmp (low ++ high) bound) (length low) at in
      let short : length front ≡ length low = omega arith in
      (lie.0, rw (regrouped front ((p ++ q) ∷ back) (p ∷ q ∷ back) (joined p q back)) lie.1, split_between low high bound front p q back short on.1 less none lie.2)

  pub shard_splits : ShardSplits cmp V
  shard_splits low high bound front p q back same at less none are =
      let whole = regrouped front ((p ++ q) ∷ back) (p ∷ q ∷ back) (joined p q back) in
      (record { between = split_between low high bound front p q back same at less none are.between; ascending = subst (IsAscending cmp) (sym whole) are.ascending }, whole)

  -- ---- a merge

  merge_here : (high : List K) (bound : K) (p q : List (K × V)) (back : List (List (K × V))) → AreBounds cmp (bound ∷ high)
      → LieBetween cmp (bound ∷ high) (p ∷ q ∷ back) → LieBetween cmp high ((p ++ q) ∷ back)
  merge_here [] bound p q back are lie = lie.2
  merge_here (h ∷ high) bound p q back are lie =
      let rest = lie.2 in
      let turns = λ (pair : K × V) (less : cmp pair.0 bound ≡ Less). below_next cmp total pair.0 bound h (cmp bound h) refl less are.0.0 in
      (AllByRecursion-append (λ pair. cmp pair.0 h ≡ Less) p q (AllByRecursion-weaker (λ pair. cmp pair.0 bound ≡ Less) (λ pair. cmp pair.0 h ≡ Less) turns p lie.0) rest.0, rest.1, rest.2)

  merge_between : (low high : List K) (bound : K) (front : List (List (K × V))) (p q : List (K × V)) (back : List (List (K × V))) → length front ≡ length low → AreBounds cmp (low ++ bound ∷ high)
      → LieBetween cmp (low ++ bound ∷ high) (front ++ p ∷ q ∷ back) → LieBetween cmp (low ++ high) (front ++ (p ++ q) ∷ back)
  merge_between [] high bound [] p q back same are lie = merge_here high bound p q back are lie
  merge_between [] high bound (f ∷ front) p q back same are lie = absurd (omega arith)
  merge_between (l ∷ low) high bound [] p q back same are lie = absurd (omega arith)
  merge_between (l ∷ low) high bound (f ∷ front) p q back same are lie =
      let short : length front ≡ length low = omega arith in
      (lie.0, rw (sym (regrouped front ((p ++ q) ∷ back) (p ∷ q ∷ back) (joined p q back))) lie.1, merge_between low high bound front p q back short are.1 lie.2)

  pub shards_merge : ShardsMerge cmp V
  shards_merge low high bound front p q back same bounds are =
      let whole = sym (regrouped front ((p ++ q) ∷ back) (p ∷ q ∷ back) (joined p q back)) in
      (record { between = merge_between low high bound front p q back same bounds are.between; ascending = subst (IsAscending cmp) (sym whole) are.ascending }, whole)

  -- ---- pairs that move: a merge, and a split elsewhere

  moved_to : (low high : List K) (old new : K) (front : List (List (K × V))) (p q r s : List (K × V)) (back : List (List (K × V))) → length front ≡ length low → AreBounds cmp (low ++ old ∷ high)
      → shard_of cmp (low ++ high) new ≡ length low → AllCompare cmp new Less r → NoneBelow cmp new s → p ++ q ≡ r ++ s
      → AreShards cmp (low ++ old ∷ high) (front ++ p ∷ q ∷ back) → AreSameWhole cmp V (low ++ new ∷ high) (front ++ r ∷ s ∷ back) (front ++ p ∷ q ∷ back)
  moved_to low high old new front p q r s back same bounds at less none both are =
      let one = shards_merge low high old front p q back same bounds are in
      let two = shard_splits low high new front r s back same at less none (subst (λ l. AreShards cmp (low ++ high) (front ++ l ∷ back)) both one.0) in
      (two.0, two.1 ∙ ap (λ l. flatten (front ++ l ∷ back)) (sym both) ∙ one.1)

  pub last_pairs_move : LastPairsMove cmp V
  last_pairs_move low high old new front p moved q back same bounds at less none are =
      moved_to low high old new front (p ++ moved) q p (moved ++ q) back same bounds at less none (append_assoc p moved q) are

  pub first_pairs_move : FirstPairsMove cmp V
  first_pairs_move low high old new front p moved q back same bounds at less none are =
      moved_to low high old new front p (moved ++ q) (p ++ moved) q back same bounds at less none (sym (append_assoc p moved q)) are

-- The laws of a bound that moves, and of pairs that move over a bound.
pub ruleset laws = (bound_goes_in, bound_goes_out, shards_merge, last_pairs_move, first_pairs_move)
