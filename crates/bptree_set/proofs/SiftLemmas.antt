-- The keys of a list that are kept by whether another holds them: one by one, and their number.
use Rattle.std.proofs.Common.{◌≡◌, ◌∙◌, ◌+◌, ◌-◌, ◌^◌, ℕ, min, suc, arith, List, [], ◌∷◌, Bool, true, false, not, cond, length, Option, Some, None, refl, sym, ap}
use Rattle.std.specs.declared.cmp.Ordering.{Ordering}
use Rattle.std.specs.Borrow.{Bor}
use Rattle.std.specs.Cmp.{IsTotalOrder}
use Rattle.std.specs.Iterator.{MakesProgress, item_count}
use Rattle.std.specs.List.Sorted.{IsStrictlySortedBy}
use Rattle.bptree_map.specs.Keys.{holds, keys_within, keys_without}
use Rattle.bptree_set.specs.Beside.{AreSides, BoundsKept, TakesFetched, TakesSifted, count_kept, keys_fetched, keys_sifted, sifted_of}
use Rattle.bptree_set.specs.Joined.{IsBoundedHint}
use Rattle.bptree_set.proofs.MemberLemmas.{both_parts, within_fits}
use Rattle.bptree_set.proofs.WalkLemmas.{fetched_within}

module _ {K : Type 0} (cmp : K → K → Ordering) (keeps : Bool → Bool) where
  -- the first key is kept, or skipped
  module _ (keys rest : List K) (k : K) (others : List K) (held : Bool) (next : keys ≡ k ∷ rest) (there : held ≡ holds cmp others k) where
    pub key_given : true ≡ keeps held → keys_sifted cmp keeps keys others ≡ k ∷ keys_sifted cmp keeps rest others
    key_given kept = rw next (ap (λ b. cond b (k ∷ keys_sifted cmp keeps rest others) (keys_sifted cmp keeps rest others)) (sym (kept ∙ ap keeps there)))

    pub key_passed : false ≡ keeps held → keys_sifted cmp keeps keys others ≡ keys_sifted cmp keeps rest others
    key_passed passed = rw next (ap (λ b. cond b (k ∷ keys_sifted cmp keeps rest others) (keys_sifted cmp keeps rest others)) (sym (passed ∙ ap keeps there)))

  -- the number of keys that are kept
  none_kept : (a b : Bool) → 0 ≡ cond a 0 0 + cond b 0 0
  none_kept true true = refl
  none_kept true false = refl
  none_kept false true = refl
  none_kept false false = refl

  module _ (k : K) (kept : List K) (held lacking : ℕ) where
    one_held : (a b : Bool) → length kept ≡ cond a held 0 + cond b lacking 0 → length (cond a (k ∷ kept) kept) ≡ cond a (suc held) 0 + cond b lacking 0
    one_held true true is = omega (arith, is)
    one_held true false is = omega (arith, is)
    one_held false true is = is
    one_held false false is = is

    one_lacking : (a b : Bool) → length kept ≡ cond a held 0 + cond b lacking 0 → length (cond b (k ∷ kept) kept) ≡ cond a held 0 + cond b (suc lacking) 0
    one_lacking true true is = omega (arith, is)
    one_lacking true false is = is
    one_lacking false true is = omega (arith, is)
    one_lacking false false is = is

  one_more : (k : K) (kept within without : List K) (b : Bool) → length kept ≡ count_kept keeps (length within) (length without) → length (cond (keeps b) (k ∷ kept) kept) ≡ count_kept keeps (length (cond b (k ∷ within) within)) (length (cond (not b) (k ∷ without) without))
  one_more k kept within without true is = one_held k kept (length within) (length without) (keeps true) (keeps false) is
  one_more k kept within without false is = one_lacking k kept (length within) (length without) (keeps true) (keeps false) is

  length_sifted : (keys others : List K) → length (keys_sifted cmp keeps keys others) ≡ count_kept keeps (length (keys_within cmp keys others)) (length (keys_without cmp keys others))
  length_sifted [] others = none_kept (keeps true) (keeps false)
  length_sifted (k ∷ keys) others = one_more k (keys_sifted cmp keeps keys others) (keys_within cmp keys others) (keys_without cmp keys others) (holds cmp others k) (length_sifted keys others)

  -- a hint that bounds the keys that are kept, for any numbers of shared and missing keys, is a
  -- bound for two lists
  pub sifted_bounds : IsTotalOrder cmp → (keys others : List K) → IsStrictlySortedBy cmp keys → IsStrictlySortedBy cmp others → (m n : ℕ) (reported : ℕ × Option ℕ) → m ≡ length keys → n ≡ length others → BoundsKept keeps m n reported → IsBoundedHint (length (keys_sifted cmp keeps keys others)) reported
  sifted_bounds total keys others first second m n reported is is_too bounds =
      rw (length_sifted keys others) (bounds (length (keys_within cmp keys others)) (length (keys_without cmp keys others)) (omega (arith, within_fits cmp total keys others first second, is_too)) (omega (arith, both_parts cmp total keys others first second, is)))

  -- a hint bounds the keys that are kept of two sides, whose lengths are computed as numbers
  pub walked_bounds : IsTotalOrder cmp → (sides : List K × List K) → AreSides cmp sides → (m n : ℕ) (reported : ℕ × Option ℕ) → m ≡ min (length sides.0) (2 ^ 64 - 1) → n ≡ min (length sides.1) (2 ^ 64 - 1) → BoundsKept keeps m n reported → IsBoundedHint (length (keys_sifted cmp keeps sides.0 sides.1)) reported
  walked_bounds total sides are m n reported is is_too bounds = sifted_bounds total sides.0 sides.1 are.0 are.1 m n reported (omega (arith, are.2, is)) (omega (arith, are.3, is_too)) bounds

  -- if shared keys are kept, the keys that are kept are those of the first list that equal one of
  -- the second
  sifted_within : ((held : Bool) → keeps held ≡ held) → (keys others : List K) → keys_sifted cmp keeps keys others ≡ keys_within cmp keys others
  sifted_within same [] others = refl
  sifted_within same (k ∷ keys) others = rw (same (holds cmp others k)) (ap (λ l. cond (holds cmp others k) (k ∷ l) l) (sifted_within same keys others))

  pub fetched_sifted : IsTotalOrder cmp → ((held : Bool) → keeps held ≡ held) → (keys others : List K) → IsStrictlySortedBy cmp keys → IsStrictlySortedBy cmp others → keys_fetched cmp keys others ≡ keys_sifted cmp keeps keys others
  fetched_sifted total same keys others first second = fetched_within cmp total keys others first second ∙ sym (sifted_within same keys others)

  -- a step that takes the first of the one list takes the first of the other
  pub fetched_takes : IsTotalOrder cmp → ((held : Bool) → keeps held ≡ held) → (keys others left : List K) (r : Option (Bor K)) → IsStrictlySortedBy cmp keys → IsStrictlySortedBy cmp others → IsStrictlySortedBy cmp left → TakesFetched cmp (keys, others) r (keys, left) → TakesSifted cmp keeps (keys, others) r (keys, left)
  fetched_takes total same keys others left r first second third takes = rw (← fetched_sifted total same keys others first second, ← fetched_sifted total same keys left first third) takes

  pub sifted_goes : (old left : List K × List K) (r : Option (Bor K)) → TakesSifted cmp keeps old r left → MakesProgress (λ _. Unit {0}) (item_count (sifted_of cmp keeps)) old r left
  sifted_goes old left None step = record { on = λ _. tt; keeps = tt; rests = λ _. tt }
  sifted_goes old left (Some x) step = record { on = λ _. (tt, tt, rw step (omega arith)); keeps = tt; rests = λ _. tt }
