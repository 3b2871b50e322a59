-- The number of keys that are smaller than one that is searched for.
use Rattle.std.proofs.Common.{◌≡◌, ℕ, ◌+◌, ◌-◌, ◌^◌, ◌<◌, ◌≤◌, min, List, [], ◌∷◌, ◌++◌, length, Result, Ok, Err, Bool, true, false, refl, ap, ◌∙◌, arith, length-append, append_assoc}
use Rattle.std.specs.declared.cmp.Ordering.{Ordering}
use Rattle.std.specs.declared.cmp.Ordering.TheVariants.{Less, Equal, Greater}
use Rattle.std.specs.Ordering.{is_lt}
use Rattle.std.specs.List.{AllByRecursion, filter}
use Rattle.std.proofs.lemmas.List.Elements.{filter-append}
use Rattle.std.proofs.lemmas.List.Sums.{length-filter, count_by-le-length}
use Rattle.bptree_arguments.specs.CountLaws.{count_below}
use Rattle.bptree_arguments.specs.Ranks.{AllAbove, AllBelow, IsSlotIn, IsSlotOf, SplitsAt}
use Rattle.bptree_keys.proofs.PieceLemmas.{AllByRecursion-append, AllByRecursion-weaker}

-- a test that every element passes keeps the list, and one that no element passes keeps nothing
module _ {X : Type 0} (p : X → Bool) where
  filter_all : (xs : List X) → AllByRecursion (λ x. p x ≡ true) xs → filter p xs ≡ xs
  filter_all [] h = refl
  filter_all (x ∷ xs) h = rw h.0 (ap (λ t. x ∷ t) (filter_all xs h.1))

  pub filter_none : (xs : List X) → AllByRecursion (λ x. p x ≡ false) xs → filter p xs ≡ []
  filter_none [] h = refl
  filter_none (x ∷ xs) h = rw h.0 (filter_none xs h.1)

-- the index in either result of a search
abbrev pub slot_index : Result ℕ ℕ → ℕ
slot_index (Ok i) = i
slot_index (Err i) = i

module _ {K : Type 0} (cmp : K → K → Ordering) (k : K) where
  -- the number of keys below k is the length of the part below it
  count_below-split : (keys front middle back : List K) → SplitsAt cmp k keys front middle back → count_below cmp k keys ≡ length front
  count_below-split keys front middle back s =
      let front_kept = filter_all (λ x. is_lt (cmp x k)) front (AllByRecursion-weaker (λ x. cmp x k ≡ Less) (λ x. is_lt (cmp x k) ≡ true) (λ x e. ap is_lt e) front s.below) in
      let middle_gone = filter_none (λ x. is_lt (cmp x k)) middle (AllByRecursion-weaker (λ x. cmp x k ≡ Equal) (λ x. is_lt (cmp x k) ≡ false) (λ x e. ap is_lt e) middle s.equal) in
      let back_gone = filter_none (λ x. is_lt (cmp x k)) back (AllByRecursion-weaker (λ x. cmp x k ≡ Greater) (λ x. is_lt (cmp x k) ≡ false) (λ x e. ap is_lt e) back s.above) in
      rw (s.parts, filter-append (λ x. is_lt (cmp x k)) front (middle ++ back), filter-append (λ x. is_lt (cmp x k)) middle back, front_kept, middle_gone, back_gone) (length-append front [] ∙ omega arith)

  -- a split with smaller keys before it and greater keys after it is a split at the same key
  pub SplitsAt-within : (keys front middle back before after : List K) → SplitsAt cmp k keys front middle back → AllBelow cmp k before → AllAbove cmp k after → SplitsAt cmp k (before ++ (keys ++ after)) (before ++ front) middle (back ++ after)
  SplitsAt-within keys front middle back before after s low high = record {
    parts = rw s.parts (simp append_assoc);
    below = AllByRecursion-append (λ x. cmp x k ≡ Less) before front low s.below;
    equal = s.equal;
    above = AllByRecursion-append (λ x. cmp x k ≡ Greater) back after s.above high;
  }

  -- the keys below k in the whole are those before the leaf and those before k's slot
  pub count_below-slot : (keys before after : List K) (slot : Result ℕ ℕ) → IsSlotOf cmp k keys slot → AllBelow cmp k before → AllAbove cmp k after → count_below cmp k (before ++ (keys ++ after)) ≡ length before + slot_index slot
  count_below-slot keys before after (Ok i) (front, back, x, l, s) low high =
      count_below-split (before ++ (keys ++ after)) (before ++ front) (x ∷ []) (back ++ after) (SplitsAt-within keys front (x ∷ []) back before after s low high) ∙ omega (arith, length-append before front, l)
  count_below-slot keys before after (Err i) (front, back, l, s) low high =
      count_below-split (before ++ (keys ++ after)) (before ++ front) [] (back ++ after) (SplitsAt-within keys front [] back before after s low high) ∙ omega (arith, length-append before front, l)

  -- the slot of a key is in range
  pub IsSlotOf-in : (keys : List K) (slot : Result ℕ ℕ) → IsSlotOf cmp k keys slot → IsSlotIn keys slot
  IsSlotOf-in keys (Ok i) (front, back, x, l, s) = omega (arith, l, ap length s.parts, length-append front (x ∷ back))
  IsSlotOf-in keys (Err i) (front, back, l, s) = omega (arith, l, ap length s.parts, length-append front back)

  -- the count of keys below k is at most the length of the list
  pub count_below-le : (keys : List K) → count_below cmp k keys ≤ length keys
  count_below-le keys = omega (arith, length-filter (λ x. is_lt (cmp x k)) keys, count_by-le-length (λ x. is_lt (cmp x k)) keys)

  -- a rank that counts the keys before a leaf counts those below k once k's slot is added
  pub counted_at_slot : (rank : ℕ) (keys : List K) (slot : Result ℕ ℕ) (outcome : ℕ) → outcome ≡ min (rank + slot_index slot) (2 ^ 64 - 1) → IsSlotOf cmp k keys slot → (before after : List K) → AllBelow cmp k before → AllAbove cmp k after → length (before ++ (keys ++ after)) < 2 ^ 64 → rank ≡ length before → outcome ≡ count_below cmp k (before ++ (keys ++ after))
  counted_at_slot rank keys slot outcome is placed before after low high fits stored =
      omega (arith, is, count_below-slot keys before after slot placed low high, fits, stored, count_below-le (before ++ (keys ++ after)))
