-- The slot of a key among others, present or absent, and how a rank is carried to it.
use Rattle.std.specs.Prelude.{◌≡◌, ℕ, ◌<◌, ◌≤◌, ◌^◌, List, [], ◌∷◌, ◌++◌, length, Result, Ok, Err, MatchResult}
use Rattle.std.specs.declared.cmp.Ordering.{Ordering}
use Rattle.std.specs.declared.cmp.Ordering.TheVariants.{Less, Equal, Greater}
use Rattle.std.specs.List.{AllByRecursion, AllZip}
use Rattle.std.specs.List.Sorted.{IsStrictlySortedBy}
use Rattle.bptree_keys.specs.Pieces.{AllNonEmpty, flatten}

-- every key of the list is smaller than k
abbrev pub AllBelow : {K : Type 0} → (K → K → Ordering) → K → List K → Type 0
AllBelow cmp k keys = AllByRecursion (λ x. cmp x k ≡ Less) keys

-- every key of the list is greater than k
abbrev pub AllAbove : {K : Type 0} → (K → K → Ordering) → K → List K → Type 0
AllAbove cmp k keys = AllByRecursion (λ x. cmp x k ≡ Greater) keys

-- keys split at k: the smaller ones, those that equal k, and the greater ones
pub record SplitsAt {K : Type 0} (cmp : K → K → Ordering) (k : K) (keys front middle back : List K) : Type 0 where
  pub parts : keys ≡ front ++ (middle ++ back)
  pub below : AllBelow cmp k front
  pub equal : AllByRecursion (λ x. cmp x k ≡ Equal) middle
  pub above : AllAbove cmp k back

-- a slot in range: `Ok` of the slot of a key, or `Err` of a slot at which a key may be inserted
abbrev pub IsSlotIn : {X : Type 0} → List X → Result ℕ ℕ → Type 0
IsSlotIn xs (Ok i) = i < length xs
IsSlotIn xs (Err i) = i ≤ length xs

-- the slot of k among strictly ascending keys: `Ok` if k is present, and otherwise `Err` of the
-- slot at which k would be inserted
abbrev pub IsSlotOf : {K : Type 0} → (K → K → Ordering) → K → List K → Result ℕ ℕ → Type 0
IsSlotOf {K} cmp k keys (Ok i) = (front back : List K) × (x : K) × (length front ≡ i) × SplitsAt cmp k keys front (x ∷ []) back
IsSlotOf {K} cmp k keys (Err i) = (front back : List K) × (length front ≡ i) × SplitsAt cmp k keys front [] back

-- If the rank represents some keys, the next rank represents these and the keys of pieces
-- behind them. The pieces have these summaries, and all keys are smaller than k.
abbrev pub Carries : {R A K : Type 0} → (A → List K → Type 0) → (K → K → Ordering) → List A → (R → K → List K → Type 0) → R → K → R → Type 0
Carries {K = K} is_summary cmp arguments represents rank k next =
    (before : List K) (pieces : List (List K)) → AllNonEmpty pieces → AllZip is_summary arguments pieces → IsStrictlySortedBy cmp (before ++ flatten pieces)
    → AllBelow cmp k (before ++ flatten pieces) → length (before ++ flatten pieces) < 2 ^ 64 → represents rank k before → represents next k (before ++ flatten pieces)

-- If the slot is that of k among the keys, the result ranks k among all keys. The rank represents
-- the smaller keys before these, and any keys behind are greater.
abbrev pub RanksAtSlot : {R K : Type 0} → (K → K → Ordering) → (R → K → List K → Type 0) → (K → List K → R → Type 0) → K → R → List K → Result ℕ ℕ → Result R R → Type 0
RanksAtSlot {K = K} cmp represents ranks k rank keys slot outcome =
    IsSlotOf cmp k keys slot → (before after : List K) → IsStrictlySortedBy cmp (before ++ (keys ++ after)) → AllBelow cmp k before → AllAbove cmp k after
    → length (before ++ (keys ++ after)) < 2 ^ 64 → represents rank k before → MatchResult outcome (ranks k (before ++ (keys ++ after))) (ranks k (before ++ (keys ++ after)))
