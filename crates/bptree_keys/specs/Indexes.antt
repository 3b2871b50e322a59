-- The index of a key in the contents, or the index that the key would have.
use Rattle.std.specs.Prelude.{◌≡◌, ℕ, false, Result, List, ◌∷◌, ◌++◌, length, slice_get, IsSomeAnd, MatchResult}
use Rattle.std.specs.declared.cmp.Ordering.{Ordering}
use Rattle.std.specs.declared.cmp.Ordering.TheVariants.{Less, Equal, Greater}
use Rattle.std.specs.List.{AllByRecursion}
use Rattle.bptree_keys.specs.Contents.{below, has}

-- the comparison of each key of l with k is o
abbrev pub AllCompare : {K V : Type 0} → (K → K → Ordering) → K → Ordering → List (K × V) → Type 0
AllCompare cmp k o l = AllByRecursion (λ pair. cmp pair.0 k ≡ o) l

-- no key of l equals k: l is the pairs with smaller keys, then those with greater keys
pub record IsKeyGap {K V : Type 0} (cmp : K → K → Ordering) (l before after : List (K × V)) (k : K) : Type 0 where
  pub parts : l ≡ before ++ after
  pub smaller : AllCompare cmp k Less before
  pub greater : AllCompare cmp k Greater after

-- the key of a pair of l equals k: l is the pairs with smaller keys, that pair, then those with greater keys
pub record IsHit {K V : Type 0} (cmp : K → K → Ordering) (l before : List (K × V)) (pair : K × V) (after : List (K × V)) (k : K) : Type 0 where
  pub parts : l ≡ before ++ pair ∷ after
  pub smaller : AllCompare cmp k Less before
  pub equal : cmp pair.0 k ≡ Equal
  pub greater : AllCompare cmp k Greater after

-- r is a result of a search for k in l: `Ok` of the index of an equal key, or `Err` of the number of smaller keys if no
-- key equals k
abbrev pub IsIndexOf : {K V : Type 0} → (K → K → Ordering) → List (K × V) → K → Result ℕ ℕ → Type 0
IsIndexOf cmp l k r = MatchResult r
    (λ i. IsSomeAnd (slice_get l i) (λ pair. cmp pair.0 k ≡ Equal))
    (λ i. (has cmp l k ≡ false) × (i ≡ length (below cmp l k)))
