-- Pairs in the order of their keys.
use Rattle.std.specs.Prelude.{◌≡◌, ◌≢◌, ℕ, ◌+◌, Bool, Option, Some, None, List, [], ◌∷◌, ◌++◌, drop, take, ⊤, if◌then◌else◌}
use Rattle.std.specs.declared.cmp.Ordering.{Ordering}
use Rattle.std.specs.declared.cmp.Ordering.TheVariants.{Greater}
use Rattle.std.specs.Ordering.{is_eq}
use Rattle.std.specs.Option.{option_or}
use Rattle.bptree_keys.specs.Contents.{load, value}
use Rattle.bptree_load_plan.specs.Dedup.{last_of_each_run}

module _ {K V : Type 0} (cmp : K → K → Ordering) where
  -- the key k is not greater than the first key of the pairs
  abbrev pub IsNotAboveFirst : K → List (K × V) → Type 0
  IsNotAboveFirst k [] = ⊤
  IsNotAboveFirst k (pair ∷ rest) = cmp k pair.0 ≢ Greater

  -- no key is greater than the next one
  abbrev pub IsInLoadOrder : List (K × V) → Type 0
  IsInLoadOrder [] = ⊤
  IsInLoadOrder (pair ∷ rest) = IsNotAboveFirst pair.0 rest × IsInLoadOrder rest

  -- if `last` holds, `load` keeps the pair at the index `at`; otherwise, `load` of the pairs from `at` on is `load` of those
  -- after `at`
  abbrev pub ReportsIfLast : List (K × V) → ℕ → Bool → Type 0
  ReportsIfLast pairs at last = load cmp (drop at pairs) ≡ (if last then take 1 (drop at pairs) else []) ++ load cmp (drop (at + 1) pairs)

  -- `load` keeps all pairs before the index `at`, and continues with those from `at` on
  abbrev pub StayBefore : List (K × V) → ℕ → Type 0
  StayBefore pairs at = load cmp pairs ≡ take at pairs ++ load cmp (drop at pairs)

  -- the value of the last pair whose key equals k
  abbrev pub last_value : List (K × V) → K → Option V
  last_value [] k = None
  last_value (pair ∷ rest) k = option_or (last_value rest k) (if is_eq (cmp pair.0 k) then Some pair.1 else None)

-- laws of `load`
module _ (K V : Type 0) (cmp : K → K → Ordering) where
  -- after `load` of pairs in load order, the value at a key is the one of the last pair with an equal key
  abbrev pub LoadGivesLast : Type 0
  LoadGivesLast = (l : List (K × V)) → (k : K) → IsInLoadOrder cmp l → value cmp (load cmp l) k ≡ last_value cmp l k

  -- `load` keeps the last pair of each run of pairs with equal keys
  abbrev pub LoadKeepsLast : Type 0
  LoadKeepsLast = (l : List (K × V)) → load cmp l ≡ last_of_each_run (λ pair after. is_eq (cmp pair.0 after.0)) l
