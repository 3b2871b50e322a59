-- The results of calls for many keys at once, and the contents that they leave.
use Rattle.std.specs.Prelude.{◌≡◌, List, [], ◌∷◌, Option}
use Rattle.std.specs.declared.cmp.Ordering.{Ordering}
use Rattle.std.specs.List.{AllZip, zip}
use Rattle.bptree_keys.specs.Contents.{del, value}
use Rattle.bptree_map.specs.Moving.{PutsClones}

module _ {X K : Type 0} (step : X → K → X) where
  -- the value after a step for each key, one after another
  abbrev pub after_each : X → List K → X
  after_each x [] = x
  after_each x (k ∷ ks) = after_each (step x k) ks

  -- the result of each step, in place of the old member at the key's index; what is after the keys
  -- is unchanged
  abbrev pub returned_each : {T : Type 0} → (X → K → T) → X → List K → List T → List T
  returned_each returned x [] olds = olds
  returned_each returned x (k ∷ ks) [] = []
  returned_each returned x (k ∷ ks) (old ∷ olds) = returned x k ∷ returned_each returned (step x k) ks olds

module _ {K V : Type 0} (cmp : K → K → Ordering) where
  -- the pairs without those at some keys
  abbrev pub without_each : List (K × V) → List K → List (K × V)
  without_each = after_each (del cmp)

  -- the value that the removal of each key, one after another, returns, in place of the old member at its index
  abbrev pub removed_each : List (K × V) → List K → List (Option V) → List (Option V)
  removed_each = returned_each (del cmp) (value cmp)

-- the pairs are clones of the keys, each with the value at its index
abbrev pub AreColumns : {K V : Type 0} → (K → K → Type 0) → List K → List V → List (K × V) → Type 0
AreColumns is_clone keys values pairs = AllZip (λ p q. is_clone p.0 q.0 × (q.1 ≡ p.1)) (zip keys values) pairs

-- of each key of the columns the last value was put
abbrev pub PutsColumns : {K V : Type 0} → (K → K → Ordering) → (K → K → Type 0) → List K → List V → List (K × V) → List (K × V) → Type 0
PutsColumns cmp is_clone keys values old new = PutsClones cmp is_clone (λ v w. w ≡ v) (zip keys values) old new
