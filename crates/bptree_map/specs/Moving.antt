-- Many pairs, or keys, put one after another.
use Rattle.std.specs.Prelude.{◌≡◌, ℕ, ◌+◌, ◌<◌, List, [], Option, Some, Result, OnOk, length}
use Rattle.std.specs.declared.cmp.Ordering.{Ordering}
use Rattle.std.specs.Iterator.{Drains, YieldsThen}
use Rattle.std.specs.List.{AllZip}
use Rattle.bptree_bulk.specs.Weave.{put_all, put_pair}
use Rattle.bptree_keys.specs.Contents.{gather}
use Rattle.bptree_map.specs.Keys.{gathered, with_key}

module _ {X : Type 0} (put_one : List X → X → List X) where
  module _ {S : Type 0} (steps : S → Option X → S → Type 0) where
    -- all members that an iterator yielded were put
    abbrev pub IsExtended : S → List X → List X → Type 0
    IsExtended it old new = (given : List X) × Drains steps it given × (new ≡ put_all put_one old given)

    -- the members that an iterator yielded before a given one were put
    abbrev pub IsExtendedUpTo : S → X → List X → List X → Type 0
    IsExtendedUpTo it x old new = (given : List X) × (rest : S) × YieldsThen steps it given (Some x) rest × (new ≡ put_all put_one old given)

    -- all members that the iterator of some items yielded were put, or those before a given one
    abbrev pub ExtendsMap : {U : Type 0} → (U → S → Type 0) → U → List X → List X → Type 0
    ExtendsMap becomes items old new = (it : S) × becomes items it × IsExtended it old new

    abbrev pub ExtendsUpTo : {U : Type 0} → (U → S → Type 0) → U → List X → List X → X → Type 0
    ExtendsUpTo becomes items old new x = (it : S) × becomes items it × IsExtendedUpTo it x old new

  -- all members of another list were put and were moved out of it
  abbrev pub AllMove : List X → List X → List X → List X → Type 0
  AllMove old other new rest = (new ≡ put_all put_one old other) × (rest ≡ [])

module _ {K V : Type 0} (cmp : K → K → Ordering) where
  -- of each key the last pair of a list was put
  abbrev pub PutsAll : List (K × V) → List (K × V) → List (K × V) → Type 0
  PutsAll pairs old new = new ≡ put_all (put_pair cmp) old (gather cmp pairs)

  -- of each key the last pair of a list of clones was put
  abbrev pub PutsClones : (K → K → Type 0) → (V → V → Type 0) → List (K × V) → List (K × V) → List (K × V) → Type 0
  PutsClones is_clone is_value_clone pairs old new =
      (clones : List (K × V)) × AllZip (λ p q. is_clone p.0 q.0 × is_value_clone p.1 q.1) pairs clones × PutsAll clones old new

  -- the clones of the pairs were put unless the call failed
  abbrev pub PutsClonesIfOk : {R E : Type 0} → (K → K → Type 0) → (V → V → Type 0) → List (K × V) → List (K × V) → List (K × V) → Result R E → Type 0
  PutsClonesIfOk is_clone is_value_clone pairs old new result = OnOk result (PutsClones is_clone is_value_clone pairs old new)

  -- the different keys of a list of pairs, and the pairs of another, are more than so many together
  abbrev pub AreTooMany : ℕ → List (K × V) → List (K × V) → Type 0
  AreTooMany most pairs old = most < length old + length (gather cmp pairs)

module _ {K : Type 0} (cmp : K → K → Ordering) where
  -- of each group of equal keys of a list the last was put
  abbrev pub PutsAllKeys : List K → List K → List K → Type 0
  PutsAllKeys keys old new = new ≡ put_all (with_key cmp) old (gathered cmp keys)

  -- of each group of equal keys of a list of clones the last was put
  abbrev pub PutsKeyClones : (K → K → Type 0) → List K → List K → List K → Type 0
  PutsKeyClones is_clone keys old new = (clones : List K) × AllZip is_clone keys clones × PutsAllKeys clones old new

  -- the different keys of a list, and those of another, are more than so many together
  abbrev pub AreTooManyKeys : ℕ → List K → List K → Type 0
  AreTooManyKeys most keys old = most < length old + length (gathered cmp keys)
