-- The results of calls that change a list of pairs, and the lists that they leave.
use Rattle.std.specs.Prelude.{◌≡◌, ◌≢◌, ℕ, Bool, cond, true, false, List, Option, Some, MatchOption, length, Result, Err, MatchResult, ◌↔◌}
use Rattle.std.specs.declared.cmp.Ordering.{Ordering}
use Rattle.bptree_keys.specs.Contents.{has, value, put, del}
use Rattle.bptree_tree.specs.Entries.{entry}
use Rattle.bptree_tree.specs.declared.InsertError.{InsertError}
use Rattle.bptree_tree.specs.declared.InsertError.TheVariants.{Full, OutOfMemory}
use Rattle.bptree_tree.specs.declared.ReplaceError.{ReplaceError}
use Rattle.bptree_tree.specs.declared.ReplaceError.TheVariants as why
use Rattle.std.specs.Map.Iter.{TakesFirst, TakesLast}

-- an insertion failed with n keys stored, those that `is_there` accepts: the key was absent, and n
-- was the greatest number for `Full` alone
abbrev pub IsInsertFailure : {K V : Type 0} → ℕ → ℕ → (K → Bool) → InsertError K V → Type 0
IsInsertFailure most n is_there (Full k v) = (n ≡ most) × (is_there k ≡ false)
IsInsertFailure most n is_there (OutOfMemory k v) = (n ≢ most) × (is_there k ≡ false)

module _ {K V : Type 0} (cmp : K → K → Ordering) where
  -- v is put at the key k, and the result is the value that was there
  abbrev pub Puts : K → V → List (K × V) → List (K × V) → Option V → Type 0
  Puts k v old new reported = (reported ≡ value cmp old k) × (new ≡ put cmp old k v)

  -- the pair at the key k is removed, and the result is its value
  abbrev pub Removes : K → List (K × V) → List (K × V) → Option V → Type 0
  Removes k old new reported = (reported ≡ value cmp old k) × (new ≡ del cmp old k)

  -- the pair at the key k is removed, and the result is that pair
  abbrev pub RemovesEntry : K → List (K × V) → List (K × V) → Option (K × V) → Type 0
  RemovesEntry k old new reported = (reported ≡ entry cmp old k) × (new ≡ del cmp old k)

  -- k replaces the key that equals it, which is the result, and the value stays
  abbrev pub ReplacesKeyOf : K → List (K × V) → List (K × V) → K → Type 0
  ReplacesKeyOf k old new gone = (v : V) × (entry cmp old k ≡ Some (gone, v)) × (new ≡ put cmp (del cmp old k) k v)

  -- why no key was replaced: no key equals it, or one does and an allocation failed
  abbrev pub IsReplaceFailure : List (K × V) → ReplaceError K → Type 0
  IsReplaceFailure l (why.Absent k) = has cmp l k ≡ false
  IsReplaceFailure l (why.OutOfMemory k) = has cmp l k ≡ true

  -- the pair of the result is removed, by its key; if there is none, nothing changes
  abbrev pub RemovesReported : List (K × V) → List (K × V) → Option (K × V) → Type 0
  RemovesReported old new reported = MatchOption reported (new ≡ old) (λ pair. new ≡ del cmp old pair.0)

  -- the list has the greatest number of pairs, and no key equals k
  abbrev pub IsFull : ℕ → List (K × V) → K → Type 0
  IsFull most l k = (length l ≡ most) × (has cmp l k ≡ false)

  -- the insertion fails with `Full` if and only if the list is full and the key is absent
  abbrev pub FailsIfFull : {R : Type 0} → ℕ → List (K × V) → K → V → Result R (InsertError K V) → Type 0
  FailsIfFull most l k v result = (result ≡ Err (Full k v)) ↔ IsFull most l k

  -- the insertion into l failed with this error: the key is absent, and the length is the greatest
  -- for `Full` alone
  abbrev pub IsFailureOf : ℕ → List (K × V) → InsertError K V → Type 0
  IsFailureOf most l error = IsInsertFailure most (length l) (has cmp l) error

module _ {X : Type 0} where
  -- the first member is removed and is the result, or there is none
  abbrev pub PopsFirst : List X → List X → Option X → Type 0
  PopsFirst old new reported = TakesFirst (λ x. x) old reported new

  -- the last member is removed and is the result, or there is none
  abbrev pub PopsLast : List X → List X → Option X → Type 0
  PopsLast old new reported = TakesLast (λ x. x) old reported new

  -- the last member is removed if `is_last`, otherwise the first one
  abbrev pub PopsEnd : Bool → List X → List X → Option X → Type 0
  PopsEnd is_last old new reported = cond is_last (PopsLast old new reported) (PopsFirst old new reported)

-- the values of both variants have a property
abbrev pub EitherWay : {R : Type 0} → (R → Type 0) → Result R R → Type 0
EitherWay right outcome = MatchResult outcome right right
