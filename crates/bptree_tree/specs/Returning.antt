-- The pair or the key that a failed insertion returns.
use Rattle.bptree_tree.specs.declared.InsertError.{InsertError}
use Rattle.bptree_tree.specs.declared.InsertError.TheVariants.{OutOfMemory, Full}
use Rattle.bptree_tree.specs.declared.ReplaceError.{ReplaceError}
use Rattle.bptree_tree.specs.declared.ReplaceError.TheVariants as why
use Rattle.std.specs.Prelude.{◌≡◌, List}

-- the pair that was not stored
abbrev pub pair_of : {K V : Type 0} → InsertError K V → K × V
pair_of (OutOfMemory k v) = (k, v)
pair_of (Full k v) = (k, v)

-- the pair that was not stored is this one, and the list is unchanged
abbrev pub ReturnsPair : {K V : Type 0} → K × V → List (K × V) → List (K × V) → InsertError K V → Type 0
ReturnsPair pair old new refusal = (pair_of refusal ≡ pair) × (new ≡ old)

-- the key that was to replace another
abbrev pub key_in : {K : Type 0} → ReplaceError K → K
key_in (why.Absent k) = k
key_in (why.OutOfMemory k) = k

-- the key in the error is this one, and the list is unchanged
abbrev pub ReturnsKey : {K X : Type 0} → K → List X → List X → ReplaceError K → Type 0
ReturnsKey key old new error = (key_in error ≡ key) × (new ≡ old)
