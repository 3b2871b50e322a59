-- The members of a list that a closure keeps.
use Rattle.std.specs.Prelude.{◌≡◌, ℕ, Bool, List, Some, ◌++◌, slice_get, take}
use Rattle.std.specs.Borrow.{Bor, MutBor}
use Rattle.std.specs.Fn.{Mut}
use Rattle.std.specs.List.{zip}
use Rattle.std.specs.List.Retain.{RetainsInTurn}
use Rattle.std.specs.Map.Calls.{CalledAtPair}
use Rattle.bptree_nodes.specs.Leaf.{Leaf, set_value_at}

module _ {F K V : Type 0} (calls : Mut F (Bor K × (MutBor V × Unit {0})) (Bool × (MutBor V × Unit {0}))) where
  -- a call for the key and the value of a pair returns whether the pair stays, and leaves this
  -- value and this closure
  abbrev pub CallsAtPair : F → K × V → Bool → F → K × V → Type 0
  CallsAtPair f pair stays after left = (left.0 ≡ pair.0) × CalledAtPair calls f pair.0 pair.1 stays left.1 after

  -- the new list has the pairs that stay, as the closure left them
  abbrev pub IsRetained : F → List (K × V) → List (K × V) → Type 0
  IsRetained f old new = RetainsInTurn CallsAtPair f old new

  -- the closure was called for the pairs of the old list, which leaves it as `after`, and the new
  -- list has those that stay: with the pairs that stay of more pairs it has those that stay of all
  abbrev pub RetainsFirst : F → List (K × V) → F → List (K × V) → Type 0
  RetainsFirst f old after new = (more stay : List (K × V)) → IsRetained after more stay → IsRetained f (old ++ more) (new ++ stay)

  -- the first keys and values are those of the pairs that stay
  abbrev pub RetainsInFront : F → List (K × V) → F → ℕ → List K → List V → Type 0
  RetainsInFront f old after count keys values = RetainsFirst f old after (zip (take count keys) (take count values))

  -- the closure was called for the pair at a slot of a leaf, whose value it left as the new leaf
  -- has it; the call returned the first result, and left the second as the closure
  abbrev pub CallsAtSlot : F → ℕ → Leaf K V → Leaf K V → Bool × F → Type 0
  CallsAtSlot f slot old new result =
      (pair : K × V) × (left : V) × (slice_get old.pairs slot ≡ Some pair) × CallsAtPair f pair result.0 result.1 (pair.0, left)
      × (new ≡ record old { pairs = set_value_at old.pairs slot left })
