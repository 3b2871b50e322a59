-- The first pair of a list is removed, with a key that equals its key: its own.
use Rattle.std.proofs.Common.{List, Option, Some, None}
use Rattle.std.specs.declared.cmp.Ordering.{Ordering}
use Rattle.std.specs.Cmp.{IsTotalOrder}
use Rattle.std.specs.Map.Iter.{TakesFirst}
use Rattle.std.proofs.lemmas.Cmp.{tied_itself}
use Rattle.bptree_map.specs.Popping.{IsPopped}

pub popped : {K V : Type 0} {cmp : K → K → Ordering} → IsTotalOrder cmp → (old new : List (K × V)) (gone : Option (K × V)) → TakesFirst (λ (pair : K × V). pair) old gone new → IsPopped cmp old new gone
popped total old new None taken = taken
popped total old new (Some pair) taken = (pair.0, tied_itself total pair.0, taken)
