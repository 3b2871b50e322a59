-- What `retain` leaves if it fails.
use Rattle.std.specs.Prelude.{◌≡◌, Bool, List, []}
use Rattle.std.specs.Borrow.{Bor, MutBor}
use Rattle.std.specs.Fn.{Mut}
use Rattle.std.specs.declared.alloc.Global.{Global}
use Rattle.std.specs.declared.vec.Vec.{Vec}
use Rattle.bptree_map.specs.declared.failures.RetainError.{RetainError}
use Rattle.bptree_map.specs.declared.failures.RetainError.TheVariants.{NotMade, NotStored}
use Rattle.bptree_nodes.specs.Retaining.{IsRetained}

module _ {F K V : Type 0} (calls : Mut F (Bor K × (MutBor V × Unit {0})) (Bool × (MutBor V × Unit {0}))) where
  -- an allocation failed: nothing has changed, or the pairs that stay are in the error and no pair
  -- is left
  abbrev pub FailsRetain : F → List (K × V) → List (K × V) → RetainError (Vec (K × V) Global) → Type 0
  FailsRetain f old new NotMade = new ≡ old
  FailsRetain f old new (NotStored kept) = (new ≡ []) × IsRetained calls f old kept.items
