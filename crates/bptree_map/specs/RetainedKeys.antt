-- The keys of a set that stay.
use Rattle.std.specs.Prelude.{◌≡◌, ℕ, Bool, not, ◌&&◌, Option, List, [], filter, Result, Ok}
use Rattle.std.specs.Borrow.{Bor}
use Rattle.std.specs.Fn.{CalledAt, Mut}
use Rattle.std.specs.List.Retain.{IsFiltered}
use Rattle.std.specs.declared.alloc.Global.{Global}
use Rattle.std.specs.declared.vec.Vec.{Vec}
use Rattle.std.specs.declared.cmp.Ordering.{Ordering}
use Rattle.bptree_keys.specs.Ranges.{falls_short, stays_below}
use Rattle.bptree_map.specs.Keys.{keys_between}
use Rattle.bptree_map.specs.declared.failures.RetainError.{RetainError}
use Rattle.bptree_map.specs.declared.failures.RetainError.TheVariants.{NotMade, NotStored}

module _ {F K : Type 0} (calls : Mut F (Bor K × Unit {0}) Bool) where
  -- an allocation failed: nothing has changed, or the keys that stay are in the error and no key is
  -- left
  abbrev pub FailsKeyRetain : F → List K → List K → RetainError (Vec K Global) → Type 0
  FailsKeyRetain f old new NotMade = new ≡ old
  FailsKeyRetain f old new (NotStored kept) = (new ≡ []) × IsFiltered (CalledAt calls) f old kept.items

module _ {K : Type 0} (cmp : K → K → Ordering) where
  -- the keys that are below lo, if lo is given, or are not below hi, if hi is given
  abbrev pub keys_outside : List K → Option K → Option K → List K
  keys_outside keys lo hi = filter (λ key. not (not (falls_short cmp lo key) && stays_below cmp hi key)) keys

  -- if no key is between the ends, 0 is returned and nothing changes
  abbrev pub KeepsAllIfNoKey : {E : Type 0} → Option K → Option K → List K → List K → Result ℕ E → Type 0
  KeepsAllIfNoKey lo hi old new result = keys_between cmp old lo hi ≡ [] → (result ≡ Ok 0) × (new ≡ old)
