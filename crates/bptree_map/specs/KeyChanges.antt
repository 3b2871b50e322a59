-- The results of calls that change a set, and the keys that they leave.
use Rattle.std.specs.Prelude.{◌≡◌, ℕ, Bool, false, not, List, Option, length}
use Rattle.std.specs.declared.cmp.Ordering.{Ordering}
use Rattle.bptree_tree.specs.Changes.{IsInsertFailure}
use Rattle.bptree_tree.specs.declared.InsertError.{InsertError}
use Rattle.bptree_map.specs.Keys.{holds, with_key, without_key, key_found}

module _ {K : Type 0} (cmp : K → K → Ordering) where
  -- k is put in, and the result is whether it is new
  abbrev pub PutsKey : K → List K → List K → Bool → Type 0
  PutsKey k old new is_new = (is_new ≡ not (holds cmp old k)) × (new ≡ with_key cmp old k)

  -- the key that equals k is removed, and the result is whether there was one
  abbrev pub RemovesKey : K → List K → List K → Bool → Type 0
  RemovesKey k old new was = (was ≡ holds cmp old k) × (new ≡ without_key cmp old k)

  -- the key that equals k is removed, and is the result
  abbrev pub TakesKey : K → List K → List K → Option K → Type 0
  TakesKey k old new reported = (reported ≡ key_found cmp old k) × (new ≡ without_key cmp old k)

  -- k replaces the key that equals it, which is the result
  abbrev pub ReplacesKey : K → List K → List K → Option K → Type 0
  ReplacesKey k old new reported = (reported ≡ key_found cmp old k) × (new ≡ with_key cmp (without_key cmp old k) k)

  -- the set has the greatest number of keys, and no key equals k
  abbrev pub IsFullForKey : ℕ → List K → K → Type 0
  IsFullForKey most keys k = (length keys ≡ most) × (holds cmp keys k ≡ false)

  -- the insertion into a set of these keys failed with this error: the key is absent, and the
  -- length is the greatest for `Full` alone
  abbrev pub IsKeyFailureOf : {V : Type 0} → ℕ → List K → InsertError K V → Type 0
  IsKeyFailureOf most keys error = IsInsertFailure most (length keys) (holds cmp keys) error
