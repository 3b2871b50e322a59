-- The first pair of a map is removed.
use Rattle.std.specs.Prelude.{◌≡◌, List, [], ◌∷◌, Option, Some, None}
use Rattle.std.specs.declared.cmp.Ordering.{Ordering}
use Rattle.std.specs.declared.cmp.Ordering.TheVariants.{Equal}

-- the map was empty; or the first pair was removed, and was returned with a key that equals its key
abbrev pub IsPopped : {K V : Type 0} → (K → K → Ordering) → List (K × V) → List (K × V) → Option (K × V) → Type 0
IsPopped cmp old new None = (old ≡ []) × (new ≡ [])
IsPopped {K} {V} cmp old new (Some pair) = (key : K) × (cmp key pair.0 ≡ Equal) × (old ≡ (key, pair.1) ∷ new)
