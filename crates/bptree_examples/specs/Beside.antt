-- The values beside a key.
use Rattle.std.specs.Prelude.{List, Option}
use Rattle.std.specs.declared.cmp.Ordering.{Ordering}
use Rattle.std.specs.Option.{option_map}
use Rattle.bptree_keys.specs.Contents.{next, previous}

-- The value of the pair with the greatest smaller key, and the value of the pair with the least
-- greater key.
abbrev pub values_beside : {K V : Type 0} → (K → K → Ordering) → List (K × V) → K → Option V × Option V
values_beside {K} {V} cmp l k = (option_map (λ (pair : K × V). pair.1) (previous cmp l k), option_map (λ (pair : K × V). pair.1) (next cmp l k))
