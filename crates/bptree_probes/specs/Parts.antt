-- The pairs up to a key.
use Rattle.std.specs.Prelude.{not, List, filter}
use Rattle.std.specs.declared.cmp.Ordering.{Ordering}
use Rattle.std.specs.Ordering.{is_gt}

-- the pairs whose keys are at most k
abbrev pub up_to : {K V : Type 0} → (K → K → Ordering) → List (K × V) → K → List (K × V)
up_to cmp l k = filter (λ pair. not (is_gt (cmp pair.0 k))) l
