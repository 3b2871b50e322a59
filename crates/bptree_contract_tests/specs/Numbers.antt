-- Changes that callers make to the values of a map.
use Rattle.std.specs.Prelude.{◌+◌, ◌/◌, ◌%◌, ◌^◌, ℕ, List, Option, unwrap_or}
use Rattle.std.specs.declared.cmp.Ordering.{Ordering}
use Rattle.bptree_keys.specs.Contents.{put, value}

-- The count plus one, or 1 if there is no count.
abbrev pub one_more : Option ℕ → ℕ
one_more count = (unwrap_or count 0 + 1) % 2 ^ 64

-- The contents with the count at a key increased by one.
abbrev pub counted_on : {K : Type 0} → (K → K → Ordering) → List (K × ℕ) → K → List (K × ℕ)
counted_on cmp l k = put cmp l k (one_more (value cmp l k))

-- The pair with half its value.
abbrev pub halved : {K : Type 0} → K × ℕ → K × ℕ
halved pair = (pair.0, pair.1 / 2)
