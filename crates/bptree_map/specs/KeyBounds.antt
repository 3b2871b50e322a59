-- The keys of a set between two bounds.
use Rattle.std.specs.Prelude.{not, ◌&&◌, List, filter}
use Rattle.std.specs.declared.cmp.Ordering.{Ordering}
use Rattle.std.specs.declared.ops.Bound.{Bound}
use Rattle.bptree_ranges.specs.Bounds.{is_before_start, is_upto_end}

-- the keys that are neither before the start nor behind the end
abbrev pub keys_between_bounds : {K : Type 0} → (K → K → Ordering) → List K → Bound K → Bound K → List K
keys_between_bounds cmp keys lo hi = filter (λ key. not (is_before_start cmp lo key) && is_upto_end cmp hi key) keys
