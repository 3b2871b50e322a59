-- The part of the contents between two bounds, each of which includes its key, excludes it, or is
-- open.
use Rattle.std.specs.Prelude.{◌≡◌, Bool, true, false, not, ◌&&◌, List, Option, Some, None, filter}
use Rattle.std.specs.Borrow.{Bor}
use Rattle.std.specs.declared.cmp.Ordering.{Ordering}
use Rattle.std.specs.declared.ops.Bound.{Bound}
use Rattle.std.specs.declared.ops.Bound.TheVariants.{Included, Excluded, Unbounded}
use Rattle.std.specs.Option.{option_map}
use Rattle.std.specs.Ordering.{is_lt, is_gt}
use Rattle.std.specs.Range.Bound.{bound_map}
use Rattle.bptree_keys.specs.Ends.{is_after, is_back}
use Rattle.bptree_keys.specs.declared.end.End.{End}
use Rattle.bptree_keys.specs.declared.end.Side.{Side}

-- the bound with the key that its reference points to
abbrev pub bound_copied : {K : Type 0} → Bound (Bor K) → Bound K
bound_copied bound = bound_map (λ key. key.now) bound

-- the start bound includes its key, and the end bound excludes it; without a key they are open
abbrev pub start_bound : {K : Type 0} → Option K → Bound K
start_bound None = Unbounded
start_bound (Some lo) = Included lo

abbrev pub end_bound : {K : Type 0} → Option K → Bound K
end_bound None = Unbounded
end_bound (Some hi) = Excluded hi

-- the key of an end bound, or else of a start bound, and whether the position of the bound is after
-- that key; `None` if the bound is open
abbrev pub bound_key : {K : Type 0} → Bool → Bound K → Option (K × Bool)
bound_key end (Included k) = Some (k, end)
bound_key end (Excluded k) = Some (k, not end)
bound_key end Unbounded = None

-- what is found is the key of a bound by reference, and the side of it on which the position of the
-- bound is
abbrev pub ReportsKey : {K : Type 0} → End → Bound (Bor K) → Option (Bor K × Side) → Type 0
ReportsKey end bound found = option_map (λ at. (at.0.now, is_after at.1)) found ≡ bound_key (is_back end) (bound_copied bound)

module _ {K : Type 0} (cmp : K → K → Ordering) where
  -- the key comes before the start
  abbrev pub is_before_start : Bound K → K → Bool
  is_before_start (Included lo) k = is_lt (cmp k lo)
  is_before_start (Excluded lo) k = not (is_gt (cmp k lo))
  is_before_start Unbounded k = false

  -- the key does not come after the end
  abbrev pub is_upto_end : Bound K → K → Bool
  is_upto_end (Included hi) k = not (is_gt (cmp k hi))
  is_upto_end (Excluded hi) k = is_lt (cmp k hi)
  is_upto_end Unbounded k = true

  -- the key is before the position of an end bound, or else of a start bound
  abbrev pub is_before_bound : Bool → Bound K → K → Bool
  is_before_bound true hi k = is_upto_end hi k
  is_before_bound false lo k = is_before_start lo k

  -- the pairs whose key is neither before the start nor after the end
  abbrev pub between_bounds : {V : Type 0} → List (K × V) → Bound K → Bound K → List (K × V)
  between_bounds l lo hi = filter (λ pair. not (is_before_start lo pair.0) && is_upto_end hi pair.0) l

  -- some key can be between the two bounds, as far as a comparison of their keys shows
  abbrev pub may_hold : Bound K → Bound K → Bool
  may_hold Unbounded hi = true
  may_hold (Included lo) Unbounded = true
  may_hold (Included lo) (Included hi) = not (is_gt (cmp lo hi))
  may_hold (Included lo) (Excluded hi) = is_lt (cmp lo hi)
  may_hold (Excluded lo) Unbounded = true
  may_hold (Excluded lo) (Included hi) = is_lt (cmp lo hi)
  may_hold (Excluded lo) (Excluded hi) = is_lt (cmp lo hi)
