-- The pairs that an iterator returns at its ends, and the pairs above a key.
use Rattle.std.proofs.Common.{◌≡◌, ap, sym, refl, ◌-◌, List, [], ◌∷◌, true, false, cond, not, ◌&&◌, length, slice_get, Option, Some, None}
use Rattle.std.specs.declared.cmp.Ordering.{Ordering}
use Rattle.std.specs.declared.ops.Bound.TheVariants.{Excluded, Unbounded}
use Rattle.std.specs.Borrow.{Bor}
use Rattle.std.specs.Map.Iter.{TakesFirst, TakesLast, deref_pair}
use Rattle.std.specs.Option.{option_map}
use Rattle.std.specs.Ordering.{is_gt}
use Rattle.bptree_keys.specs.Contents.{pairs_above}
use Rattle.bptree_nodes.proofs.Pairs.{last_apart}
use Rattle.bptree_ranges.specs.Bounds.{between_bounds}

-- the pairs behind the excluded bound k are those above k
pub pairs_after : {K V : Type 0} (cmp : K → K → Ordering) (l : List (K × V)) (k : K) → between_bounds cmp l (Excluded k) Unbounded ≡ pairs_above cmp l k
pairs_after cmp [] k = refl
pairs_after cmp (p ∷ l) k =
    let rest = between_bounds cmp l (Excluded k) Unbounded in let above = pairs_above cmp l k in
    elim (is_gt (cmp p.0 k)) as (λ b. cond (not (not b) && true) (p ∷ rest) rest ≡ cond b (p ∷ above) above) [
      | true ↦ ap (λ pairs. p ∷ pairs) (pairs_after cmp l k)
      | false ↦ pairs_after cmp l k
    ]

module _ {K V : Type 0} where
  pub first_pair : (l left : List (K × V)) (r : Option (Bor K × Bor V)) → TakesFirst deref_pair l r left → option_map deref_pair r ≡ slice_get l 0
  first_pair l left None takes = rw takes.0 refl
  first_pair l left (Some it) takes = rw takes refl

  pub last_pair : (l left : List (K × V)) (r : Option (Bor K × Bor V)) → TakesLast deref_pair l r left → option_map deref_pair r ≡ slice_get l (length l - 1)
  last_pair l left None takes = rw takes.0 refl
  last_pair l left (Some it) takes = sym (last_apart l left (deref_pair it) takes).0
