-- A step of a merge if both sides have an element, and if one side is empty.
use Rattle.std.proofs.Common.{◌≡◌, List, [], ◌∷◌, ◌⊎◌, inl, inr, Option, Some}
use Rattle.std.specs.Map.Iter.{TakesFirst}
use Rattle.std.specs.declared.cmp.Ordering.{Ordering}
use Rattle.bptree_merge_iter.specs.Merge.{merge_step, step_by}

-- if both sides yield an item, the step is determined by the order of the elements that these show
pub merge_step-both : {T E : Type 0} (shows : T → E) (order : E → E → Ordering) (us vs xs ys : List E) (r q : Option T) (a b : T) (o : Ordering) → TakesFirst shows us r xs → TakesFirst shows vs q ys → r ≡ Some a → q ≡ Some b → order (shows a) (shows b) ≡ o → merge_step order us vs ≡ step_by o (shows a) xs (shows b) ys
merge_step-both shows order us vs xs ys r q a b o h k e f is =
    let first : us ≡ shows a ∷ xs = rw e at h in
    let second : vs ≡ shows b ∷ ys = rw f at k in
    rw (first, second, is)

-- if both sides yield an item, neither side is empty
pub neither_ended : {T E : Type 0} (shows : T → E) (us vs xs ys : List E) (r q : Option T) (a b : T) → TakesFirst shows us r xs → TakesFirst shows vs q ys → r ≡ Some a → q ≡ Some b → (us ≡ []) ⊎ (vs ≡ []) → ⊥
neither_ended shows us vs xs ys r q a b h k e f (inl ended) = let first : us ≡ shows a ∷ xs = rw e at h in cc
neither_ended shows us vs xs ys r q a b h k e f (inr ended) = let second : vs ≡ shows b ∷ ys = rw f at k in cc
