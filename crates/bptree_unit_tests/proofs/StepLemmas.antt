-- The result of a step of a merge, computed from the heads of both lists.
use Rattle.std.proofs.Common.{◌≡◌, List, [], ◌∷◌, Option, Some, None, refl}
use Rattle.std.specs.declared.cmp.Ordering.{Ordering}
use Rattle.std.specs.declared.cmp.Ordering.TheVariants.{Less, Equal, Greater}
use Rattle.std.specs.Option.{option_map}
use Rattle.bptree_merge_iter.specs.Merge.{merge_step}

module _ {T A : Type 0} (shows : T → A) where
  -- An option that shows `None` is `None`.
  none_from_shown : (o : Option T) → option_map shows o ≡ None → o ≡ None
  none_from_shown None shown = refl
  none_from_shown (Some x) shown = cc

  module _ (order : A → A → Ordering) (old left : List A × List A) (r q : Option T) (ran : (option_map shows r ≡ (merge_step order old.0 old.1).first) × (option_map shows q ≡ (merge_step order old.0 old.1).second) × (left ≡ (merge_step order old.0 old.1).left)) where
    pub step_less : (x y : A) (xs ys : List A) → old ≡ (x ∷ xs, y ∷ ys) → order x y ≡ Less → (option_map shows r ≡ Some x) × (q ≡ None) × (left ≡ (xs, y ∷ ys))
    step_less x y xs ys start is = let given = rw (start, is) at ran in (given.0, none_from_shown q given.1, given.2)

    pub step_equal : (x y : A) (xs ys : List A) → old ≡ (x ∷ xs, y ∷ ys) → order x y ≡ Equal → (option_map shows r ≡ Some x) × (option_map shows q ≡ Some y) × (left ≡ (xs, ys))
    step_equal x y xs ys start is = rw (start, is) at ran

    pub step_greater : (x y : A) (xs ys : List A) → old ≡ (x ∷ xs, y ∷ ys) → order x y ≡ Greater → (r ≡ None) × (option_map shows q ≡ Some y) × (left ≡ (x ∷ xs, ys))
    step_greater x y xs ys start is = let given = rw (start, is) at ran in (none_from_shown r given.0, given.1, given.2)

    pub step_first : (x : A) (xs : List A) → old ≡ (x ∷ xs, []) → (option_map shows r ≡ Some x) × (q ≡ None) × (left ≡ (xs, []))
    step_first x xs start = let given = rw start at ran in (given.0, none_from_shown q given.1, given.2)

    pub step_second : (y : A) (ys : List A) → old ≡ ([], y ∷ ys) → (r ≡ None) × (option_map shows q ≡ Some y) × (left ≡ ([], ys))
    step_second y ys start = let given = rw start at ran in (none_from_shown r given.0, given.1, given.2)

    pub step_end : old ≡ ([], []) → (r ≡ None) × (q ≡ None) × (left ≡ ([], []))
    step_end start = let given = rw start at ran in (none_from_shown r given.0, none_from_shown q given.1, given.2)
