-- The definitions depend only on the part between the smaller and the greater keys.
use Rattle.std.proofs.Common.{◌≡◌, Bool, true, false, not, List, [], ◌∷◌, ◌++◌, refl, ap, subst, cond, ◌∙◌, append_assoc}
use Rattle.std.specs.declared.cmp.Ordering.{Ordering}
use Rattle.std.specs.declared.cmp.Ordering.TheVariants.{Less, Greater}
use Rattle.std.specs.Ordering.{is_lt, is_eq, is_gt}
use Rattle.std.specs.Map.{set_value}
use Rattle.std.proofs.lemmas.List.{append-nil}
use Rattle.std.proofs.lemmas.List.Elements.{filter-append}
use Rattle.bptree_keys.specs.Contents.{pairs_below, pairs_above, has, value, put, del}
use Rattle.bptree_keys.specs.Indexes.{AllCompare}
use Rattle.bptree_keys.proofs.Parted.{filter_all, filter_none, lookup_past, has_past, set_value_past}

module _ {K V : Type 0} (cmp : K → K → Ordering) (k : K) where
  -- greater keys at the end do not change `has`
  has_before : (l after : List (K × V)) → AllCompare cmp k Greater after → has cmp (l ++ after) k ≡ has cmp l k
  has_before [] after all = rw (← append-nil after, has_past cmp k Greater after [] refl all) refl
  has_before (p ∷ l) after all = rw (has_before l after all) refl

  value_before : (l after : List (K × V)) → AllCompare cmp k Greater after → value cmp (l ++ after) k ≡ value cmp l k
  value_before [] after all = rw (← append-nil after, lookup_past cmp k Greater after [] refl all) refl
  value_before (p ∷ l) after all = rw (value_before l after all) refl

  set_value_before : (l after : List (K × V)) (v : V) → AllCompare cmp k Greater after → set_value (λ key. is_eq (cmp key k)) (l ++ after) v ≡ set_value (λ key. is_eq (cmp key k)) l v ++ after
  set_value_before [] after v all = subst (λ more. set_value (λ key. is_eq (cmp key k)) more v ≡ more) (append-nil after) (set_value_past cmp k Greater after [] v refl all)
  set_value_before (p ∷ l) after v all =
      elim (is_eq (cmp p.0 k)) as (λ b. cond b ((p.0, v) ∷ (l ++ after)) (p ∷ set_value (λ key. is_eq (cmp key k)) (l ++ after) v) ≡ cond b ((p.0, v) ∷ l) (p ∷ set_value (λ key. is_eq (cmp key k)) l v) ++ after) [
        | true ↦ refl
        | false ↦ ap (λ more. p ∷ more) (set_value_before l after v all)
      ]

module _ {K V : Type 0} (cmp : K → K → Ordering) (k : K) (before l after : List (K × V)) (smaller : AllCompare cmp k Less before) (greater : AllCompare cmp k Greater after) where
  pub has_around : has cmp (before ++ (l ++ after)) k ≡ has cmp l k
  has_around = has_past cmp k Less before (l ++ after) refl smaller ∙ has_before cmp k l after greater

  pub value_around : value cmp (before ++ (l ++ after)) k ≡ value cmp l k
  value_around = lookup_past cmp k Less before (l ++ after) refl smaller ∙ value_before cmp k l after greater

  pub set_value_around : (v : V) → set_value (λ key. is_eq (cmp key k)) (before ++ (l ++ after)) v ≡ before ++ (set_value (λ key. is_eq (cmp key k)) l v ++ after)
  set_value_around v = set_value_past cmp k Less before (l ++ after) v refl smaller ∙ ap (λ rest. before ++ rest) (set_value_before cmp k l after v greater)

  pub pairs_below_around : pairs_below cmp (before ++ (l ++ after)) k ≡ before ++ pairs_below cmp l k
  pairs_below_around = rw (filter-append, filter-append, filter_all cmp k is_lt Less before refl smaller, filter_none cmp k is_lt Greater after refl greater, append-nil) refl

  pub pairs_above_around : pairs_above cmp (before ++ (l ++ after)) k ≡ pairs_above cmp l k ++ after
  pairs_above_around = rw (filter-append, filter-append, filter_none cmp k is_gt Less before refl smaller, filter_all cmp k is_gt Greater after refl greater) refl

  put_by : (v : V) (b : Bool) → has cmp l k ≡ b → put cmp (before ++ (l ++ after)) k v ≡ before ++ (put cmp l k v ++ after)
  put_by v true is = rw (has_around, is, set_value_past cmp k Less before (l ++ after) v refl smaller, set_value_before cmp k l after v greater) refl
  put_by v false is = rw (has_around, is, pairs_below_around, pairs_above_around) (simp append_assoc)

  pub put_around : (v : V) → put cmp (before ++ (l ++ after)) k v ≡ before ++ (put cmp l k v ++ after)
  put_around v = put_by v (has cmp l k) refl

  pub del_around : del cmp (before ++ (l ++ after)) k ≡ before ++ (del cmp l k ++ after)
  del_around = rw (filter-append, filter-append, filter_all cmp k (λ o. not (is_eq o)) Less before refl smaller, filter_all cmp k (λ o. not (is_eq o)) Greater after refl greater) refl
