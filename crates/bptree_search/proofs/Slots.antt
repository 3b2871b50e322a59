-- The slot of a key among ascending keys splits them.
use Rattle.std.proofs.Common.{◌≡◌, ℕ, suc, false, List, [], ◌∷◌, refl, sym, ap, ◌∙◌, Result, Ok, Err}
use Rattle.std.specs.declared.cmp.Ordering.{Ordering}
use Rattle.std.specs.declared.cmp.Ordering.TheVariants.{Less, Equal, Greater}
use Rattle.std.specs.Cmp.{IsTotalOrder}
use Rattle.std.specs.List.Sorted.{IsStrictlySortedBy}
use Rattle.std.specs.Map.{keys_of}
use Rattle.std.specs.Result.{is_ok}
use Rattle.std.proofs.lemmas.Map.Keys.{sorted_head, sorted_tail}
use Rattle.bptree_arguments.specs.Ranks.{AllAbove, IsSlotOf}
use Rattle.bptree_keys.specs.Contents.{IsAscending, has}
use Rattle.bptree_keys.specs.Locate.{locate, one_later}
use Rattle.bptree_keys.proofs.Ascending.{greater_turned, less_turned}
use Rattle.bptree_keys.proofs.PieceLemmas.{AllByRecursion-weaker}
use Rattle.bptree_invariant.proofs.Ordered.{by_cases}

module _ {K : Type 0} {cmp : K → K → Ordering} (total : IsTotalOrder cmp) (k : K) where
  one_more : (x : K) (xs : List K) (index : Result ℕ ℕ) → cmp x k ≡ Less → IsSlotOf cmp k xs index → IsSlotOf cmp k (x ∷ xs) (one_later index)
  one_more x xs (Ok i) less (front, back, y, at, s) =
      (x ∷ front, back, y, ap suc at, record { parts = ap (λ l. x ∷ l) s.parts; below = (less, s.below); equal = s.equal; above = s.above })
  one_more x xs (Err i) less (front, back, at, s) =
      (x ∷ front, back, ap suc at, record { parts = ap (λ l. x ∷ l) s.parts; below = (less, s.below); equal = s.equal; above = s.above })

  above_equal : (x : K) (xs : List K) → cmp x k ≡ Equal → IsStrictlySortedBy cmp (x ∷ xs) → AllAbove cmp k xs
  above_equal x xs equal sorted =
      AllByRecursion-weaker (λ y. cmp x y ≡ Less) (λ y. cmp y k ≡ Greater) (λ y less. greater_turned cmp total k y (sym (total.congr x k y equal) ∙ less)) xs (sorted_head cmp x xs sorted)

  above_greater : (x : K) (xs : List K) → cmp x k ≡ Greater → IsStrictlySortedBy cmp (x ∷ xs) → AllAbove cmp k xs
  above_greater x xs greater sorted =
      AllByRecursion-weaker (λ y. cmp x y ≡ Less) (λ y. cmp y k ≡ Greater) (λ y less. greater_turned cmp total k y (total.trans k x y (less_turned cmp total x k greater) less)) xs (sorted_head cmp x xs sorted)

  pub slot_of : (keys : List K) → IsStrictlySortedBy cmp keys → IsSlotOf cmp k keys (locate cmp keys k)
  slot_of [] sorted = ([], [], refl, record { parts = refl; below = tt; equal = tt; above = tt })
  slot_of (x ∷ xs) sorted =
      by_cases (cmp x k)
      (λ less. rw less (one_more x xs (locate cmp xs k) less (slot_of xs (sorted_tail cmp x xs sorted))))
      (λ equal. rw equal ([], xs, x, refl, record { parts = refl; below = tt; equal = (equal, tt); above = above_equal x xs equal sorted }))
      (λ greater. rw greater ([], x ∷ xs, refl, record { parts = refl; below = tt; equal = tt; above = (greater, above_greater x xs greater sorted) }))

later_ok : (index : Result ℕ ℕ) → is_ok (one_later index) ≡ is_ok index
later_ok (Ok i) = refl
later_ok (Err i) = refl

module _ {K V : Type 0} {cmp : K → K → Ordering} (total : IsTotalOrder cmp) (k : K) where
  none_above : (l : List (K × V)) → AllAbove cmp k (keys_of l) → has cmp l k ≡ false
  none_above [] all = refl
  none_above (p ∷ l) all = rw all.0 (none_above l all.1)

  pub ok_where_has : (l : List (K × V)) → IsAscending cmp l → is_ok (locate cmp (keys_of l) k) ≡ has cmp l k
  ok_where_has [] sorted = refl
  ok_where_has (p ∷ l) sorted =
      by_cases (cmp p.0 k)
      (λ less. rw less (later_ok (locate cmp (keys_of l) k) ∙ ok_where_has l (sorted_tail cmp p.0 (keys_of l) sorted)))
      (λ equal. rw equal refl)
      (λ greater. rw greater (sym (none_above l (above_greater total k p.0 (keys_of l) greater sorted))))
