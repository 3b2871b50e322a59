-- Pages of a list.
use Rattle.std.proofs.Common.{◌≡◌, ◌∙◌, sym, ap, refl, ℕ, zero, suc, ◌*◌, ◌<◌, ◌≤◌, ◌^◌, ◌-◌, min, List, [], ◌++◌, length, take, filter, not, Bool, inl, inr, arith, Some, None}
use Rattle.std.proofs.Math.Seq.{take-add, take-nil}
use Rattle.std.proofs.lemmas.Grind.{div_ceil_times}
use Rattle.std.proofs.lemmas.Bool.{cases_lt}
use Rattle.std.proofs.lemmas.List.{drop_all, take_all}
use Rattle.std.proofs.lemmas.List.Filters.{length-filter_both}
use Rattle.std.proofs.lemmas.Nat.{mul-le}
use Rattle.std.proofs.lemmas.Map.Entries.{length-keys_of}
use Rattle.std.specs.Int.{div_ceil}
use Rattle.bptree_arguments.specs.CountLaws.{SelectsIndex}
use Rattle.bptree_keys.specs.Ranges.{part}
use Rattle.bptree_search.specs.ByArgument.{IsPartSelected}
use Rattle.bptree_tree.specs.Pages.{page, first_pages}

module _ {X : Type 0} (l : List X) (s : ℕ) where
  first_pages-take : (n : ℕ) → first_pages l s n ≡ take (n * s) l
  first_pages-take zero = let none : 0 ≡ 0 * s = omega arith in ap (λ m. take m l) none
  first_pages-take (suc n) = ap (λ front. front ++ page l n s) (first_pages-take n) ∙ sym (take-add (n * s) s l) ∙ ap (λ m. take m l) (omega arith)

  pub all_pages : 0 < s → first_pages l s (div_ceil (length l) s) ≡ l
  all_pages some = first_pages-take (div_ceil (length l) s) ∙ take_all (div_ceil (length l) s * s) l (div_ceil_times (length l) s some).0

  -- a page that begins past the end is empty
  past_end : (p : ℕ) → length l ≤ p * s → page l p s ≡ []
  past_end p past = ap (take s) (drop_all (p * s) l past) ∙ take-nil s

  pub later_page : (p : ℕ) → 0 < s → div_ceil (length l) s ≤ p → page l p s ≡ []
  later_page p some later =
      let before = div_ceil_times (length l) s some in
      let more = mul-le (div_ceil (length l) s) s p s later (omega arith) in
      past_end p (omega (arith, before.0, more))

-- so many pairs from the page's index, or from the greatest number if that is less, are the page
pub page_is : {K V : Type 0} (l : List (K × V)) (p s i : ℕ) (found : List (K × V)) → i ≡ min (p * s) (2 ^ 64 - 1) → length l < 2 ^ 64 → IsPartSelected SelectsIndex i l s found → found ≡ page l p s
page_is l p s i found is fits (None, no_place, past, part) =
    let beyond : length l ≤ i = rw (length-keys_of l) at past in
    part ∙ sym (past_end l s p (omega (arith, is, beyond, fits)))
page_is l p s i found is fits (Some j, inside, at, shown) =
    let within : i < length l = rw (at.0, length-keys_of l) at at.1 in
    let index : j ≡ p * s = omega (arith, is, at.0, within, fits) in
    shown ∙ ap (λ k. part l k s) index

-- so many members from the page's index, or from the greatest number if that is less, are the page
pub part_is_page : {X : Type 0} (l : List X) (p s i : ℕ) → i ≡ min (p * s) (2 ^ 64 - 1) → length l < 2 ^ 64 → part l i s ≡ page l p s
part_is_page l p s i is fits =
    elim (cases_lt i (p * s)) [
      | inl beyond ↦ ap (take s) (drop_all i l (omega (arith, is, beyond, fits))) ∙ take-nil s ∙ sym (past_end l s p (omega (arith, is, beyond, fits)))
      | inr within ↦
          let index : i ≡ p * s = omega (arith, is, within) in
          ap (λ k. part l k s) index
    ]

pub filter_fits : {X : Type 0} (test : X → Bool) (l : List X) → length l < 2 ^ 64 → length (filter test l) < 2 ^ 64
filter_fits test l fits = omega (arith, fits, length-filter_both test (λ x. not (test x)) (λ x. refl) l)
