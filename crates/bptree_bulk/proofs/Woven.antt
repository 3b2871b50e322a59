-- The steps of a part, among all steps.
use Rattle.std.proofs.Common.{◌≡◌, ◌∙◌, ◌+◌, ◌-◌, ◌<◌, ◌≤◌, ℕ, sym, ap, subst, List, [], ◌∷◌, ◌++◌, length, take, drop, arith}
use Rattle.std.proofs.Math.Seq.{drop-append_seam, take-add, take-append_seam}
use Rattle.std.proofs.lemmas.List.{length-drop, length-take-le, take-append-drop}
use Rattle.std.specs.Cmp.{IsTotalOrder}
use Rattle.std.specs.declared.cmp.Ordering.{Ordering}
use Rattle.bptree_bulk.specs.Filling.{AreParts, IsSize}
use Rattle.bptree_bulk.specs.Weave.{woven, Goes, Weaves}
use Rattle.bptree_bulk.specs.declared.weaving.Source.{Source}
use Rattle.bptree_bulk.proofs.Segments.{drop_more}
use Rattle.bptree_bulk.proofs.Tails.{parts_more}
use Rattle.bptree_bulk.proofs.Weaves.{goes_apart, goes_joined, goes_same, woven_ascends, woven_joined, woven_length, Apart}
use Rattle.bptree_keys.specs.Contents.{IsAscending}
use Rattle.bptree_invariant.proofs.Ordered.{ascending_after}
use Rattle.bptree_invariant.proofs.Spot.{ascending_before}

-- so many of the steps lead from two lists to what the other steps take
pub record IsUnderway {K V : Type 0} (cmp : K → K → Ordering) (steps : List Source) (A B : List (K × V)) (n : ℕ) (a b : List (K × V)) : Type 0 where
  pub goes : Goes cmp (take n steps) A B a b
  pub rest : Weaves cmp (drop n steps) a b

module _ {K V : Type 0} {cmp : K → K → Ordering} (total : IsTotalOrder cmp) {steps : List Source} {A B : List (K × V)} {n : ℕ} {a b : List (K × V)} (way : IsUnderway cmp steps A B n a b) where
  all_steps : Weaves cmp steps A B
  all_steps = subst (λ l. Goes cmp l A B [] []) (take-append-drop n steps) (goes_joined cmp (take n steps) (drop n steps) A B a b [] [] way.goes way.rest)

  pub rest_length : length (woven (drop n steps) a b) ≡ length steps - n
  rest_length = woven_length cmp (drop n steps) a b [] [] way.rest ∙ length-drop n steps

  module _ (size : ℕ) (fits : n + size ≤ length steps) {own : List Source} (is : own ≡ take size (drop n steps)) where
    abbrev later : List Source
    later = drop (n + size) steps

    cut : drop n steps ≡ own ++ later
    cut = sym (take-append-drop size (drop n steps)) ∙ (ap (λ l. l ++ drop size (drop n steps)) (sym is) ∙ ap (λ l. own ++ l) (drop_more n size steps))

    apart : Apart cmp own later a b [] []
    apart = goes_apart cmp own later a b [] [] (subst (λ l. Goes cmp l a b [] []) cut way.rest)

    own_length : length own ≡ size
    own_length = ap length is ∙ length-take-le size (drop n steps) (omega (arith, length-drop n steps, fits))

    rest_is : (x y : List (K × V)) → Goes cmp own a b x y → woven (drop n steps) a b ≡ woven own a b ++ woven later x y
    rest_is x y on = ap (λ l. woven l a b) cut ∙ woven_joined cmp own later a b x y on

    -- the steps of the part lead somewhere
    pub own_leads : (to : List (K × V) × List (K × V)) × Goes cmp own a b to.0 to.1
    own_leads = ((apart.first, apart.second), apart.goes)

    -- the pairs of the part ascend if those of both lists do
    pub own_ascends : IsAscending cmp A → IsAscending cmp B → IsAscending cmp (woven own a b)
    own_ascends up up' =
        let whole = ap (λ l. woven l A B) (sym (take-append-drop n steps)) ∙ woven_joined cmp (take n steps) (drop n steps) A B a b way.goes in
        let behind = ascending_after total (woven (take n steps) A B) (woven (drop n steps) a b) (subst (IsAscending cmp) whole (woven_ascends cmp total steps A B up up' all_steps)) in
        ascending_before cmp (woven own a b) (woven later apart.first apart.second) (subst (IsAscending cmp) (rest_is apart.first apart.second apart.goes) behind)

    module _ (x y : List (K × V)) (on : Goes cmp own a b x y) where
      pub goes_on : Goes cmp (take (n + size) steps) A B x y
      goes_on = subst (λ l. Goes cmp l A B x y) (ap (λ l. take n steps ++ l) is ∙ sym (take-add n size steps)) (goes_joined cmp (take n steps) own A B a b x y way.goes on)

      pub rest_on : Weaves cmp later x y
      rest_on =
          let same = goes_same cmp own a b apart.first apart.second x y apart.goes on in
          subst (λ l. Goes cmp later l y [] []) same.0 (subst (λ l. Goes cmp later apart.first l [] []) same.1 apart.later)

      long : length (woven own a b) ≡ size
      long = woven_length cmp own a b x y on ∙ own_length

      -- the pairs of the part are the next ones
      pub part_is : take size (woven (drop n steps) a b) ≡ woven own a b
      part_is = ap (take size) (rest_is x y on) ∙ (ap (λ k. take k (woven own a b ++ woven later x y)) (sym long) ∙ take-append_seam (woven own a b) (woven later x y))

      -- the others are behind them
      pub behind_is : drop size (woven (drop n steps) a b) ≡ woven later x y
      behind_is = ap (drop size) (rest_is x y on) ∙ (ap (λ k. drop k (woven own a b ++ woven later x y)) (sym long) ∙ drop-append_seam (woven own a b) (woven later x y))

      -- one part more
      pub part_on : (parts : List (List (K × V))) → IsSize (length steps - n) size → n < length steps → AreParts (woven steps A B) parts (woven (drop n steps) a b) → AreParts (woven steps A B) (parts ++ woven own a b ∷ []) (woven later x y)
      part_on parts sized some are =
          let more = parts_more (woven steps A B) parts (woven (drop n steps) a b) size are (subst (λ k. IsSize k size) (sym rest_length) sized) (omega (arith, rest_length, some)) in
          subst (λ p. AreParts (woven steps A B) (parts ++ p ∷ []) (woven later x y)) part_is (subst (AreParts (woven steps A B) (parts ++ take size (woven (drop n steps) a b) ∷ [])) behind_is more)
