-- The pairs between two keys are a part of an ascending list.
use Rattle.std.proofs.Common.{◌≡◌, ℕ, suc, ◌-◌, Bool, true, false, not, ◌&&◌, List, [], ◌∷◌, length, filter, take, drop, refl, sym, ap, ◌∙◌, arith, Option, Some, None}
use mathlib.Core.Bool.{true≢false}
use Rattle.std.specs.declared.cmp.Ordering.{Ordering}
use Rattle.std.specs.declared.cmp.Ordering.TheVariants.{Less}
use Rattle.std.specs.Cmp.{IsTotalOrder}
use Rattle.std.specs.List.{AllByRecursion}
use Rattle.std.specs.Map.{keys_of}
use Rattle.std.specs.Ordering.{is_lt}
use Rattle.std.proofs.lemmas.Map.Keys.{sorted_head, sorted_tail}
use Rattle.bptree_keys.specs.Contents.{IsAscending}
use Rattle.bptree_keys.specs.Ranges.{between, falls_short, stays_below, part}
use Rattle.bptree_keys.proofs.Ascending.{all_pairs}
use Rattle.bptree_invariant.proofs.Ordered.{by_cases, up_then_up}

both_false : (a b : Bool) → b ≡ false → (a && b) ≡ false
both_false true b e = e
both_false false b e = refl

module _ {X : Type 0} where
  pub none_pass : (test : X → Bool) (l : List X) → AllByRecursion (λ x. test x ≡ false) l → filter test l ≡ []
  none_pass test [] all = refl
  none_pass test (x ∷ l) all = rw all.0 (none_pass test l all.1)

  pub all_pass : (test : X → Bool) (l : List X) → ((x : X) → test x ≡ true) → filter test l ≡ l
  all_pass test [] each = refl
  all_pass test (x ∷ l) each = rw (each x) (ap (λ more. x ∷ more) (all_pass test l each))

  pub each_of : (P : X → Type 0) → ((x : X) → P x) → (l : List X) → AllByRecursion P l
  each_of P each [] = tt
  each_of P each (x ∷ l) = (each x, each_of P each l)

  -- after a member that does not pass, no member passes
  abbrev pub Falls : (X → Bool) → List X → Type 0
  Falls test [] = Unit {0}
  Falls test (x ∷ l) = (test x ≡ false → AllByRecursion (λ y. test y ≡ false) l) × Falls test l

  module _ (f g : X → Bool) where
    abbrev h : X → Bool
    h x = not (f x) && g x

    nothing : (l : List X) → AllByRecursion (λ y. g y ≡ false) l → filter h l ≡ []
    nothing [] all = refl
    nothing (x ∷ l) all = rw (both_false (not (f x)) (g x) all.0) (nothing l all.1)

    cut_by : (x : X) (l : List X) → filter h l ≡ take (length (filter g l) - length (filter f l)) (drop (length (filter f l)) l) → (f x ≡ false → AllByRecursion (λ y. f y ≡ false) l) → (g x ≡ false → AllByRecursion (λ y. g y ≡ false) l)
        → (a b : Bool) → f x ≡ a → g x ≡ b → filter h (x ∷ l) ≡ take (length (filter g (x ∷ l)) - length (filter f (x ∷ l))) (drop (length (filter f (x ∷ l))) (x ∷ l))
    cut_by x l rest falls falls' true true e e' =
        let less : suc (length (filter g l)) - suc (length (filter f l)) ≡ length (filter g l) - length (filter f l) = omega arith in
        rw (e, e', less) rest
    cut_by x l rest falls falls' true false e e' =
        let none = none_pass g l (falls' e') in
        let less : 0 - suc (length (filter f l)) ≡ 0 = omega arith in
        rw (e, e', none, less) (nothing l (falls' e'))
    cut_by x l rest falls falls' false true e e' =
        let none = none_pass f l (falls e) in
        let some : suc (length (filter g l)) - 0 ≡ suc (length (filter g l)) = omega arith in
        let same : length (filter g l) - 0 ≡ length (filter g l) = omega arith in
        rw (e, e', none, some) (ap (λ more. x ∷ more) (rw (none, same) at rest))
    cut_by x l rest falls falls' false false e e' =
        let none = none_pass f l (falls e) in
        let none' = none_pass g l (falls' e') in
        rw (e, e', none, none') (nothing l (falls' e'))

    pub cut : (l : List X) → Falls f l → Falls g l → filter h l ≡ take (length (filter g l) - length (filter f l)) (drop (length (filter f l)) l)
    cut [] one other = refl
    cut (x ∷ l) one other = cut_by x l (cut l one.1 other.1) one.0 other.0 (f x) (g x) refl refl

module _ {K V : Type 0} {cmp : K → K → Ordering} (total : IsTotalOrder cmp) where
  falls_at : (b : K) (l : List (K × V)) → IsAscending cmp l → Falls (λ (p : K × V). is_lt (cmp p.0 b)) l
  falls_at b [] ascending = tt
  falls_at b (p ∷ l) ascending = (
    (λ high. all_pairs (λ key. cmp p.0 key ≡ Less) (λ key. is_lt (cmp key b) ≡ false)
        (λ key less. by_cases (cmp key b) (λ e. absurd (true≢false (sym (ap is_lt (total.trans p.0 key b less e)) ∙ high))) (λ e. ap is_lt e) (λ e. ap is_lt e))
        l (sorted_head cmp p.0 (keys_of l) ascending)),
    falls_at b l (sorted_tail cmp p.0 (keys_of l) ascending),
  )

  falls_lo : (lo : Option K) (l : List (K × V)) → IsAscending cmp l → Falls (λ (p : K × V). falls_short cmp lo p.0) l
  falls_lo None [] ascending = tt
  falls_lo None (p ∷ l) ascending = ((λ high. each_of (λ (x : K × V). false ≡ false) (λ x. refl) l), falls_lo None l (sorted_tail cmp p.0 (keys_of l) ascending))
  falls_lo (Some b) l ascending = falls_at b l ascending

  falls_hi : (hi : Option K) (l : List (K × V)) → IsAscending cmp l → Falls (λ (p : K × V). stays_below cmp hi p.0) l
  falls_hi None [] ascending = tt
  falls_hi None (p ∷ l) ascending = ((λ high. absurd (true≢false high)), falls_hi None l (sorted_tail cmp p.0 (keys_of l) ascending))
  falls_hi (Some b) l ascending = falls_at b l ascending

  pub between_is : (l : List (K × V)) (lo hi : Option K) (i j : ℕ) → IsAscending cmp l → i ≡ length (filter (λ (p : K × V). falls_short cmp lo p.0) l) → j ≡ length (filter (λ (p : K × V). stays_below cmp hi p.0) l) → between cmp l lo hi ≡ part l i (j - i)
  between_is l lo hi i j ascending e f =
      rw (e, f) (cut (λ (p : K × V). falls_short cmp lo p.0) (λ (p : K × V). stays_below cmp hi p.0) l (falls_lo lo l ascending) (falls_hi hi l ascending))

  pub between_none : (l : List (K × V)) (lo hi : Option K) → ((k : K) → (not (falls_short cmp lo k) && stays_below cmp hi k) ≡ false) → between cmp l lo hi ≡ []
  between_none l lo hi each = none_pass (λ (p : K × V). not (falls_short cmp lo p.0) && stays_below cmp hi p.0) l (each_of (λ (p : K × V). (not (falls_short cmp lo p.0) && stays_below cmp hi p.0) ≡ false) (λ p. each p.0) l)

-- no key is between two ends if the lower one is not below the upper one
pub no_key : {K : Type 0} {cmp : K → K → Ordering} (total : IsTotalOrder cmp) (lo hi : K) → is_lt (cmp lo hi) ≡ false → (k : K) → (not (falls_short cmp (Some lo) k) && stays_below cmp (Some hi) k) ≡ false
no_key {cmp = cmp} total lo hi high k =
    by (is_lt (cmp k lo)) refl
  where
    by : (b : Bool) → is_lt (cmp k lo) ≡ b → (not (is_lt (cmp k lo)) && is_lt (cmp k hi)) ≡ false
    by true e = rw e refl
    by false e = rw e (up_then_up total hi lo k high e)

module _ {K V : Type 0} (cmp : K → K → Ordering) where
  pub none_short : (lo : Option K) (l : List (K × V)) → lo ≡ None → length (filter (λ (p : K × V). falls_short cmp lo p.0) l) ≡ 0
  none_short lo l e = rw e (ap length (none_pass (λ (p : K × V). false) l (each_of (λ (p : K × V). false ≡ false) (λ p. refl) l)))

  pub all_below : (hi : Option K) (l : List (K × V)) → hi ≡ None → length (filter (λ (p : K × V). stays_below cmp hi p.0) l) ≡ length l
  all_below hi l e = rw e (ap length (all_pass (λ (p : K × V). true) l (λ p. refl)))
