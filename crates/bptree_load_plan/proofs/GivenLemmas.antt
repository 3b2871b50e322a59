-- The items that all calls together yield.
use Rattle.std.proofs.Common.{◌≡◌, Bool, true, false, Option, Some, None, List, [], ◌∷◌, refl, sym, ap, subst, cond, ◌∙◌, MatchOption, IsSomeAnd}
use Rattle.std.specs.Fn.{Mut, CalledAtTwo}
use denote.Ref.{Bor}
use Rattle.std.specs.List.{FoldsTo}
use Rattle.std.specs.Iterator.{Yields, AlwaysYields}
use Rattle.std.specs.Iterator.Order.{ActsAsAtTwo, OrderTurn}
use Rattle.bptree_load_plan.specs.declared.dedup.Ahead.{Ahead}
use Rattle.bptree_load_plan.specs.declared.dedup.Ahead.TheVariants.{Unasked, Held, Ended}
use Rattle.bptree_load_plan.specs.declared.dedup.DeDupKeepLast.{DeDupKeepLast}
use Rattle.std.proofs.lemmas.Iterator.{YieldsList}
use Rattle.bptree_load_plan.specs.Dedup.{GivesAll, last_of_each_run, gives_yet, IfNotEnded, GivesFirst, TakesRun, GivesLastOfRun, dedup_steps}

module _ {S F A : Type 0} (steps : S → Option A → S → Type 0) (g : Mut F (Bor A × (Bor A × Unit {0})) Bool) (test : A → A → Bool) where
  -- the source still yields xs, unless it has ended, and calls of f compute the test
  pub record IsAt (t : DeDupKeepLast S F A) (xs : List A) : Type 0 where
    pub source : IfNotEnded t.ahead (AlwaysYields steps (λ x. x) t.source xs)
    pub calls : ActsAsAtTwo g t.same test

  -- y is the first of the items, and the iterator yields the others from t on
  pub record Gave (all : List A) (y : A) (t : DeDupKeepLast S F A) : Type 0 where
    pub rest : List A
    pub at : IsAt t rest
    pub items : all ≡ y ∷ gives_yet test t.ahead rest

  -- the end of a run, by cases of the item after it
  run_ends : (v : S) (f : F) (y : A) (xs : List A) (t : DeDupKeepLast S F A) → AlwaysYields steps (λ x. x) v xs → ActsAsAtTwo g f test → (after : Option A) → steps v after t.source
      → MatchOption after ((t.ahead ≡ Ended) × (t.same ≡ f)) (λ z. (t.ahead ≡ Held z) × CalledAtTwo g f y z false t.same) → Gave (last_of_each_run test (y ∷ xs)) y t
  run_ends v f y [] t yields acts None asked ends = record {
    rest = [];
    at = record { source = rw ends.0 tt; calls = rw ends.1 acts };
    items = rw ends.0 refl;
  }
  run_ends v f y (x ∷ xs) t yields acts None asked ends = absurd (yields.0 t.source asked)
  run_ends v f y [] t yields acts (Some z) asked ends = absurd (yields z t.source asked)
  run_ends v f y (x ∷ xs) t yields acts (Some z) asked ends =
      let next = yields.1 z t.source asked in
      let call = acts y z false t.same ends.1 in
      record {
        rest = xs;
        at = record { source = rw ends.0 next.1; calls = rw call.0 acts };
        items = rw (ends.0, ← next.0, ← call.1) refl;
      }

  -- a run, by recursion on the items after its first
  run_gives : (others : List A) (u v : S) (f h : F) (x y : A) (xs : List A) (t : DeDupKeepLast S F A) → Yields steps u others v → FoldsTo {P = F × A} (OrderTurn g) (f, x) others (h, y)
      → AlwaysYields steps (λ x. x) u xs → ActsAsAtTwo g f test → (after : Option A) → steps v after t.source
      → MatchOption after ((t.ahead ≡ Ended) × (t.same ≡ h)) (λ z. (t.ahead ≡ Held z) × CalledAtTwo g h y z false t.same) → Gave (last_of_each_run test (x ∷ xs)) y t
  run_gives [] u v f h x y xs t gave calls yields acts after asked ends =
      subst (λ z. Gave (last_of_each_run test (z ∷ xs)) y t) (sym (ap (λ p. p.1) calls))
      (run_ends v h y xs t (subst (λ s. AlwaysYields steps (λ x. x) s xs) gave yields) (subst (λ k. ActsAsAtTwo g k test) (ap (λ p. p.0) calls) acts) after asked ends)
  run_gives (o ∷ others) u v f h x y [] t gave calls yields acts after asked ends = absurd (yields o gave.0 gave.1)
  run_gives (o ∷ others) u v f h x y (z ∷ xs) t gave calls yields acts after asked ends =
      let next = yields.1 o gave.0 gave.1 in
      let call = acts x o true calls.0.0 calls.1.0 in
      let rest = run_gives others gave.0 v calls.0.0 h calls.0.1 y xs t gave.2 calls.2 next.1 (subst (λ k. ActsAsAtTwo g k test) (sym call.0) acts) after asked ends in
      let same : test x z ≡ true = ap (test x) (sym next.0) ∙ sym call.1 in
      let here : last_of_each_run test (calls.0.1 ∷ xs) ≡ last_of_each_run test (z ∷ xs) = ap (λ w. last_of_each_run test (w ∷ xs)) (calls.1.1 ∙ next.0) in
      subst (λ all. Gave all y t) (here ∙ sym (ap (λ b. cond b (last_of_each_run test (z ∷ xs)) (x ∷ last_of_each_run test (z ∷ xs))) same)) rest

  taken : (u : S) (f : F) (x y : A) (xs : List A) (t : DeDupKeepLast S F A) → TakesRun steps g u f x y t → AlwaysYields steps (λ x. x) u xs → ActsAsAtTwo g f test → Gave (last_of_each_run test (x ∷ xs)) y t
  taken u f x y xs t run yields acts = run_gives run.others u run.source f run.same x y xs t run.gave run.calls yields acts run.after run.asked run.ends

  -- one call, by cases of the state of the source and of the first item of the run
  next_by : (ahead : Ahead A) (s u : S) (f : F) (first r : Option A) (t : DeDupKeepLast S F A) (xs : List A) → IfNotEnded ahead (AlwaysYields steps (λ x. x) s xs) → ActsAsAtTwo g f test → GivesFirst steps ahead s first u
      → MatchOption first (r ≡ None) (λ x. IsSomeAnd r (λ y. TakesRun steps g u f x y t)) → MatchOption r (gives_yet test ahead xs ≡ []) (λ y. Gave (gives_yet test ahead xs) y t)
  next_by Unasked s u f None None t [] yields acts began run = refl
  next_by Unasked s u f None (Some y) t [] yields acts began run = absurd cc
  next_by Unasked s u f None r t (z ∷ xs) yields acts began run = absurd (yields.0 u began)
  next_by Unasked s u f (Some x) r t [] yields acts began run = absurd (yields x u began)
  next_by Unasked s u f (Some x) None t (z ∷ xs) yields acts began run = absurd run
  next_by Unasked s u f (Some x) (Some y) t (z ∷ xs) yields acts began run =
      let next = yields.1 x u began in
      subst (λ w. Gave (last_of_each_run test (w ∷ xs)) y t) next.0 (taken u f x y xs t run next.1 acts)
  next_by (Held w) s u f None r t xs yields acts began run = absurd cc
  next_by (Held w) s u f (Some x) None t xs yields acts began run = absurd run
  next_by (Held w) s u f (Some x) (Some y) t xs yields acts began run =
      let same : x ≡ w = cc in
      subst (λ z. Gave (last_of_each_run test (z ∷ xs)) y t) same (taken u f x y xs t run (subst (λ k. AlwaysYields steps (λ x. x) k xs) (sym began.1) yields) acts)
  next_by Ended s u f None None t xs yields acts began run = refl
  next_by Ended s u f None (Some y) t xs yields acts began run = absurd cc
  next_by Ended s u f (Some x) r t xs yields acts began run = absurd cc

  ended_or_run : (s : DeDupKeepLast S F A) (u : S) (r : Option A) (t : DeDupKeepLast S F A) (first : Option A) → MatchOption first ((r ≡ None) × (t ≡ record { source = u; ahead = Ended; same = s.same })) (λ x. IsSomeAnd r (λ y. TakesRun steps g u s.same x y t)) → MatchOption first (r ≡ None) (λ x. IsSomeAnd r (λ y. TakesRun steps g u s.same x y t))
  ended_or_run s u r t None run = run.0
  ended_or_run s u r t (Some x) run = run

  -- one call returns the first of the items that are still to come, and leaves the others
  pub gives_next : (s : DeDupKeepLast S F A) (r : Option A) (t : DeDupKeepLast S F A) (xs : List A) → GivesLastOfRun steps g s r t → IsAt s xs → MatchOption r (gives_yet test s.ahead xs ≡ []) (λ y. Gave (gives_yet test s.ahead xs) y t)
  gives_next s r t xs step at = next_by s.ahead s.source step.source s.same step.first r t xs at.source at.calls step.began (ended_or_run s step.source r t step.first step.run)

  -- all calls together yield exactly the items that are still to come
  pub all_given : (zs : List A) (s : DeDupKeepLast S F A) (xs : List A) → IsAt s xs → gives_yet test s.ahead xs ≡ zs → AlwaysYields (dedup_steps steps g) (λ x. x) s zs
  all_given [] s xs at is = λ y t step. let e = sym (gives_next s (Some y) t xs step at).items ∙ is in absurd cc
  all_given (z ∷ zs) s xs at is = (
    λ t step. let e : [] ≡ z ∷ zs = sym (gives_next s None t xs step at) ∙ is in absurd cc,
    λ y t step.
        let given = gives_next s (Some y) t xs step at in
        let e : y ∷ gives_yet test t.ahead given.rest ≡ z ∷ zs = sym given.items ∙ is in
        (cc, all_given zs t given.rest given.at cc),
  )

-- `GivesAll` and std's `YieldsList`, which holds of a chain, are equivalent
module _ {S A : Type 0} {steps : S → Option A → S → Type 0} {s : S} {ys : List A} where
  pub GivesAll-from_chain : YieldsList steps (λ x. x) s ys → GivesAll steps s ys
  GivesAll-from_chain chain = record { always = chain.runs }

  pub chain_from_GivesAll : GivesAll steps s ys → YieldsList steps (λ x. x) s ys
  chain_from_GivesAll given = record { runs = given.always }
