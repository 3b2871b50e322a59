-- The first of the members of a list that pass a test.
use Rattle.std.proofs.Common.{◌≡◌, ◌∙◌, ◌∷◌, Bool, List, [], Option, Some, None, ap, filter, false, refl, sym, true}
use Rattle.std.specs.Map.Iter.{TakesFirst}
use Rattle.std.specs.Option.{IfSome}

-- The first member of those that pass a test passes the test.
first_passes : {X : Type 0} (test : X → Bool) (l : List X) (x : X) (t : List X) → filter test l ≡ x ∷ t → test x ≡ true
first_passes test [] x t h = cc
first_passes {X} test (y ∷ l) x t h =
    by (test y) refl (first_passes test l x t)
  where
    by : (b : Bool) → test y ≡ b → (filter test l ≡ x ∷ t → test x ≡ true) → test x ≡ true
    by true e rest = let here : y ∷ filter test l ≡ x ∷ t = rw e at h in let same : y ≡ x = cc in sym (ap test same) ∙ e
    by false e rest = rest (rw e at h)

pub taken_passes : {A X : Type 0} (shows : A → X) (test : X → Bool) (P : X → Type 0) (turns : (x : X) → test x ≡ true → P x) (s t l : List X) (o : Option A) → TakesFirst shows s o t → s ≡ filter test l → IfSome o (λ a. P (shows a))
taken_passes shows test P turns s t l None taken e = tt
taken_passes shows test P turns s t l (Some a) taken e = turns (shows a) (first_passes test l (shows a) t (sym e ∙ taken))
