-- A set of the items of a list.
use Rattle.std.proofs.Common.{◌≡◌, List, Option, Result, Ok, Err}
use Rattle.std.proofs.lemmas.Iterator.{YieldsList}
use Rattle.std.proofs.lemmas.Iterator.Adapters.{fact_from_collect}
use Rattle.std.specs.declared.cmp.Ordering.{Ordering}
use Rattle.std.specs.Iterator.{DrainsIf}
use Rattle.std.specs.Prelude.{IfOk, ⊤}
use Rattle.bptree_map.specs.Keys.{gathered}

-- The items that an iterator yielded are the list that it always yields.
pub gathered_all : {S K E : Type 0} {steps : S → Option K → S → Type 0} {Gives : S → Type 0} (cmp : K → K → Ordering) (all : List K) (r : Result (List K) E) → IfOk r (λ set. (it : S) × (xs : List K) × Gives it × DrainsIf steps ⊤ it xs × (set ≡ gathered cmp xs)) → ((it : S) → Gives it → YieldsList steps (λ x. x) it all) → IfOk r (λ set. set ≡ gathered cmp all)
gathered_all cmp all (Err e) made turns = tt
gathered_all {K = K} {E = E} cmp all (Ok set) (it, xs, gives, drains, is) turns =
    let whole : Result (List K) E = Ok set in
    fact_from_collect (λ ys made. made ≡ gathered cmp ys) whole (xs, drains, is) (turns it gives)
