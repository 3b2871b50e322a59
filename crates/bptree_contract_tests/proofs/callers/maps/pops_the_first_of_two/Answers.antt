use Rattle.std.proofs.Common.{◌≡◌, ◌<◌, List, ◌∷◌, Option, Some, None, length, arith, ap}
use Rattle.std.specs.Map.Iter.{TakesFirst}
use Rattle.std.specs.Option.{IsSomeAnd}
use Rattle.std.proofs.lemmas.Result.{IfOk-weaker}
use Rattle.bptree_contract_tests.proofs.EntryLemmas.{first_of_two}
use Rattle.bptree_contract_tests.proofs.callers.maps.pops_the_first_of_two.Goals as goal

-- The first of the members was returned, and the others are left.
first_of_some : {X : Type 0} (old new : List X) (gone : Option X) → 0 < length old → TakesFirst (λ (x : X). x) old gone new → IsSomeAnd gone (λ x. old ≡ x ∷ new)
first_of_some old new None some taken = absurd (omega (arith, some, ap length taken.0))
first_of_some old new (Some x) some taken = taken

pub returns-clause-popped : goal.returns-clause-popped
returns-clause-popped g c = IfOk-weaker c.pop_first.result _ _ (λ gone taken. λ a b is. first_of_two a b _ gone (rw is at taken)) c.pop_first.ensures.stored

pub returns-clause-others : goal.returns-clause-others
returns-clause-others g c = λ some. IfOk-weaker c.pop_first.result _ _ (λ gone taken. first_of_some _ _ gone some taken) c.pop_first.ensures.stored
