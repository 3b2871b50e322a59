use Rattle.std.proofs.Common.{◌≡◌, Some, arith, refl, slice_get}
use mathlib.Core.Bool.{false≢true}
use Rattle.std.proofs.lemmas.Map.Entries.{length-values_of}
use Rattle.std.proofs.lemmas.Option.{slice_get_within}
use Rattle.std.specs.Map.{values_of}
use Rattle.bptree_contract_tests.proofs.callers.maps.writes_at_its_index.Goals as goal

pub returns-in-Ok-clause-there : goal.returns-in-Ok-clause-there
returns-in-Ok-clause-there g c =
    let read : slice_get (values_of c.args.map.now) c.args.index ≡ Some c.in-Ok.there.now = rw c.in-Ok.is at c.get_index_mut.ensures.value in
    (λ yes. omega (arith, slice_get_within (values_of c.args.map.now) c.args.index c.in-Ok.there.now read, length-values_of c.args.map.now), λ within. refl)

pub returns-in-Ok-clause-written : goal.returns-in-Ok-clause-written
returns-in-Ok-clause-written g c = λ yes. c.get_index_mut.follows.holds c.args.v (rw c.in-Ok.is refl)

pub returns-in-Err-clause-there : goal.returns-in-Err-clause-there
returns-in-Err-clause-there g c =
    let past = rw c.in-Err.is at c.get_index_mut.ensures.past in
    (λ yes. absurd (false≢true yes), λ within. absurd (omega (arith, past.1, within)))
