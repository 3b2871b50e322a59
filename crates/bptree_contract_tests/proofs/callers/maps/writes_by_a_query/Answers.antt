use Rattle.std.proofs.Common.{refl}
use Rattle.bptree_contract_tests.proofs.callers.maps.writes_by_a_query.Goals as goal

pub returns-in-Ok-clause-written : goal.returns-in-Ok-clause-written
returns-in-Ok-clause-written g c =
    let written = rw c.in-Ok.is at (c.get_mut_by_argument.follows.holds c.args.v (rw c.in-Ok.is refl)) in
    (written.index, written.selected, written.contents)
