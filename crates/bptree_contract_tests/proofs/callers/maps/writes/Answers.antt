use Rattle.std.proofs.Common.{◌≡◌, refl, sym, true, false, None, Some}
use Rattle.bptree_tree.proofs.Counted.{has_was}
use Rattle.bptree_contract_tests.proofs.callers.maps.writes.Goals as goal

pub returns-in-Some-clause-there : goal.returns-in-Some-clause-there
returns-in-Some-clause-there g c =
    let read : Some c.in-Some.there.now ≡ _ = rw c.in-Some.is at c.get_mut.ensures.value in
    sym (has_was g.K.Ord.cmp c.args.map.now c.args.k.now (Some c.in-Some.there.now) true read refl)

pub returns-in-None-clause-there : goal.returns-in-None-clause-there
returns-in-None-clause-there g c =
    let read : None ≡ _ = rw c.in-None.is at c.get_mut.ensures.value in
    sym (has_was g.K.Ord.cmp c.args.map.now c.args.k.now None false read refl)
