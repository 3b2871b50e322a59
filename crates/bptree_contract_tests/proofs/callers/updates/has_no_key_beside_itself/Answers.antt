use Rattle.std.proofs.Common.{◌∙◌}
use Rattle.std.specs.Map.Iter.{deref}
use Rattle.bptree_contract_tests.proofs.ThinLemmas.{no_key_beside, none_taken, true_if_not_false}
use Rattle.bptree_contract_tests.proofs.callers.updates.has_no_key_beside_itself.Goals as goal

pub returns : goal.returns
returns g c =
    let none = none_taken deref c.range_bounds-keys.result c.next.result c.next.new.self (c.range_bounds-keys.ensures.rest ∙ no_key_beside g.K.Ord.cmp c.args.set.now c.args.k.now) c.next.ensures.steps in
    true_if_not_false c.is_none.result (rw none at c.is_none.ensures)
