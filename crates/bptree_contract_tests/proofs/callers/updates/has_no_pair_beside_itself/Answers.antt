use Rattle.std.proofs.Common.{◌∙◌}
use Rattle.std.specs.Map.Iter.{deref_pair}
use Rattle.bptree_contract_tests.proofs.ThinLemmas.{none_beside, none_taken, true_if_not_false}
use Rattle.bptree_contract_tests.proofs.callers.updates.has_no_pair_beside_itself.Goals as goal

pub returns : goal.returns
returns g c =
    let none = none_taken deref_pair c.range_bounds-pairs.result c.next.result c.next.new.self (c.range_bounds-pairs.ensures.rest ∙ none_beside g.K.Ord.cmp c.args.map.now c.args.k.now) c.next.ensures.steps in
    true_if_not_false c.is_none.result (rw none at c.is_none.ensures)
