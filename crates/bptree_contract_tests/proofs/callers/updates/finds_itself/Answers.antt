use Rattle.std.proofs.Common.{◌∙◌}
use Rattle.std.specs.Map.Iter.{deref_pair}
use Rattle.bptree_contract_tests.proofs.ThinLemmas.{itself_taken}
use Rattle.bptree_contract_tests.proofs.callers.updates.finds_itself.Goals as goal

pub returns : goal.returns
returns g c =
    c.is_some.ensures ∙ itself_taken g.S.K.Ord.cmp deref_pair c.args.k.now c.args.tree.now.contents c.next.result c.next.new.self (rw c.range_bounds-pairs.ensures.rest at c.next.ensures.steps)
