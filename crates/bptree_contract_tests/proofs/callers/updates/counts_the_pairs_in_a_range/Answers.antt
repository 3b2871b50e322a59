use Rattle.std.proofs.Common.{◌∙◌, ap, length}
use Rattle.bptree_contract_tests.proofs.callers.updates.counts_the_pairs_in_a_range.Goals as goal

pub returns : goal.returns
returns g c = c.len.ensures.value ∙ ap length (c.range_within.ensures.rest tt)
