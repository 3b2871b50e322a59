use Rattle.std.proofs.Common.{◌∙◌}
use Rattle.bptree_contract_tests.proofs.PartLemmas.{part_len}
use Rattle.bptree_contract_tests.proofs.callers.maps.counts_the_pairs_from_an_index.Goals as goal

pub returns : goal.returns
returns g c = c.len.ensures.value ∙ part_len c.args.map.now c.args.index c.args.n _ c.in-Ok.ensures.rest
