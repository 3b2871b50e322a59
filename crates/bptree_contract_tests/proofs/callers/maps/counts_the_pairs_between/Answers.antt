use Rattle.std.proofs.Common.{◌∙◌}
use Rattle.std.proofs.lemmas.Map.Entries.{length-keys_of}
use Rattle.bptree_contract_tests.proofs.callers.maps.counts_the_pairs_between.Goals as goal

pub returns : goal.returns
returns g c = c.count.ensures ∙ (c.in_ok-range_argument.ensures ∙ length-keys_of _)
