use Rattle.std.proofs.lemmas.Iterator.{items_from_collect}
use Rattle.bptree_load_plan.proofs.GivenLemmas.{chain_from_GivesAll}
use Rattle.bptree_unit_tests.proofs.callers.dedup.collects_the_last_items.Goals as goal

pub returns : goal.returns
returns g c = λ test xs acts given. items_from_collect c.collect.result c.collect.ensures.ran (chain_from_GivesAll (c.dedup_keep_last.ensures.items test xs acts given))
