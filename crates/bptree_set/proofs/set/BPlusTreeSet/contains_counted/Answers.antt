use Rattle.std.proofs.lemmas.Map.Entries.{length-keys_of}
use Rattle.bptree_map.proofs.KeyLemmas.{holds_found}
use Rattle.bptree_set.proofs.set.BPlusTreeSet.contains_counted.Goals as goal

pub returns-clause-value : goal.returns-clause-value
returns-clause-value g c = rw (← c.self.view_is, c.is_some.ensures) (holds_found g.K.Ord.cmp _ _ _ c.get_counted-compares.ensures.value)

pub returns-clause-count : goal.returns-clause-count
returns-clause-count g c = rw (← c.self.view_is, length-keys_of c.self.inside.map) c.get_counted-compares.ensures.count
