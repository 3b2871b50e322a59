use Rattle.std.proofs.Common.{◌∙◌, ap, length}
use Rattle.std.proofs.iter.runs.Sources.{from_front}
use Rattle.std.specs.Map.{keys_of}
use Rattle.std.specs.Map.Iter.{TakesFirst, deref}
use Rattle.bptree_map.proofs.KeyLemmas.{keys_between-is}
use Rattle.bptree_set.proofs.set.BPlusTreeSet.range.Goals as goal

pub returns-clause-rest : goal.returns-clause-rest
returns-clause-rest g c = rw (← c.self.view_is) (c.new.ensures ∙ ap keys_of c.range.ensures.rest ∙ keys_between-is g.K.Ord.cmp c.self.inside.map _ _)

pub returns-clause-runs : goal.returns-clause-runs
returns-clause-runs g c = from_front (TakesFirst deref) deref (λ s. s) (λ s t h. ap length h.0) (λ s x t h. h)
