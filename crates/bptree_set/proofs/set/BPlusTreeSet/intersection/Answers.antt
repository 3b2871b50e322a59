use Rattle.std.proofs.Common.{ap, length}
use Rattle.std.proofs.iter.runs.Sources.{from_front}
use Rattle.std.specs.Map.Iter.{deref}
use Rattle.bptree_set.specs.Beside.{TakesSifted, keys_sifted}
use Rattle.bptree_set.proofs.set.BPlusTreeSet.intersection.Goals as goal

pub returns-then-len-clause-runs : goal.returns-then-len-clause-runs
returns-then-len-clause-runs g c = from_front (TakesSifted g.K.Ord.cmp (λ held. held)) deref (λ s. keys_sifted g.K.Ord.cmp (λ held. held) s.0 s.1) (λ s t h. ap length h.0) (λ s x t h. h)

pub returns-clause-runs : goal.returns-clause-runs
returns-clause-runs g c = from_front (TakesSifted g.K.Ord.cmp (λ held. held)) deref (λ s. keys_sifted g.K.Ord.cmp (λ held. held) s.0 s.1) (λ s t h. ap length h.0) (λ s x t h. h)
