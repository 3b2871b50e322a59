use Rattle.std.proofs.Common.{ap, length}
use Rattle.std.proofs.iter.runs.Sources.{as_is, as_is_back, from_back, from_front}
use Rattle.std.specs.Map.Iter.{TakesFirst, TakesLast}
use Rattle.bptree_tree.proofs.tree.owning.IntoIter.new.Goals as goal

pub returns-clause-runs : goal.returns-clause-runs
returns-clause-runs g c = λ p s. as_is p p.from (from_front (TakesFirst (λ x. x)) (λ x. x) (λ left. left) (λ a b h. ap length h.0) (λ a x b h. h) p s)

pub returns-clause-runs_back : goal.returns-clause-runs_back
returns-clause-runs_back g c = λ p s. as_is_back p p.from (from_back (TakesLast (λ x. x)) (λ x. x) (λ left. left) (λ a b h. ap length h.0) (λ a x b h. h) p s)
