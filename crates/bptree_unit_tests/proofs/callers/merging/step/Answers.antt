use Rattle.std.proofs.Common.{rules}
use Rattle.std.specs.Map.Iter.{deref}
use Rattle.bptree_unit_tests.proofs.StepLemmas.{step_less, step_equal, step_greater, step_first, step_second, step_end}
use Rattle.bptree_unit_tests.proofs.callers.merging.step.Goals as goal

pub returns-clause-less : goal.returns-clause-less
returns-clause-less g c = step_less deref g.K.Ord.cmp _ _ _ _ (c.nexts.ensures.order g.K.Ord.cmp (λ x y o h. search rules))

pub returns-clause-equal : goal.returns-clause-equal
returns-clause-equal g c = step_equal deref g.K.Ord.cmp _ _ _ _ (c.nexts.ensures.order g.K.Ord.cmp (λ x y o h. search rules))

pub returns-clause-greater : goal.returns-clause-greater
returns-clause-greater g c = step_greater deref g.K.Ord.cmp _ _ _ _ (c.nexts.ensures.order g.K.Ord.cmp (λ x y o h. search rules))

pub returns-clause-first : goal.returns-clause-first
returns-clause-first g c = step_first deref g.K.Ord.cmp _ _ _ _ (c.nexts.ensures.order g.K.Ord.cmp (λ x y o h. search rules))

pub returns-clause-second : goal.returns-clause-second
returns-clause-second g c = step_second deref g.K.Ord.cmp _ _ _ _ (c.nexts.ensures.order g.K.Ord.cmp (λ x y o h. search rules))

pub returns-clause-end : goal.returns-clause-end
returns-clause-end g c = step_end deref g.K.Ord.cmp _ _ _ _ (c.nexts.ensures.order g.K.Ord.cmp (λ x y o h. search rules))

pub returns-clause-whole : goal.returns-clause-whole
returns-clause-whole g c = c.nexts.ensures.order g.K.Ord.cmp (λ x y o h. search rules)
