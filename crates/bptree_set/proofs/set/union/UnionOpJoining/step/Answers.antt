use Rattle.std.proofs.Common.{rules}
use Rattle.bptree_set.proofs.UnionLemmas.{left_shorter, union_goes, union_step}
use Rattle.bptree_set.proofs.set.union.UnionOpJoining.step.Goals as goal

pub returns-clause-gives : goal.returns-clause-gives
returns-clause-gives g c =
    let ran = c.nexts.ensures.order g.K.Ord.cmp (λ x y o h. search rules) in
    rw c.or.ensures (union_step g.K.Ord.cmp _ _ _ _ ran.0 ran.1 ran.2)

pub returns-clause-goes : goal.returns-clause-goes
returns-clause-goes g c =
    let ran = c.nexts.ensures.order g.K.Ord.cmp (λ x y o h. search rules) in
    rw c.or.ensures (union_goes g.K.Ord.cmp _ _ _ (union_step g.K.Ord.cmp _ _ _ _ ran.0 ran.1 ran.2))

pub returns-clause-shorter : goal.returns-clause-shorter
returns-clause-shorter g c = rw ((c.nexts.ensures.order g.K.Ord.cmp (λ x y o h. search rules)).2) (left_shorter g.K.Ord.cmp _ _)
