use Rattle.std.proofs.Common.{rules}
use Rattle.std.specs.Map.Iter.{deref}
use Rattle.bptree_set.proofs.SymmetricLemmas.{both_given, first_given, second_given, symmetric_goes}
use Rattle.bptree_set.proofs.UnionLemmas.{shorter_still}
use Rattle.bptree_set.proofs.set.symmetric.InOneAloneJoining.step.Goals as goal

pub loop-first-preserved : goal.loop-first-preserved
loop-first-preserved g c =
    let ran = c.nexts.ensures.order g.K.Ord.cmp (λ x y o h. search rules) in
    let given = both_given deref g.K.Ord.cmp _ _ _ _ _ c.in-Some-Some.field-0-0 c.in-Some-Some.field-0-1 c.in-Some-Some.is-0 c.in-Some-Some.is-1 ran.0 ran.1 ran.2 in
    (rw c.loop-first.invariant.0 given.0, shorter_still g.K.Ord.cmp _ _ _ c.loop-first.invariant.1 ran.2)

pub loop-first-smaller : goal.loop-first-smaller
loop-first-smaller g c =
    let ran = c.nexts.ensures.order g.K.Ord.cmp (λ x y o h. search rules) in
    (both_given deref g.K.Ord.cmp _ _ _ _ _ c.in-Some-Some.field-0-0 c.in-Some-Some.field-0-1 c.in-Some-Some.is-0 c.in-Some-Some.is-1 ran.0 ran.1 ran.2).1

pub returns-in_default-None-clause-gives : goal.returns-in_default-None-clause-gives
returns-in_default-None-clause-gives g c =
    let ran = c.nexts.ensures.order g.K.Ord.cmp (λ x y o h. search rules) in
    rw c.loop-first.invariant.0 (first_given deref g.K.Ord.cmp _ _ _ _ _ c.in_default-None.is-1 ran.0 ran.1 ran.2)

pub returns-in_default-None-clause-goes : goal.returns-in_default-None-clause-goes
returns-in_default-None-clause-goes g c =
    let ran = c.nexts.ensures.order g.K.Ord.cmp (λ x y o h. search rules) in
    symmetric_goes g.K.Ord.cmp _ _ _ (rw c.loop-first.invariant.0 (first_given deref g.K.Ord.cmp _ _ _ _ _ c.in_default-None.is-1 ran.0 ran.1 ran.2))

pub returns-in_default-None-clause-shorter : goal.returns-in_default-None-clause-shorter
returns-in_default-None-clause-shorter g c =
    let ran = c.nexts.ensures.order g.K.Ord.cmp (λ x y o h. search rules) in
    shorter_still g.K.Ord.cmp _ _ _ c.loop-first.invariant.1 ran.2

pub returns-in-None-default-clause-gives : goal.returns-in-None-default-clause-gives
returns-in-None-default-clause-gives g c =
    let ran = c.nexts.ensures.order g.K.Ord.cmp (λ x y o h. search rules) in
    rw c.loop-first.invariant.0 (second_given deref g.K.Ord.cmp _ _ _ _ _ c.in-None-default.is-0 ran.0 ran.1 ran.2)

pub returns-in-None-default-clause-goes : goal.returns-in-None-default-clause-goes
returns-in-None-default-clause-goes g c =
    let ran = c.nexts.ensures.order g.K.Ord.cmp (λ x y o h. search rules) in
    symmetric_goes g.K.Ord.cmp _ _ _ (rw c.loop-first.invariant.0 (second_given deref g.K.Ord.cmp _ _ _ _ _ c.in-None-default.is-0 ran.0 ran.1 ran.2))

pub returns-in-None-default-clause-shorter : goal.returns-in-None-default-clause-shorter
returns-in-None-default-clause-shorter g c =
    let ran = c.nexts.ensures.order g.K.Ord.cmp (λ x y o h. search rules) in
    shorter_still g.K.Ord.cmp _ _ _ c.loop-first.invariant.1 ran.2
