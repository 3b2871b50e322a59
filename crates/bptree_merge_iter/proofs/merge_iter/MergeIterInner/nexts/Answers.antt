use Rattle.std.proofs.Common.{sym, refl}
use Rattle.bptree_merge_iter.proofs.MergeLemmas.{merge_step-both, neither_ended}
use Rattle.bptree_merge_iter.proofs.merge_iter.MergeIterInner.nexts.Goals as goal

pub returns-in-Less-clause-order : goal.returns-in-Less-clause-order
returns-in-Less-clause-order g c = λ order computes.
    let returned = computes c.in-Some-Some.a c.in-Some-Some.b _ (record { first = _; second = _; shows = (refl, refl); says = record { met = c.in-Less.ensures } }) in
    let step = merge_step-both g.I.Listed.shows order _ _ _ _ _ _ _ _ _ c.heads-a_next.ensures.first c.heads-a_next.ensures.second c.in-Some-Some.is-0 c.in-Some-Some.is-1 (sym returned) in
    rw (← c.self.view_is, ← c.take-peeked.ensures.value, step) (refl, refl, refl)

pub returns-in-Greater-clause-order : goal.returns-in-Greater-clause-order
returns-in-Greater-clause-order g c = λ order computes.
    let returned = computes c.in-Some-Some.a c.in-Some-Some.b _ (record { first = _; second = _; shows = (refl, refl); says = record { met = c.in-Greater.ensures } }) in
    let step = merge_step-both g.I.Listed.shows order _ _ _ _ _ _ _ _ _ c.heads-a_next.ensures.first c.heads-a_next.ensures.second c.in-Some-Some.is-0 c.in-Some-Some.is-1 (sym returned) in
    rw (← c.self.view_is, ← c.take-peeked.ensures.value, step) (refl, refl, refl)

pub returns-in-Some-Some-clause-order : goal.returns-in-Some-Some-clause-order
returns-in-Some-Some-clause-order g c = λ order computes.
    let returned = computes c.in-Some-Some.a c.in-Some-Some.b _ (record { first = _; second = _; shows = (refl, refl); says = record { met = c.in-Equal.ensures } }) in
    let step = merge_step-both g.I.Listed.shows order _ _ _ _ _ _ _ _ _ c.heads-a_next.ensures.first c.heads-a_next.ensures.second c.in-Some-Some.is-0 c.in-Some-Some.is-1 (sym returned) in
    rw (← c.self.view_is, ← c.take-peeked.ensures.value, c.take-peeked.ensures.after, step) (refl, refl, refl)

pub returns-in-Less-clause-alone : goal.returns-in-Less-clause-alone
returns-in-Less-clause-alone g c = λ ended.
    absurd (neither_ended g.I.Listed.shows _ _ _ _ _ _ _ _ c.heads-a_next.ensures.first c.heads-a_next.ensures.second c.in-Some-Some.is-0 c.in-Some-Some.is-1 (rw (← c.self.view_is, ← c.take-peeked.ensures.value) at ended))

pub returns-in-Greater-clause-alone : goal.returns-in-Greater-clause-alone
returns-in-Greater-clause-alone g c = λ ended.
    absurd (neither_ended g.I.Listed.shows _ _ _ _ _ _ _ _ c.heads-a_next.ensures.first c.heads-a_next.ensures.second c.in-Some-Some.is-0 c.in-Some-Some.is-1 (rw (← c.self.view_is, ← c.take-peeked.ensures.value) at ended))

pub returns-in-Some-Some-clause-alone : goal.returns-in-Some-Some-clause-alone
returns-in-Some-Some-clause-alone g c = λ ended.
    absurd (neither_ended g.I.Listed.shows _ _ _ _ _ _ _ _ c.heads-a_next.ensures.first c.heads-a_next.ensures.second c.in-Some-Some.is-0 c.in-Some-Some.is-1 (rw (← c.self.view_is, ← c.take-peeked.ensures.value) at ended))
