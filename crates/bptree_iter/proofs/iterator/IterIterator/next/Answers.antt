use Rattle.std.proofs.Common.{◌≡◌, ◌<◌, ◌∙◌, sym, ap, arith, length, slice_get, Some}
use Rattle.bptree_iter.proofs.SpanLemmas.{CanGoOn-from, FrontStep-from, before_end, at_end}
use Rattle.bptree_iter.proofs.iterator.IterIterator.next.Goals as goal

pub front_index-from-requires-clause-goes_on : goal.front_index-from-requires-clause-goes_on
front_index-from-requires-clause-goes_on g c = CanGoOn-from _ _ _ _ _ _ _ _ c.self.invariant.0 c.self.invariant.1

pub returns-then-from-end-clause-steps : goal.returns-then-from-end-clause-steps
returns-then-from-end-clause-steps g c =
    let none = sym c.self.view_is ∙ at_end _ _ _ _ _ _ _ _ _ _ _ c.self.invariant.0 c.front_index-from.ensures.index c.front_index-from.ensures.leaf c.front_index-from.ensures.end c.if-from-end.true in
    (none, none)

pub data_at-pair-requires : goal.data_at-pair-requires
data_at-pair-requires g c =
    let step = FrontStep-from _ _ _ _ _ _ _ _ _ c.self.invariant.0 c.front_index-from.ensures.index (before_end _ _ _ _ _ _ _ _ _ c.front_index-from.result.1.now _ c.self.invariant.0 c.front_index-from.ensures.index c.front_index-from.ensures.end c.if-from-end.false) (omega arith) in
    let leaf : c.front_index-from.result.1.now ≡ step.leaf = cc (c.front_index-from.ensures.leaf, step.found) in
    rw leaf step.within

pub overflow_add-self : goal.overflow_add-self
overflow_add-self g c =
    let step = FrontStep-from _ _ _ _ _ _ _ _ _ c.self.invariant.0 c.front_index-from.ensures.index (before_end _ _ _ _ _ _ _ _ _ c.front_index-from.result.1.now _ c.self.invariant.0 c.front_index-from.ensures.index c.front_index-from.ensures.end c.if-from-end.false) (omega arith) in
    let leaf : c.front_index-from.result.1.now ≡ step.leaf = cc (c.front_index-from.ensures.leaf, step.found) in
    let within : c.front_index-from.result.2 < length c.front_index-from.result.1.now.pairs = rw leaf step.within in
    omega (arith, c.data_at-pair.ensures.fits)

pub invariant_of-self : goal.invariant_of-self
invariant_of-self g c =
    let step = FrontStep-from _ _ _ _ _ _ _ _ _ c.self.invariant.0 c.front_index-from.ensures.index (before_end _ _ _ _ _ _ _ _ _ c.front_index-from.result.1.now _ c.self.invariant.0 c.front_index-from.ensures.index c.front_index-from.ensures.end c.if-from-end.false) (omega arith) in
    (step.between, c.front_index-from.ensures.leaf, c.front_index-from.ensures.end)

pub returns-clause-steps : goal.returns-clause-steps
returns-clause-steps g c =
    let step = FrontStep-from _ _ _ _ _ _ _ _ _ c.self.invariant.0 c.front_index-from.ensures.index (before_end _ _ _ _ _ _ _ _ _ c.front_index-from.result.1.now _ c.self.invariant.0 c.front_index-from.ensures.index c.front_index-from.ensures.end c.if-from-end.false) (omega arith) in
    let leaf : c.front_index-from.result.1.now ≡ step.leaf = cc (c.front_index-from.ensures.leaf, step.found) in
    let got : slice_get step.leaf.pairs c.front_index-from.result.2 ≡ Some (c.data_at-pair.result.0.now, c.data_at-pair.result.1.now) = rw leaf at c.data_at-pair.ensures.value in
    let pair : step.pair ≡ (c.data_at-pair.result.0.now, c.data_at-pair.result.1.now) = cc (got, step.got) in
    sym c.self.view_is ∙ rw pair at step.first

pub returns-clause-goes : goal.returns-clause-goes
returns-clause-goes g c =
    let step = returns-clause-steps g c in
    record { on = λ _. (tt, tt, omega (arith, ap length step)); keeps = tt; rests = λ _. tt }
