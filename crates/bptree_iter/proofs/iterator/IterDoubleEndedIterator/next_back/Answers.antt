use Rattle.std.proofs.Common.{◌≡◌, ◌-◌, ◌∙◌, sym, arith, slice_get, Some}
use Rattle.bptree_iter.proofs.EndLemmas.{ends_part}
use Rattle.bptree_iter.proofs.SpanLemmas.{CanGoBack-from, BackAt-from, BackStep-from, nothing_left, shorter_by_last}
use Rattle.bptree_iter.proofs.iterator.IterDoubleEndedIterator.next_back.Goals as goal

pub back_index-back-requires : goal.back_index-back-requires
back_index-back-requires g c =
    let end = ends_part (g.S.NodeStore.slots c.self.inside.store.now) c.self.inside.part c.known_end-part.result c.known_end-part.ensures.part c.known_end-part.ensures.same in
    CanGoBack-from _ _ _ _ _ _ _ end.between

pub returns-then-not-are_apart-clause-steps : goal.returns-then-not-are_apart-clause-steps
returns-then-not-are_apart-clause-steps g c =
    let end = ends_part (g.S.NodeStore.slots c.self.inside.store.now) c.self.inside.part c.known_end-part.result c.known_end-part.ensures.part c.known_end-part.ensures.same in
    let at = BackAt-from _ _ _ _ _ _ _ _ _ end.between c.back_index-back.ensures in
    let none = sym c.self.view_is ∙ (sym end.same ∙ (at.same ∙ nothing_left _ _ _ _ _ _ _ at.between (c.are_apart.ensures.none c.if-not-are_apart.true))) in
    (none, none)

pub overflow_sub-last : goal.overflow_sub-last
overflow_sub-last g c =
    let end = ends_part (g.S.NodeStore.slots c.self.inside.store.now) c.self.inside.part c.known_end-part.result c.known_end-part.ensures.part c.known_end-part.ensures.same in
    (BackStep-from _ _ _ _ _ _ _ _ _ end.between c.known_end-part.ensures.known c.back_index-back.ensures (c.are_apart.ensures.some c.if-not-are_apart.false)).some

pub data_at-pair-requires : goal.data_at-pair-requires
data_at-pair-requires g c =
    let end = ends_part (g.S.NodeStore.slots c.self.inside.store.now) c.self.inside.part c.known_end-part.result c.known_end-part.ensures.part c.known_end-part.ensures.same in
    let step = BackStep-from _ _ _ _ _ _ _ _ _ end.between c.known_end-part.ensures.known c.back_index-back.ensures (c.are_apart.ensures.some c.if-not-are_apart.false) in
    let leaf : c.leaf_at.result.now ≡ step.leaf = cc (c.leaf_at.ensures, step.found) in
    rw leaf (omega (arith, step.some, step.within))

pub overflow_sub-self : goal.overflow_sub-self
overflow_sub-self g c =
    let end = ends_part (g.S.NodeStore.slots c.self.inside.store.now) c.self.inside.part c.known_end-part.result c.known_end-part.ensures.part c.known_end-part.ensures.same in
    (BackStep-from _ _ _ _ _ _ _ _ _ end.between c.known_end-part.ensures.known c.back_index-back.ensures (c.are_apart.ensures.some c.if-not-are_apart.false)).more

pub invariant_of-self : goal.invariant_of-self
invariant_of-self g c =
    let end = ends_part (g.S.NodeStore.slots c.self.inside.store.now) c.self.inside.part c.known_end-part.result c.known_end-part.ensures.part c.known_end-part.ensures.same in
    let step = BackStep-from _ _ _ _ _ _ _ _ _ end.between c.known_end-part.ensures.known c.back_index-back.ensures (c.are_apart.ensures.some c.if-not-are_apart.false) in
    (step.between, c.self.invariant.1, c.end_in-self-inside.ensures)

pub returns-clause-steps : goal.returns-clause-steps
returns-clause-steps g c =
    let end = ends_part (g.S.NodeStore.slots c.self.inside.store.now) c.self.inside.part c.known_end-part.result c.known_end-part.ensures.part c.known_end-part.ensures.same in
    let step = BackStep-from _ _ _ _ _ _ _ _ _ end.between c.known_end-part.ensures.known c.back_index-back.ensures (c.are_apart.ensures.some c.if-not-are_apart.false) in
    let leaf : c.leaf_at.result.now ≡ step.leaf = cc (c.leaf_at.ensures, step.found) in
    let got : slice_get step.leaf.pairs (c.back_index-back.result.slot - 1) ≡ Some (c.data_at-pair.result.0.now, c.data_at-pair.result.1.now) = rw leaf at c.data_at-pair.ensures.value in
    let pair : step.pair ≡ (c.data_at-pair.result.0.now, c.data_at-pair.result.1.now) = cc (got, step.got) in
    sym c.self.view_is ∙ (sym end.same ∙ rw pair at step.last)

pub returns-clause-goes : goal.returns-clause-goes
returns-clause-goes g c =
    let step = returns-clause-steps g c in
    record { on = λ _. (tt, tt, shorter_by_last _ _ _ step); keeps = tt; rests = λ _. tt }
