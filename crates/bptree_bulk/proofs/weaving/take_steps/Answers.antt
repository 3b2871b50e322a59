use Rattle.std.proofs.Common.{◌≡◌, ◌∙◌, ◌+◌, arith, drop, subst, sym}
use Rattle.bptree_bulk.specs.Weave.{takes_first, takes_second, AddsSteps}
use Rattle.bptree_bulk.proofs.Steps.{step_more, takes_some}
use Rattle.bptree_bulk.proofs.weaving.take_steps.Goals as goal

pub steps-preserved : goal.steps-preserved
steps-preserved g c =
    let cmp = g.S.K.Ord.cmp in
    let a = c.args.first.now in
    let b = c.args.second.now in
    let one = c.keys-one.result.now in
    let other = c.keys-other.result.now in
    let i = c.steps.i in
    let j = c.steps.j in
    let source = c.source_of-source.result in
    let inv = c.steps.invariant in
    let first : c.from-i.result ≡ takes_first source = c.from-i.ensures ∙ c.takes_first.ensures.value in
    let second : c.from-j.result ≡ takes_second source = c.from-j.ensures ∙ c.takes_second.ensures.value in
    let more = step_more cmp c.args.steps.now.items c.steps.steps.items a b one other i j c.index-one-i.result c.index-other-j.result source c.keys-one.ensures.keys c.keys-other.ensures.keys c.steps-test.true c.if-j-other.true c.index-one-i.is c.index-other-j.is c.source_of-source.ensures inv.added in
    let added = subst (λ l. AddsSteps cmp c.args.steps.now.items l a b (drop (i + takes_first source) a) (drop (j + takes_second source) b)) (sym c.push_reserved.ensures.items) more in
    record {
      first = omega (arith, c.steps-test.true, c.takes_first.ensures.most, c.from-i.ensures);
      second = omega (arith, c.if-j-other.true, c.takes_second.ensures.most, c.from-j.ensures);
      room = omega (arith, inv.room, c.push_reserved.ensures.len, c.push_reserved.ensures.capacity, first, second, takes_some source, c.keys-one.ensures.keys.within, c.keys-other.ensures.keys.within, c.steps-test.true, c.if-j-other.true);
      added = subst (λ n. AddsSteps cmp c.args.steps.now.items c.push_reserved.new.self.items a b (drop (i + n) a) (drop (j + c.from-j.result) b)) (sym first) (subst (λ n. AddsSteps cmp c.args.steps.now.items c.push_reserved.new.self.items a b (drop (i + takes_first source) a) (drop (j + n) b)) (sym second) added);
    }
