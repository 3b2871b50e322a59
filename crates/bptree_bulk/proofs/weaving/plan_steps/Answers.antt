use Rattle.std.proofs.Common.{◌≡◌, ◌+◌, ◌∷◌, [], arith, drop, slice_index_or, subst, sym, take}
use Rattle.bptree_arguments.specs.Sums.{SumsUpPieces}
use Rattle.bptree_propagation.specs.Change.{StartsAt}
use Rattle.bptree_bulk_load.proofs.Standing.{drop_on}
use Rattle.bptree_bulk.proofs.Summed.{all_summed, first_starts, summed_on, take_next}
use Rattle.bptree_bulk.proofs.Weaves.{goes_joined, woven_length}
use Rattle.bptree_bulk.specs.Weave.{first_rest, woven, Goes}
use Rattle.bptree_bulk.specs.declared.weaving.Source.TheVariants.{First}
use Rattle.bptree_bulk.proofs.weaving.plan_steps.Goals as goal

pub steps-preserved : goal.steps-preserved
steps-preserved g c =
    let cmp = g.S.K.Ord.cmp in
    let steps = c.args.steps.now in
    let i = c.steps.i in
    let source = slice_index_or steps i First in
    let A = c.args.first.now in
    let B = c.args.second.now in
    let a = c.steps.first in
    let b = c.steps.second in
    let a' = c.step_over.new.first in
    let b' = c.step_over.new.second in
    let inv = c.steps.invariant in
    let step = c.step_over.ensures in
    let starts : drop i steps ≡ source ∷ drop (i + 1) steps = drop_on steps i First c.steps-test.true in
    let goes = subst (λ s. Goes cmp s a b inv.rest.0 inv.rest.1) starts inv.goes in
    record {
      within = omega (arith, c.steps-test.true);
      counted = omega (arith, c.push_reserved.ensures.len, inv.counted);
      room = omega (arith, c.push_reserved.ensures.capacity, inv.room);
      leads = subst (λ s. Goes cmp s A B a' b') (sym (take_next i steps (drop (i + 1) steps) source starts)) (goes_joined cmp (take i steps) (source ∷ []) A B a b a' b' inv.leads (goes.0, (sym step.first, sym step.second)));
      rest = inv.rest;
      goes = subst (λ l. Goes cmp (drop (i + 1) steps) l b' inv.rest.0 inv.rest.1) (sym step.first) (subst (λ l. Goes cmp (drop (i + 1) steps) (first_rest source a) l inv.rest.0 inv.rest.1) (sym step.second) goes.1);
      summed = summed_on cmp g.S.Argument.Argument.is_summary steps A B i source a b starts inv.leads goes.0 c.steps.sums.items c.push_reserved.new.self.items c.in_ok-sum.sum c.next_key-in-steps.result.now c.next_key-in-steps.ensures c.in_ok-sum.ensures.summary c.push_reserved.ensures.items inv.summed;
    }

pub returns-clause-planned : goal.returns-clause-planned
returns-clause-planned g c =
    let cmp = g.S.K.Ord.cmp in
    let steps = c.args.steps.now in
    let a = c.args.first.now in
    let b = c.args.second.now in
    let lead = c.requires.lead in
    let source = slice_index_or steps 0 First in
    let starts : steps ≡ source ∷ drop 1 steps = drop_on steps 0 First c.requires.count.0 in
    let k = c.index-next_key-0.result in
    let goes = subst (λ s. Goes cmp s a b lead.0.0 lead.0.1) starts lead.1 in
    let begins = first_starts g.met.S.K.Ord.total source (drop 1 steps) a b c.next_key.result.now k c.in_ok-start.start goes.0 c.next_key.ensures c.index-next_key-0.is (g.met.S.K.Key.clone_is_equal k c.in_ok-start.start c.in_ok-start.ensures.cases) in
    let summed = all_summed cmp g.S.Argument.Argument.is_summary steps a b c.steps.i lead.0.0 lead.0.1 c.steps.sums.items c.in_ok-summary.summary (omega (arith, c.steps-test.false)) c.requires.count.1 lead.1 c.requires.ascending c.steps.invariant.summed (subst (λ s. SumsUpPieces g.S.Argument.Argument.is_summary cmp s c.in_ok-summary.summary) c.deref.ensures.value c.in_ok-summary.ensures.summary) in
    λ parts before. c.in_ok-plan_part.ensures parts (woven steps a b) before (omega (arith, woven_length cmp steps a b lead.0.0 lead.0.1 lead.1, c.requires.count.1)) (subst (λ s. StartsAt cmp c.in_ok-start.start (woven s a b)) (sym starts) begins) summed
