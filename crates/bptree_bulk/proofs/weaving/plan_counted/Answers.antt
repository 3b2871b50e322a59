use Rattle.std.proofs.Common.{◌≡◌, ◌∷◌, ap, arith, drop, slice_index_or, subst, sym, ◌∙◌}
use Rattle.bptree_propagation.specs.Change.{StartsAt}
use Rattle.bptree_bulk_load.proofs.Standing.{drop_on}
use Rattle.bptree_bulk.proofs.Skips.{skips}
use Rattle.bptree_bulk.proofs.Summed.{first_starts}
use Rattle.bptree_bulk.proofs.Weaves.{woven_length}
use Rattle.bptree_bulk.specs.Weave.{woven, Goes}
use Rattle.bptree_bulk.specs.declared.weaving.Source.TheVariants.{First}
use Rattle.bptree_bulk.proofs.weaving.plan_counted.Goals as goal

pub skip-requires : goal.skip-requires
skip-requires g c =
    let lead = c.requires.lead in
    omega (arith, c.takes_of-ones.ensures.first, (skips g.S.K.Ord.cmp c.args.steps.now c.args.first.now c.args.second.now lead.0.0 lead.0.1 lead.1).first_within)

pub skip-requires-2 : goal.skip-requires-2
skip-requires-2 g c =
    let lead = c.requires.lead in
    omega (arith, c.takes_of-ones.ensures.second, (skips g.S.K.Ord.cmp c.args.steps.now c.args.first.now c.args.second.now lead.0.0 lead.0.1 lead.1).second_within)

pub returns-clause-leads : goal.returns-clause-leads
returns-clause-leads g c =
    let cmp = g.S.K.Ord.cmp in
    let steps = c.args.steps.now in
    let a = c.args.first.now in
    let b = c.args.second.now in
    let lead = c.requires.lead in
    let there = skips cmp steps a b lead.0.0 lead.0.1 lead.1 in
    let first : c.skip.new.self ≡ lead.0.0 = c.skip.ensures ∙ (ap (λ n. drop n a) c.takes_of-ones.ensures.first ∙ sym there.first) in
    let second : c.skip-2.new.self ≡ lead.0.1 = c.skip-2.ensures ∙ (ap (λ n. drop n b) c.takes_of-ones.ensures.second ∙ sym there.second) in
    subst (λ l. Goes cmp steps a b l c.skip-2.new.self) (sym first) (subst (λ l. Goes cmp steps a b lead.0.0 l) (sym second) lead.1)

pub returns-clause-planned : goal.returns-clause-planned
returns-clause-planned g c =
    let cmp = g.S.K.Ord.cmp in
    let steps = c.args.steps.now in
    let a = c.args.first.now in
    let b = c.args.second.now in
    let lead = c.requires.lead in
    let source = slice_index_or steps 0 First in
    let starts : steps ≡ source ∷ drop 1 steps = drop_on steps 0 First c.requires.count.0 in
    let k = c.index-next_key-0.result in
    let goes = subst (λ s. Goes cmp s a b lead.0.0 lead.0.1) starts lead.1 in
    let begins = first_starts g.met.S.K.Ord.total source (drop 1 steps) a b c.next_key.result.now k c.in_ok-start.start goes.0 c.next_key.ensures c.index-next_key-0.is (g.met.S.K.Key.clone_is_equal k c.in_ok-start.start c.in_ok-start.ensures.cases) in
    λ parts before. c.in_ok-plan_part.ensures parts (woven steps a b) before (omega (arith, woven_length cmp steps a b lead.0.0 lead.0.1 lead.1, c.requires.count.1)) (subst (λ s. StartsAt cmp c.in_ok-start.start (woven s a b)) (sym starts) begins) (c.requires.any c.default.result _)
