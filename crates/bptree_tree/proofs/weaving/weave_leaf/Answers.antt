use Rattle.std.proofs.Common.{◌≡◌, ◌∙◌, ◌+◌, ◌-◌, ◌∷◌, ◌++◌, [], ap, append_assoc, arith, drop, length, length-append, slice_index_or, subst, sym, take}
use Rattle.bptree_bulk_load.proofs.Standing.{drop_on}
use Rattle.bptree_bulk.proofs.Summed.{take_next}
use Rattle.bptree_bulk.proofs.Weaves.{goes_joined}
use Rattle.bptree_bulk.specs.Weave.{first_rest, step_pair, woven, Goes}
use Rattle.bptree_bulk.specs.declared.weaving.Source.TheVariants.{First}
use Rattle.bptree_tree.specs.Weaving.{left_of}
use Rattle.bptree_tree.proofs.weaving.weave_leaf.Goals as goal

pub steps-preserved : goal.steps-preserved
steps-preserved g c =
    let cmp = g.S.K.Ord.cmp in
    let steps = c.args.steps.now in
    let i = c.steps.i in
    let source = slice_index_or steps i First in
    let later = drop (i + 1) steps in
    let A = left_of c.args.first.now in
    let B = left_of c.args.second.now in
    let a = left_of c.steps.first in
    let b = left_of c.steps.second in
    let a' = left_of c.next_pair-key.new.first in
    let b' = left_of c.next_pair-key.new.second in
    let pair = c.next_pair-key.result in
    let before = c.steps.leaf.pairs in
    let inv = c.steps.invariant in
    let step = c.next_pair-key.ensures in
    let starts : drop i steps ≡ source ∷ later = drop_on steps i First c.steps-test.true in
    let goes = subst (λ s. Goes cmp s a b inv.rest.0 inv.rest.1) starts inv.leads in
    let pushed = ap (λ l. l.pairs) c.push.ensures in
    let behind : woven later a' b' ≡ woven later (first_rest source a) b' = ap (λ l. woven later l b') step.first in
    record {
      within = omega (arith, c.steps-test.true);
      goes = subst (λ s. Goes cmp s A B a' b') (sym (take_next i steps later source starts)) (goes_joined cmp (take i steps) (source ∷ []) A B a b a' b' inv.goes (goes.0, (sym step.first, sym step.second)));
      rest = inv.rest;
      leads = subst (λ l. Goes cmp later l b' inv.rest.0 inv.rest.1) (sym step.first) (subst (λ l. Goes cmp later (first_rest source a) l inv.rest.0 inv.rest.1) (sym step.second) goes.1);
      moved = ap (λ l. l ++ woven later a' b') pushed
          ∙ (append_assoc before (pair ∷ []) (woven later a' b')
          ∙ (ap (λ p. before ++ (p ++ woven later a' b')) step.pair
          ∙ (ap (λ l. before ++ (step_pair source a b ++ l)) (behind ∙ ap (λ l. woven later (first_rest source a) l) step.second)
          ∙ (ap (λ s. before ++ woven s a b) (sym starts) ∙ inv.moved))));
      len = omega (arith, inv.len, ap length pushed, length-append before (pair ∷ []));
      empty = step.empty;
      capacity = step.capacity ∙ inv.capacity;
      room = λ more some enough. let now = inv.room more (omega (arith, some)) enough in omega (arith, some, now, step.room (more - i) (omega (arith, some)) (omega (arith, some, now)));
    }

pub returns-clause-room : goal.returns-clause-room
returns-clause-room g c = λ more some enough.
    let inv = c.steps.invariant in
    omega (arith, c.steps-test.false, inv.within, inv.room more (omega (arith, inv.within, some)) enough)
