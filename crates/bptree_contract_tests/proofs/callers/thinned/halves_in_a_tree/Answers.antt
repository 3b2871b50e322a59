use Rattle.std.proofs.Common.{◌≡◌, ◌∙◌, ◌/◌, ap, not, sym, ◌==◌, rules}
use Rattle.std.proofs.lemmas.Result.{on_ok_weaker, IfErr-weaker}
use Rattle.bptree_contract_tests.specs.Numbers.{halved}
use Rattle.bptree_contract_tests.proofs.RetainedLemmas.{kept_by_test, none_lost}
use Rattle.bptree_contract_tests.proofs.callers.thinned.halves_in_a_tree.Goals as goal

pub returns-clause-ok : goal.returns-clause-ok
returns-clause-ok g c =
    on_ok_weaker c.retain.result
    (kept_by_test _ (λ pair. not (pair.1 == 0)) halved (λ f pair stays after left call.
    let made = call.1 in
    let reported : (stays ≡ not (made.value.now / 2 == 0)) × (made.left.now ≡ made.value.now / 2) = search rules in
    let value = sym made.leaves ∙ reported.1 ∙ ap (λ v. v / 2) made.shows.1 in (
      reported.0 ∙ ap (λ v. not (v / 2 == 0)) made.shows.1,
      λ i. (call.0 i, value i),
    ))
    _ c.args.tree.now.contents c.retain.new.self.contents)
    c.retain.ensures.ok

pub returns-clause-err : goal.returns-clause-err
returns-clause-err g c =
    IfErr-weaker c.retain.result _ _
    (none_lost _ (λ pair. not (pair.1 == 0)) halved (λ f pair stays after left call.
    let made = call.1 in
    let reported : (stays ≡ not (made.value.now / 2 == 0)) × (made.left.now ≡ made.value.now / 2) = search rules in
    let value = sym made.leaves ∙ reported.1 ∙ ap (λ v. v / 2) made.shows.1 in (
      reported.0 ∙ ap (λ v. not (v / 2 == 0)) made.shows.1,
      λ i. (call.0 i, value i),
    ))
    _ c.args.tree.now c.retain.new.self)
    c.retain.ensures.err
