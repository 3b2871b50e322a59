use Rattle.std.proofs.Common.{◌≡◌, ◌∙◌, ◌/◌, ap, not, sym, ◌==◌, rules}
use Rattle.bptree_contract_tests.specs.Numbers.{halved}
use Rattle.bptree_contract_tests.proofs.RetainedLemmas.{kept_by_test}
use Rattle.bptree_contract_tests.proofs.callers.thinned.always_halves.Goals as goal

pub returns : goal.returns
returns c =
    kept_by_test _ (λ pair. not (pair.1 == 0)) halved (λ f pair stays after left call.
    let made = call.1 in
    let reported : (stays ≡ not (made.value.now / 2 == 0)) × (made.left.now ≡ made.value.now / 2) = search rules in
    let value = sym made.leaves ∙ reported.1 ∙ ap (λ v. v / 2) made.shows.1 in (
      reported.0 ∙ ap (λ v. not (v / 2 == 0)) made.shows.1,
      λ i. (call.0 i, value i),
    ))
    _ c.args.map.now c.retain_infallible.new.self
    c.retain_infallible.ensures
