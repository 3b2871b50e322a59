use Rattle.std.proofs.Common.{◌≡◌, ◌∙◌, ◌==◌, ◌/◌, ◌∷◌, ap, rules, slice_get, sym, Some}
use Rattle.bptree_nodes.specs.Leaf.{set_value_at}
use Rattle.bptree_unit_tests.proofs.callers.leaf.halves_the_first.Goals as goal

pub returns : goal.returns
returns g c = λ key value rest is.
    let called = c.call_at-stays.ensures.called in
    let pair = called.0 in
    let left = called.1 in
    let first : pair ≡ (key, value) = let read : Some (key, value) ≡ Some pair = sym (ap (λ l. slice_get l 0) is) ∙ called.2 in cc in
    let made = called.3.1 in
    let reported : (c.call_at-stays.result.0 ≡ (made.value.now == 7)) × (made.left.now ≡ made.value.now / 2) = search rules in
    let shown : made.value.now ≡ value = made.shows.1 ∙ ap (λ p. p.1) first in
    let halved : left ≡ value / 2 = sym made.leaves ∙ (reported.1 ∙ ap (λ v. v / 2) shown) in (
      called.4 ∙ ap (λ l. record c.args.leaf.now { pairs = l }) (ap (λ l. set_value_at l 0 left) is ∙ ap (λ v. (key, v) ∷ rest) halved),
      reported.0 ∙ ap (λ v. v == 7) shown,
    )
