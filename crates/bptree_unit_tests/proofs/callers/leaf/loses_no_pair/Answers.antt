use Rattle.std.proofs.Common.{◌≡◌, ◌∙◌, true, rules, sym}
use Rattle.bptree_unit_tests.proofs.Kept.{all_kept}
use Rattle.bptree_unit_tests.proofs.callers.leaf.loses_no_pair.Goals as goal

pub returns : goal.returns
returns g c =
    all_kept _ (λ f pair stays after left call.
    let made = call.1 in
    let reported : (stays ≡ true) × (made.left.now ≡ made.value.now) = search rules in
    let value = sym made.leaves ∙ reported.1 ∙ made.shows.1 in (
      reported.0,
      λ i. (call.0 i, value i),
    ))
    _ c.args.leaf.now.pairs _ c.retain.new.self.pairs c.retain.ensures.retained
