use Rattle.std.proofs.Common.{[], Option, Some, None, IfSome}
use Rattle.bptree_unit_tests.proofs.callers.arguments.replaces_the_first.Goals as goal

weaker : {A : Type 0} (P Q : A → Type 0) (found : Option A) → ((a : A) → P a → Q a) → IfSome found P → IfSome found Q
weaker P Q None so h = tt
weaker P Q (Some a) so h = so a h

pub returns : goal.returns
returns g c was old node =
    weaker _ _ c.from_replaced.result (λ a replaced. replaced [] was c.args.first.now c.args.rest.now node old c.requires.new c.requires.ascending c.requires.fits) c.from_replaced.ensures.replaced
