use Rattle.std.proofs.Common.{◌≡◌, false, rules}
use Rattle.bptree_unit_tests.proofs.Kept.{none_kept}
use Rattle.bptree_unit_tests.proofs.callers.leaf.loses_each_pair.Goals as goal

pub returns : goal.returns
returns g c = none_kept _ (λ f pair stays after left call. let reported : stays ≡ false = search rules in reported) _ c.args.leaf.now.pairs _ c.retain.new.self.pairs c.retain.ensures.retained
