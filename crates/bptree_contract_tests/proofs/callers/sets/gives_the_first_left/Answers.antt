use Rattle.std.proofs.Common.{◌≡◌, Bool, ap, not, true, false, refl, sym}
use mathlib.Core.Bool.{true≢false}
use Rattle.std.specs.Map.Iter.{deref}
use Rattle.bptree_map.specs.Keys.{holds, keys_without}
use Rattle.bptree_contract_tests.proofs.Passing.{taken_passes}
use Rattle.bptree_contract_tests.proofs.callers.sets.gives_the_first_left.Goals as goal

turned : (b : Bool) → not b ≡ true → b ≡ false
turned true e = absurd (true≢false (sym e))
turned false e = refl

pub returns-clause-alone : goal.returns-clause-alone
returns-clause-alone g c =
    taken_passes deref (λ key. not (holds g.K.Ord.cmp c.args.second.now key)) (λ key. holds g.K.Ord.cmp c.args.second.now key ≡ false) (λ key e. turned _ e)
    _ _ c.args.first.now c.next.result c.next.ensures.steps (ap (λ both. keys_without g.K.Ord.cmp both.0 both.1) c.difference.ensures.rest)
