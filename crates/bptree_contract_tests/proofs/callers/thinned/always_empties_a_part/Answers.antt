use Rattle.std.proofs.Common.{◌∙◌, Some, ap}
use Rattle.std.specs.Ordering.{nat_cmp}
use Rattle.bptree_keys.specs.Contents.{has}
use Rattle.bptree_keys.specs.Ranges.{between}
use Rattle.bptree_contract_tests.proofs.ThinLemmas.{end_stays, none_between}
use Rattle.bptree_contract_tests.proofs.callers.thinned.always_empties_a_part.Goals as goal

pub returns-clause-between : goal.returns-clause-between
returns-clause-between c = ap (λ l. between nat_cmp l (Some c.args.lo.now) (Some c.args.hi.now)) c.remove_range_infallible.ensures.rest ∙ none_between nat_cmp c.args.map.now c.args.lo.now c.args.hi.now

pub returns-clause-end : goal.returns-clause-end
returns-clause-end c = ap (λ l. has nat_cmp l c.args.hi.now) c.remove_range_infallible.ensures.rest ∙ end_stays nat_cmp c.args.map.now c.args.lo.now c.args.hi.now
