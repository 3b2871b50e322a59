use Rattle.std.proofs.Common.{◌∙◌, Some, ap}
use Rattle.std.specs.Ordering.{nat_cmp}
use Rattle.bptree_map.specs.Keys.{holds, keys_between}
use Rattle.bptree_contract_tests.proofs.ThinLemmas.{end_key_stays, no_key_between}
use Rattle.bptree_contract_tests.proofs.callers.thinned.always_empties_a_part_of_a_set.Goals as goal

pub returns-clause-between : goal.returns-clause-between
returns-clause-between c = ap (λ l. keys_between nat_cmp l (Some c.args.lo.now) (Some c.args.hi.now)) c.remove_range_infallible.ensures.rest ∙ no_key_between nat_cmp c.args.set.now c.args.lo.now c.args.hi.now

pub returns-clause-end : goal.returns-clause-end
returns-clause-end c = ap (λ l. holds nat_cmp l c.args.hi.now) c.remove_range_infallible.ensures.rest ∙ end_key_stays nat_cmp c.args.set.now c.args.lo.now c.args.hi.now
