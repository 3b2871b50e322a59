use Rattle.std.proofs.Common.{◌∙◌, Some, ap}
use Rattle.bptree_keys.specs.Contents.{has}
use Rattle.bptree_keys.specs.Ranges.{between}
use Rattle.bptree_contract_tests.proofs.ThinLemmas.{end_stays, none_between}
use Rattle.bptree_contract_tests.proofs.callers.thinned.always_empties_a_part_of_a_tree.Goals as goal

pub returns-clause-between : goal.returns-clause-between
returns-clause-between g c = ap (λ l. between g.S.K.Ord.cmp l (Some c.args.lo.now) (Some c.args.hi.now)) c.remove_range_infallible.ensures.rest ∙ none_between g.S.K.Ord.cmp c.args.tree.now.contents c.args.lo.now c.args.hi.now

pub returns-clause-end : goal.returns-clause-end
returns-clause-end g c = ap (λ l. has g.S.K.Ord.cmp l c.args.hi.now) c.remove_range_infallible.ensures.rest ∙ end_stays g.S.K.Ord.cmp c.args.tree.now.contents c.args.lo.now c.args.hi.now
