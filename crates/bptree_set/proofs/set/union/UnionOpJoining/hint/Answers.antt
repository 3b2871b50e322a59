use Rattle.bptree_set.proofs.UnionLemmas.{sum_exact, union_bounds}
use Rattle.bptree_set.proofs.set.union.UnionOpJoining.hint.Goals as goal

pub returns-clause-reports : goal.returns-clause-reports
returns-clause-reports g c = λ both are. (rw (are.0, are.1) c.max.ensures, sum_exact _ _ _ _ _ are.0 are.1 c.checked_add.ensures)

pub returns-clause-bounds : goal.returns-clause-bounds
returns-clause-bounds g c = λ both are. union_bounds g.K.Ord.cmp both _ (rw (are.0, are.1) c.max.ensures, sum_exact _ _ _ _ _ are.0 are.1 c.checked_add.ensures)
