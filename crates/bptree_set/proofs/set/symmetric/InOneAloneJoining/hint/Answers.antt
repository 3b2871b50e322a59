use Rattle.bptree_set.proofs.SymmetricLemmas.{symmetric_bounds}
use Rattle.bptree_set.proofs.UnionLemmas.{sum_exact}
use Rattle.bptree_set.proofs.set.symmetric.InOneAloneJoining.hint.Goals as goal

pub returns-clause-reports : goal.returns-clause-reports
returns-clause-reports g c = λ both are. (rw (are.0, are.1) c.abs_diff.ensures, sum_exact _ _ _ _ _ are.0 are.1 c.checked_add.ensures)

pub returns-clause-bounds : goal.returns-clause-bounds
returns-clause-bounds g c = λ both are. symmetric_bounds g.K.Ord.cmp both _ (rw (are.0, are.1) c.abs_diff.ensures, sum_exact _ _ _ _ _ are.0 are.1 c.checked_add.ensures)
