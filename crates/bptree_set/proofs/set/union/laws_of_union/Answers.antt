use Rattle.bptree_set.proofs.UnionLemmas.{found_merged}
use Rattle.bptree_merge_iter.proofs.MergedLemmas.{ascending_merged, present_merged}
use Rattle.bptree_set.proofs.set.union.laws_of_union.Goals as goal

pub returns-clause-order : goal.returns-clause-order
returns-clause-order g c = λ first second ascending ascending_too. ascending_merged g.K.Ord.cmp g.met.K.Ord.total first second ascending ascending_too

pub returns-clause-holds : goal.returns-clause-holds
returns-clause-holds g c = λ first second k. present_merged g.K.Ord.cmp g.met.K.Ord.total k first second

pub returns-clause-found : goal.returns-clause-found
returns-clause-found g c = λ first second k ascending. found_merged g.K.Ord.cmp g.met.K.Ord.total k first second ascending
