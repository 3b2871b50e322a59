use Rattle.bptree_merge_iter.proofs.MergedLemmas.{steps_merged, firsts_merged, seconds_merged, equal_merged, ascending_merged, present_merged, counted_merged}
use Rattle.bptree_merge_iter.proofs.merge_iter.laws_of_merge.Goals as goal

pub returns-clause-steps : goal.returns-clause-steps
returns-clause-steps g c = λ order us vs some. steps_merged order us vs some

pub returns-clause-firsts : goal.returns-clause-firsts
returns-clause-firsts g c = λ order us vs. firsts_merged order us vs

pub returns-clause-seconds : goal.returns-clause-seconds
returns-clause-seconds g c = λ order us vs. seconds_merged order us vs

pub returns-clause-equal : goal.returns-clause-equal
returns-clause-equal g c = λ order us vs. equal_merged order us vs

pub returns-clause-order : goal.returns-clause-order
returns-clause-order g c = λ order us vs total first second. ascending_merged order total us vs first second

pub returns-clause-present : goal.returns-clause-present
returns-clause-present g c = λ order us vs k total. present_merged order total k us vs

pub returns-clause-len : goal.returns-clause-len
returns-clause-len g c = λ order us vs. counted_merged order us vs
