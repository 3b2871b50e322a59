use Rattle.std.proofs.lemmas.List.Kept.{IsStrictlySortedBy-filter}
use Rattle.std.proofs.Common.{not}
use Rattle.bptree_map.specs.Keys.{holds}
use Rattle.bptree_set.proofs.MemberLemmas.{holds_within, holds_without}
use Rattle.bptree_set.proofs.SymmetricLemmas.{ascending_symmetric, held_symmetric}
use Rattle.bptree_set.proofs.set.laws.laws_of_two_sets.Goals as goal

pub returns-clause-difference_order : goal.returns-clause-difference_order
returns-clause-difference_order g c = λ first second ascending. IsStrictlySortedBy-filter g.K.Ord.cmp (λ key. not (holds g.K.Ord.cmp second key)) first ascending

pub returns-clause-difference : goal.returns-clause-difference
returns-clause-difference g c = λ first second k. holds_without g.K.Ord.cmp g.met.K.Ord.total second first k

pub returns-clause-intersection_order : goal.returns-clause-intersection_order
returns-clause-intersection_order g c = λ first second ascending. IsStrictlySortedBy-filter g.K.Ord.cmp (λ key. holds g.K.Ord.cmp second key) first ascending

pub returns-clause-intersection : goal.returns-clause-intersection
returns-clause-intersection g c = λ first second k. holds_within g.K.Ord.cmp g.met.K.Ord.total second first k

pub returns-clause-symmetric_order : goal.returns-clause-symmetric_order
returns-clause-symmetric_order g c = λ first second ascending ascending_too. ascending_symmetric g.K.Ord.cmp g.met.K.Ord.total first second ascending ascending_too

pub returns-clause-symmetric : goal.returns-clause-symmetric
returns-clause-symmetric g c = λ first second ascending ascending_too k. held_symmetric g.K.Ord.cmp g.met.K.Ord.total k first second ascending ascending_too
