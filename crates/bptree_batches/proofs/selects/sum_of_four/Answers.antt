use Rattle.std.proofs.Common.{◌+◌, arith}
use Rattle.std.proofs.lemmas.List.Sums.{sum_by-take-le}
use Rattle.bptree_arguments.specs.declared.count.Count.{Count}
use Rattle.bptree_batches.proofs.SelectLemmas.{four_more}
use Rattle.bptree_batches.proofs.selects.sum_of_four.Goals as goal

pub overflow_add-front : goal.overflow_add-front
overflow_add-front c = omega (arith, four_more c.args.counts.now c.args.child_index (record { 0 = 0 }) c.requires.within, sum_by-take-le (λ (x : Count). x.0) c.args.counts.now (c.args.child_index + 4))

pub overflow_add-back : goal.overflow_add-back
overflow_add-back c = omega (arith, four_more c.args.counts.now c.args.child_index (record { 0 = 0 }) c.requires.within, sum_by-take-le (λ (x : Count). x.0) c.args.counts.now (c.args.child_index + 4))

pub overflow_add-result : goal.overflow_add-result
overflow_add-result c = omega (arith, four_more c.args.counts.now c.args.child_index (record { 0 = 0 }) c.requires.within, sum_by-take-le (λ (x : Count). x.0) c.args.counts.now (c.args.child_index + 4))

pub returns : goal.returns
returns c = omega (arith, four_more c.args.counts.now c.args.child_index (record { 0 = 0 }) c.requires.within)
