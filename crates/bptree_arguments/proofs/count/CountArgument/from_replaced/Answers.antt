use Rattle.std.proofs.Common.{arith, length-append, ◌++◌}
use Rattle.bptree_arguments.proofs.count.CountArgument.from_replaced.Goals as goal

pub returns-in-Some-clause-replaced : goal.returns-in-Some-clause-replaced
returns-in-Some-clause-replaced g c = λ before was now after whole old new sorted few.
    omega (
      arith,
      whole,
      old,
      new,
      length-append before (was ++ after),
      length-append was after,
      length-append before (now ++ after),
      length-append now after,
      c.in_ok-checked_sub.ensures.0,
      c.in_ok-checked_sub.ensures.1,
      c.in-Some.ensures.1,
    )
