use Rattle.std.proofs.Common.{arith}
use Rattle.bptree_bulk.proofs.Tails.{all_laid}
use Rattle.bptree_bulk.proofs.filling.filling_of.Goals as goal

pub frame-requires : goal.frame-requires
frame-requires g c = (c.requires.1.parts, all_laid c.requires.1)

pub returns-clause-filling : goal.returns-clause-filling
returns-clause-filling g c = λ pairs laid.
    record {
      parts = laid.parts;
      are = laid.are;
      framed = c.in_ok-frame.ensures laid.parts (all_laid laid);
      empty = laid.empty;
      as_many = laid.as_many;
      leaves = (c.in_ok-leaves.ensures.items, c.in_ok-leaves.ensures.len, omega (arith, c.in_ok-leaves.ensures.exact, c.len.ensures, laid.as_many));
      count = laid.count_is;
      ascending = laid.ascending;
    }
