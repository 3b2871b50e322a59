use Rattle.std.proofs.Common.{arith}
use Rattle.bptree_keys.proofs.Locating.{locate_from_search}
use Rattle.bptree_keys.proofs.compares.locate_counted.Goals as goal

pub returns-then-size_of_val-gt-LONG-clause-ascending : goal.returns-then-size_of_val-gt-LONG-clause-ascending
returns-then-size_of_val-gt-LONG-clause-ascending g c = locate_from_search g.K.Ord.cmp g.met.K.Ord.total _ _ _ c.search_halves.ensures.in_range c.search_halves.ensures.position

pub returns-then-keys-lt16-clause-ascending : goal.returns-then-keys-lt16-clause-ascending
returns-then-keys-lt16-clause-ascending g c = locate_from_search g.K.Ord.cmp g.met.K.Ord.total _ _ _ c.search_few.ensures.in_range c.search_few.ensures.position

pub returns-else-keys-lt16-clause-ascending : goal.returns-else-keys-lt16-clause-ascending
returns-else-keys-lt16-clause-ascending g c = locate_from_search g.K.Ord.cmp g.met.K.Ord.total _ _ _ c.search_many.ensures.in_range c.search_many.ensures.position

pub returns-then-size_of_val-gt-LONG-clause-count : goal.returns-then-size_of_val-gt-LONG-clause-count
returns-then-size_of_val-gt-LONG-clause-count g c = omega (arith, c.search_halves.ensures.count 7 (omega (arith, c.requires)))
