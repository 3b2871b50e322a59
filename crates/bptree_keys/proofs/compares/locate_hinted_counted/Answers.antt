use Rattle.std.proofs.Common.{arith}
use Rattle.bptree_keys.proofs.Locating.{locate_from_search}
use Rattle.bptree_keys.proofs.compares.locate_hinted_counted.Goals as goal

pub returns-in-Far-clause-ascending : goal.returns-in-Far-clause-ascending
returns-in-Far-clause-ascending g c = locate_from_search g.K.Ord.cmp g.met.K.Ord.total _ _ _ c.search_far.ensures.in_range c.search_far.ensures.position

pub returns-in-Last-clause-ascending : goal.returns-in-Last-clause-ascending
returns-in-Last-clause-ascending g c = locate_from_search g.K.Ord.cmp g.met.K.Ord.total _ _ _ c.search_from_end.ensures.in_range c.search_from_end.ensures.position

pub returns-in-Far-2-clause-ascending : goal.returns-in-Far-2-clause-ascending
returns-in-Far-2-clause-ascending g c = locate_from_search g.K.Ord.cmp g.met.K.Ord.total _ _ _ c.search_halves.ensures.in_range c.search_halves.ensures.position

pub returns-in-Far-2-clause-count : goal.returns-in-Far-2-clause-count
returns-in-Far-2-clause-count g c = omega (arith, c.search_halves.ensures.count 7 (omega (arith, c.requires)))
