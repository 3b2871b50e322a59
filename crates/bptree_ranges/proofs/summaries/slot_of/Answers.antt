use Rattle.std.proofs.Common.{length}
use Rattle.bptree_search.proofs.Beside.{reported_fits}
use Rattle.bptree_ranges.proofs.Sums.{smaller_of, smaller_within}
use Rattle.bptree_ranges.proofs.summaries.slot_of.Goals as goal

pub slot_beside-requires : goal.slot_beside-requires
slot_beside-requires g c = reported_fits c.locate_slot.result (length c.args.leaf.now.pairs) c.locate_slot.ensures.in_range c.locate_slot.ensures.fits

pub returns-clause-within : goal.returns-clause-within
returns-clause-within g c = smaller_within c.locate_slot.result (length c.args.leaf.now.pairs) c.slot_beside.result c.slot_beside.ensures c.locate_slot.ensures.in_range

pub returns-clause-smaller : goal.returns-clause-smaller
returns-clause-smaller g c ascending = smaller_of g.met.K.Ord.total c.args.key.now c.args.leaf.now.pairs c.locate_slot.result c.slot_beside.result c.slot_beside.ensures ascending (c.locate_slot.ensures.index ascending)
