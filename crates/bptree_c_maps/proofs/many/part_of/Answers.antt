use Rattle.bptree_c_maps.proofs.PageLemmas.{part_is}
use Rattle.bptree_c_maps.proofs.many.part_of.Goals as goal

pub returns : goal.returns
returns c = rw (← c.map.view_is) (part_is c.map.inside.pairs c.args.index c.args.n c.in-Ok.pairs c.in-Ok.ensures.rest)
