use Rattle.bptree_c_maps.proofs.PageLemmas.{part_is}
use Rattle.bptree_c_maps.proofs.dict_many.part_of.Goals as goal

pub returns : goal.returns
returns c = rw (← c.dict.view_is) (part_is c.dict.inside.pairs c.args.index c.args.n c.in-Ok.pairs c.in-Ok.ensures.rest)
