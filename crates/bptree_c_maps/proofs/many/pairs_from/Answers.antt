use Rattle.std.proofs.Common.{◌∙◌, ap, take}
use Rattle.bptree_c_maps.proofs.many.pairs_from.Goals as goal

pub returns : goal.returns
returns c = c.part_of.ensures ∙ ap (take c.args.n) (rw c.map.view_is at c.start_by.ensures.from)
