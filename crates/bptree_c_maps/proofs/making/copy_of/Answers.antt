use Rattle.std.proofs.Common.{◌∙◌}
use Rattle.std.proofs.lemmas.Map.Lookups.{exact_unsigned}
use Rattle.std.specs.Ordering.{nat_cmp}
use Rattle.bptree_c_maps.proofs.CloneLemmas.{cloned_same}
use Rattle.bptree_c_maps.proofs.making.copy_of.Goals as goal

pub returns-in-Ok : goal.returns-in-Ok
returns-in-Ok c = c.in-Ok.ensures.ok ∙ (cloned_same nat_cmp exact_unsigned c.map.inside.pairs _ c.in_ok-pairs.ensures ∙ c.map.view_is)
