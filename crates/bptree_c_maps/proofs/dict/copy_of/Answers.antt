use Rattle.std.proofs.Common.{◌∙◌}
use Rattle.std.proofs.lemmas.Map.Lookups.{exact_bytes}
use Rattle.bptree_c_maps.specs.ByteKeys.{by_bytes}
use Rattle.bptree_c_maps.proofs.CloneLemmas.{cloned_same}
use Rattle.bptree_c_maps.proofs.dict.copy_of.Goals as goal

pub returns-in-Ok : goal.returns-in-Ok
returns-in-Ok c = c.in-Ok.ensures.ok ∙ (cloned_same by_bytes exact_bytes c.dict.inside.pairs _ c.in_ok-pairs.ensures ∙ c.dict.view_is)
