use Rattle.std.proofs.Common.{◌∙◌}
use Rattle.bptree_map.proofs.map.BPlusTreeMap.group_part.Goals as goal

pub returns-clause-rest : goal.returns-clause-rest
returns-clause-rest g c = rw (← c.self.view_is) (c.new.ensures ∙ c.in_ok-group_part.ensures.rest)
