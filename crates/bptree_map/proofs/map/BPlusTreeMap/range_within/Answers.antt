use Rattle.std.proofs.Common.{◌∙◌, ap₂}
use Rattle.bptree_ranges.specs.Bounds.{between_bounds}
use Rattle.bptree_map.proofs.map.BPlusTreeMap.range_within.Goals as goal

pub returns-clause-rest : goal.returns-clause-rest
returns-clause-rest g c = λ reported. c.range_bounds.ensures.rest ∙ ap₂ (between_bounds g.K.Ord.cmp c.args.self.now) (c.start_bound.ensures reported) (c.end_bound.ensures reported)
