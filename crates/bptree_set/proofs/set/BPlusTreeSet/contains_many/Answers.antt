use Rattle.std.proofs.Common.{◌∙◌}
use Rattle.bptree_map.proofs.ManyLemmas.{found_held}
use Rattle.bptree_set.proofs.set.BPlusTreeSet.contains_many.Goals as goal

pub returns : goal.returns
returns g c = rw (← c.self.view_is) (c.contains_many.ensures ∙ found_held g.K.Ord.cmp c.self.inside.map c.args.keys.now)
