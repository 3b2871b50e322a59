use Rattle.bptree_tree.specs.Entries.{entries_within}
use Rattle.bptree_tree.proofs.tree.BPlusTree.range_bounds.Goals as goal

pub pairs_from-requires : goal.pairs_from-requires
pairs_from-requires g c = (entries_within g.S.K.Ord.cmp c.self.inside.nodes.contents c.args.lo c.args.hi, c.part_between_bounds-part.ensures)

pub returns-clause-rest : goal.returns-clause-rest
returns-clause-rest g c = rw (← c.self.view_is) (c.pairs_from.ensures.rest _ (c.part_between_bounds-part.ensures))
