use Rattle.std.proofs.Common.{ap, length}
use Rattle.std.proofs.iter.runs.Sources.{from_front}
use Rattle.std.specs.Map.Iter.{TakesFirst, deref_pair}
use Rattle.bptree_keys.specs.Ranges.{part_at}
use Rattle.bptree_tree.proofs.tree.BPlusTree.range_by_argument.Goals as goal

pub pairs_from-requires : goal.pairs_from-requires
pairs_from-requires g c = (part_at c.self.inside.nodes.contents c.in_ok-part.ensures.part.0 c.args.n, c.in_ok-part.ensures.part.3)

pub returns-clause-rest : goal.returns-clause-rest
returns-clause-rest g c = rw (← c.self.view_is) ((c.in_ok-part.ensures.part.0, c.in_ok-part.ensures.part.1, c.in_ok-part.ensures.part.2, c.pairs_from.ensures.rest _ (c.in_ok-part.ensures.part.3)))

-- each step gives the first of what is left
pub returns-in_err-part-clause-runs : goal.returns-in_err-part-clause-runs
returns-in_err-part-clause-runs g c = from_front (TakesFirst deref_pair) deref_pair (λ s. s) (λ s t h. ap length h.0) (λ s x t h. h)
