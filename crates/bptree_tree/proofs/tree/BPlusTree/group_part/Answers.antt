use Rattle.std.proofs.Common.{ap, length}
use Rattle.std.proofs.iter.runs.Sources.{from_front}
use Rattle.std.specs.Map.Iter.{TakesFirst, deref_pair}
use Rattle.bptree_arguments.specs.Groups.{of_group}
use Rattle.bptree_keys.specs.Ranges.{part}
use Rattle.bptree_tree.proofs.tree.BPlusTree.group_part.Goals as goal

pub pairs_from-requires : goal.pairs_from-requires
pairs_from-requires g c = (part (of_group g.G.Ord.cmp g.G.FromRef.group_of c.args.group.now c.self.inside.nodes.contents) c.args.i c.args.n, c.in_ok-part.ensures)

pub returns-clause-rest : goal.returns-clause-rest
returns-clause-rest g c = rw (← c.self.view_is) (c.pairs_from.ensures.rest _ (c.in_ok-part.ensures))

-- each step gives the first of what is left
pub returns-in_err-part-clause-runs : goal.returns-in_err-part-clause-runs
returns-in_err-part-clause-runs g c = from_front (TakesFirst deref_pair) deref_pair (λ s. s) (λ s t h. ap length h.0) (λ s x t h. h)
