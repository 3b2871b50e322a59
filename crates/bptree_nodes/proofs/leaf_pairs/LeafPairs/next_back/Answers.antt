use Rattle.std.proofs.Common.{sym, ◌∙◌}
use Rattle.bptree_nodes.proofs.Pairs.{last_pair}
use Rattle.bptree_nodes.proofs.leaf_pairs.LeafPairs.next_back.Goals as goal

pub returns : goal.returns
returns g c = sym c.self.view_is ∙ last_pair _ _ _ _ _ _ c.in_ok-key.ensures.steps c.in_ok-value.ensures.steps c.self.invariant
