use Rattle.std.proofs.Common.{◌≡◌}
use Rattle.bptree_nodes.proofs.inner_node.all_of.Given as goal

abbrev pub invariant-take : goal.invariant-take
invariant-take g l = l.all.items ≡ l.yielded
