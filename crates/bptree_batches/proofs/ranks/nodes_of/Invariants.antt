use Rattle.std.proofs.Common.{◌≡◌, ◌-◌, ◌≤◌, ℕ, length, take}
use Rattle.bptree_keys.specs.declared.node_id.NodeId.{NodeId}
use Rattle.bptree_batches.specs.Each.{result_each}
use Rattle.bptree_batches.proofs.ranks.nodes_of.Given as goal

abbrev pub invariant-ways : goal.invariant-ways
invariant-ways l = record {
  within : l.at ≤ length l.ways;
  nodes : l.nodes ≡ result_each (λ (way : NodeId × ℕ) old. way.0) (take l.at l.ways) l.fn.nodes;
}

abbrev pub decreases-ways : goal.decreases-ways
decreases-ways l = length l.ways - l.at
