use Rattle.std.proofs.Common.{ℕ, refl, arith}
use Rattle.bptree_keys.specs.declared.node_id.NodeId.{NodeId}
use Rattle.bptree_keys.specs.declared.node_id.NodeId.TheVariants.{Inner}
use Rattle.bptree_batches.proofs.EachLemmas.{returned_more, all_returned}
use Rattle.bptree_batches.proofs.ranks.nodes_of.Goals as goal

pub ways-preserved : goal.ways-preserved
ways-preserved c =
    record {
      within = omega arith;
      nodes = returned_more (λ (way : NodeId × ℕ) old. way.0) c.args.ways.now c.args.nodes.now c.ways.nodes c.ways.at (Inner record { 0 = 0 }, 0) _ c.ways.invariant.nodes c.ways-test.true c.requires (λ old. refl);
    }

pub returns : goal.returns
returns c = all_returned (λ (way : NodeId × ℕ). way.0) c.args.ways.now c.args.nodes.now c.ways.nodes c.ways.at c.ways.invariant.nodes (omega arith) c.requires
