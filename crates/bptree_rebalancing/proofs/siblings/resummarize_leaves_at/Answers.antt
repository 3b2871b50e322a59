use Rattle.bptree_rebalancing.proofs.Triples.{ok_so}
use Rattle.bptree_rebalancing.proofs.siblings.resummarize_leaves_at.Goals as goal

pub returns-clause-resummarizes : goal.returns-clause-resummarizes
returns-clause-resummarizes g c =
    let above = c.get_mut_inner in
    ok_so c.take_joint.result _ _ c.take_joint.ensures.exchanges
    (λ done x. record {
      node = above.result.now;
      one = c.get_leaf.result.now;
      other = c.get_leaf-2.result.now;
      node' = c.take_joint.new.node;
      at_node = above.ensures.value;
      at_left = c.get_leaf.ensures;
      at_right = c.get_leaf-2.ensures;
      updates = g.met.S.NodeStore.with_inner_updates c.args.store.now c.args.id.0 c.take_joint.new.node (rw above.ensures.value tt);
      most = rw above.ensures.value at c.requires.most;
      reported = c.in_ok-joint.joint;
      reports = c.in_ok-joint.ensures.sums;
      exchanges = x;
    })
