use Rattle.bptree_rebalancing.proofs.Transfers.{joint_back}
use Rattle.bptree_rebalancing.proofs.rotate_merge.take_joint.Goals as goal

pub returns-in-Err-clause-unchanged : goal.returns-in-Err-clause-unchanged
returns-in-Err-clause-unchanged g c =
    let put = c.exchange_joint-before in
    let x = put.ensures in
    joint_back c.args.node.now x.bare put.new.node c.exchange_joint.new.node c.args.slot x.child put.result c.args.joint c.exchange_joint.result x.entry x.summary x.is c.exchange_joint.ensures
