use Rattle.bptree_propagation.proofs.NodeChanges.{sum_back}
use Rattle.bptree_propagation.proofs.node_changes.resum.Goals as goal

pub returns-in-Err-clause-unchanged : goal.returns-in-Err-clause-unchanged
returns-in-Err-clause-unchanged g c =
    let put = c.set_argument-old in
    let back = c.set_argument in
    (sum_back c.args.node.now put.new.self back.new.self c.args.index c.args.summary put.result back.result put.ensures.after c.requires.index put.ensures.old back.ensures.old back.ensures.after).0

pub returns-in-Err-clause-returned : goal.returns-in-Err-clause-returned
returns-in-Err-clause-returned g c =
    let put = c.set_argument-old in
    let back = c.set_argument in
    (sum_back c.args.node.now put.new.self back.new.self c.args.index c.args.summary put.result back.result put.ensures.after c.requires.index put.ensures.old back.ensures.old back.ensures.after).1
