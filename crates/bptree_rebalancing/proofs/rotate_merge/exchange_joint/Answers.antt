use Rattle.std.proofs.Common.{refl, sym, ◌∙◌}
use Rattle.bptree_rebalancing.proofs.Transfers.{joint_exchanged, get_behind}
use Rattle.bptree_rebalancing.proofs.rotate_merge.exchange_joint.Goals as goal

pub returns : goal.returns
returns g c =
    let key = c.set_key-separator in
    let left = c.set_argument-left in
    let right = c.set_argument-right in
    joint_exchanged c.args.node.now right.new.self c.args.slot c.args.joint (record { left = left.result; separator = key.result; right = right.result }) c.requires.index key.ensures.old (rw key.ensures.after at left.ensures.old)
    (sym (get_behind c.args.node.now.arguments c.args.slot c.args.joint.left) ∙ (rw (left.ensures.after, key.ensures.after) at right.ensures.old)) (right.ensures.after ∙ rw (left.ensures.after, key.ensures.after) refl)
