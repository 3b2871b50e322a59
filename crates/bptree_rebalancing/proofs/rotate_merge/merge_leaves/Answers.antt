use Rattle.std.proofs.Common.{refl}
use Rattle.bptree_rebalancing.proofs.Transfers.{entry_out, entry_below, entry_fits, entry_returned}
use Rattle.bptree_rebalancing.proofs.rotate_merge.merge_leaves.Goals as goal

pub resummarize_leaf-requires : goal.resummarize_leaf-requires
resummarize_leaf-requires g c = record { index = entry_below c.args.node.now c.remove_at-separator.new.self c.args.slot c.requires.index c.remove_at-separator.ensures.after }

pub insert_at-requires-clause-room : goal.insert_at-requires-clause-room
insert_at-requires-clause-room g c = (entry_fits c.args.node.now c.remove_at-separator.new.self c.resummarize_leaf.new.node c.args.slot c.requires.index c.requires.most c.remove_at-separator.ensures.after (rw c.in-Err.ensures.unchanged refl)).0

pub insert_at-requires-clause-within : goal.insert_at-requires-clause-within
insert_at-requires-clause-within g c = (entry_fits c.args.node.now c.remove_at-separator.new.self c.resummarize_leaf.new.node c.args.slot c.requires.index c.requires.most c.remove_at-separator.ensures.after (rw c.in-Err.ensures.unchanged refl)).1

pub returns-in-Ok-clause-merges : goal.returns-in-Ok-clause-merges
returns-in-Ok-clause-merges g c =
    record {
      bare = c.remove_at-separator.new.self;
      child = c.remove_at-separator.result.1;
      entry = entry_out c.args.node.now c.remove_at-separator.new.self c.args.slot c.remove_at-separator.result.0 c.remove_at-separator.result.1 c.remove_at-separator.result.2 c.requires.index c.remove_at-separator.ensures.key c.remove_at-separator.ensures.child c.remove_at-separator.ensures.argument c.remove_at-separator.ensures.after;
      leaves = record { left_is = c.append_node.ensures.left; right_is = c.append_node.ensures.right };
      merges = c.in-Ok.ensures.merges;
    }

pub returns-in-Err-clause-node : goal.returns-in-Err-clause-node
returns-in-Err-clause-node g c =
    entry_returned c.args.node.now c.remove_at-separator.new.self c.resummarize_leaf.new.node c.insert_at.new.self c.args.slot c.remove_at-separator.result.0 c.remove_at-separator.result.1 c.remove_at-separator.result.2 c.requires.index c.remove_at-separator.ensures.key c.remove_at-separator.ensures.child c.remove_at-separator.ensures.argument c.remove_at-separator.ensures.after c.in-Err.ensures.unchanged c.insert_at.ensures
