use Rattle.std.proofs.Common.{refl}
use Rattle.bptree_rebalancing.proofs.Transfers.{entry_out, entry_fits, entry_returned, children_left, child_moved_back}
use Rattle.bptree_rebalancing.proofs.rotate_merge.rotate_inners.Goals as goal

pub resummarize_inners-requires-clause-index : goal.resummarize_inners-requires-clause-index
resummarize_inners-requires-clause-index g c =
    (entry_out c.args.node.now c.remove_at-separator.new.self c.args.slot c.remove_at-separator.result.0 c.remove_at-separator.result.1 c.remove_at-separator.result.2 c.requires.index c.remove_at-separator.ensures.key c.remove_at-separator.ensures.child c.remove_at-separator.ensures.argument c.remove_at-separator.ensures.after).index

pub resummarize_inners-requires-clause-room : goal.resummarize_inners-requires-clause-room
resummarize_inners-requires-clause-room g c = (entry_fits c.args.node.now c.remove_at-separator.new.self c.remove_at-separator.new.self c.args.slot c.requires.index c.requires.most c.remove_at-separator.ensures.after refl).0

pub move_child-separator-requires-clause-left : goal.move_child-separator-requires-clause-left
move_child-separator-requires-clause-left g c = (children_left c.args.giver c.args.left.now c.args.right.now c.move_child-up.new.left c.move_child-up.new.right c.remove_at-separator.result.0 c.move_child-up.result c.requires.left c.requires.right c.move_child-up.ensures).0

pub move_child-separator-requires-clause-right : goal.move_child-separator-requires-clause-right
move_child-separator-requires-clause-right g c = (children_left c.args.giver c.args.left.now c.args.right.now c.move_child-up.new.left c.move_child-up.new.right c.remove_at-separator.result.0 c.move_child-up.result c.requires.left c.requires.right c.move_child-up.ensures).1

pub insert_at-requires-clause-room : goal.insert_at-requires-clause-room
insert_at-requires-clause-room g c = (entry_fits c.args.node.now c.remove_at-separator.new.self c.resummarize_inners.new.node c.args.slot c.requires.index c.requires.most c.remove_at-separator.ensures.after (rw c.in-Err.ensures.unchanged refl)).0

pub insert_at-requires-clause-within : goal.insert_at-requires-clause-within
insert_at-requires-clause-within g c = (entry_fits c.args.node.now c.remove_at-separator.new.self c.resummarize_inners.new.node c.args.slot c.requires.index c.requires.most c.remove_at-separator.ensures.after (rw c.in-Err.ensures.unchanged refl)).1

pub returns-in-Ok-clause-rotates : goal.returns-in-Ok-clause-rotates
returns-in-Ok-clause-rotates g c =
    record {
      bare = c.remove_at-separator.new.self;
      child = c.remove_at-separator.result.1;
      up = c.move_child-up.result;
      separator = c.remove_at-separator.result.0;
      some = (c.requires.left, c.requires.right);
      entry = entry_out c.args.node.now c.remove_at-separator.new.self c.args.slot c.remove_at-separator.result.0 c.remove_at-separator.result.1 c.remove_at-separator.result.2 c.requires.index c.remove_at-separator.ensures.key c.remove_at-separator.ensures.child c.remove_at-separator.ensures.argument c.remove_at-separator.ensures.after;
      moves = c.move_child-up.ensures;
      rotates = c.in-Ok.ensures.rotates;
    }

pub returns-in-Err-clause-node : goal.returns-in-Err-clause-node
returns-in-Err-clause-node g c =
    let moved = c.move_child-up in
    let back = c.move_child-separator in
    let same = child_moved_back c.args.giver c.args.left.now c.args.right.now moved.new.left moved.new.right back.new.left back.new.right c.remove_at-separator.result.0 moved.result back.result c.requires.left c.requires.right moved.ensures (rw (c.other.ensures, c.in-Err.ensures.returned) at back.ensures) in
    entry_returned c.args.node.now c.remove_at-separator.new.self c.resummarize_inners.new.node c.insert_at.new.self c.args.slot c.remove_at-separator.result.0 c.remove_at-separator.result.1 c.remove_at-separator.result.2 c.requires.index c.remove_at-separator.ensures.key c.remove_at-separator.ensures.child c.remove_at-separator.ensures.argument c.remove_at-separator.ensures.after c.in-Err.ensures.unchanged (rw same.2 at c.insert_at.ensures)

pub returns-in-Err-clause-left : goal.returns-in-Err-clause-left
returns-in-Err-clause-left g c =
    let moved = c.move_child-up in
    let back = c.move_child-separator in
    (child_moved_back c.args.giver c.args.left.now c.args.right.now moved.new.left moved.new.right back.new.left back.new.right c.remove_at-separator.result.0 moved.result back.result c.requires.left c.requires.right moved.ensures (rw (c.other.ensures, c.in-Err.ensures.returned) at back.ensures)).0

pub returns-in-Err-clause-right : goal.returns-in-Err-clause-right
returns-in-Err-clause-right g c =
    let moved = c.move_child-up in
    let back = c.move_child-separator in
    (child_moved_back c.args.giver c.args.left.now c.args.right.now moved.new.left moved.new.right back.new.left back.new.right c.remove_at-separator.result.0 moved.result back.result c.requires.left c.requires.right moved.ensures (rw (c.other.ensures, c.in-Err.ensures.returned) at back.ensures)).1
