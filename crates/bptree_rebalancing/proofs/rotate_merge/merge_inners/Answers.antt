use Rattle.std.proofs.Common.{refl, arith}
use Rattle.bptree_rebalancing.proofs.Transfers.{entry_out, entry_below, entry_fits, entry_returned, inners_unmerged}
use Rattle.bptree_rebalancing.proofs.rotate_merge.merge_inners.Goals as goal

pub ask_inner-requires : goal.ask_inner-requires
ask_inner-requires g c = record { index = entry_below c.args.node.now c.remove_at-separator.new.self c.args.slot c.requires.index c.remove_at-separator.ensures.after }

pub insert_at-requires-clause-room : goal.insert_at-requires-clause-room
insert_at-requires-clause-room g c = (entry_fits c.args.node.now c.remove_at-separator.new.self c.ask_inner.new.node c.args.slot c.requires.index c.requires.most c.remove_at-separator.ensures.after (rw c.in-Err.ensures.unchanged refl)).0

pub insert_at-requires-clause-within : goal.insert_at-requires-clause-within
insert_at-requires-clause-within g c = (entry_fits c.args.node.now c.remove_at-separator.new.self c.ask_inner.new.node c.args.slot c.requires.index c.requires.most c.remove_at-separator.ensures.after (rw c.in-Err.ensures.unchanged refl)).1

pub returns-in-Ok-clause-merges : goal.returns-in-Ok-clause-merges
returns-in-Ok-clause-merges g c =
    record {
      bare = c.remove_at-separator.new.self;
      child = c.remove_at-separator.result.1;
      separator = c.remove_at-separator.result.0;
      long = let fits = c.len-kept.ensures.fits in (omega (arith, c.requires.left, fits.children), fits.arguments);
      entry = entry_out c.args.node.now c.remove_at-separator.new.self c.args.slot c.remove_at-separator.result.0 c.remove_at-separator.result.1 c.remove_at-separator.result.2 c.requires.index c.remove_at-separator.ensures.key c.remove_at-separator.ensures.child c.remove_at-separator.ensures.argument c.remove_at-separator.ensures.after;
      nodes = record { left_is = c.append_node.ensures.left; right_is = c.append_node.ensures.right };
      merges = c.in-Ok.ensures.merges;
    }

pub returns-in-Err-clause-node : goal.returns-in-Err-clause-node
returns-in-Err-clause-node g c =
    let given = c.move_tail_to-separator in
    let fits = c.len-kept.ensures.fits in
    let same = inners_unmerged c.args.left.now c.args.right.now c.append_node.new.self c.append_node.new.right given.new.self given.new.right c.remove_at-separator.result.0 given.result c.len-kept.result (record { left_is = c.append_node.ensures.left; right_is = c.append_node.ensures.right }) c.len-kept.ensures.value
    (omega (arith, c.requires.left, fits.children, c.len-kept.ensures.value)) (omega (arith, c.requires.left, fits.children, fits.arguments, c.len-kept.ensures.value)) given.ensures.left given.ensures.promoted given.ensures.right in
    entry_returned c.args.node.now c.remove_at-separator.new.self c.ask_inner.new.node c.insert_at.new.self c.args.slot c.remove_at-separator.result.0 c.remove_at-separator.result.1 c.remove_at-separator.result.2 c.requires.index c.remove_at-separator.ensures.key c.remove_at-separator.ensures.child c.remove_at-separator.ensures.argument c.remove_at-separator.ensures.after c.in-Err.ensures.unchanged (rw same.2 at c.insert_at.ensures)

pub returns-in-Err-clause-left : goal.returns-in-Err-clause-left
returns-in-Err-clause-left g c =
    let given = c.move_tail_to-separator in
    let fits = c.len-kept.ensures.fits in
    (inners_unmerged c.args.left.now c.args.right.now c.append_node.new.self c.append_node.new.right given.new.self given.new.right c.remove_at-separator.result.0 given.result c.len-kept.result (record { left_is = c.append_node.ensures.left; right_is = c.append_node.ensures.right }) c.len-kept.ensures.value
    (omega (arith, c.requires.left, fits.children, c.len-kept.ensures.value)) (omega (arith, c.requires.left, fits.children, fits.arguments, c.len-kept.ensures.value)) given.ensures.left given.ensures.promoted given.ensures.right).0

pub returns-in-Err-clause-right : goal.returns-in-Err-clause-right
returns-in-Err-clause-right g c =
    let given = c.move_tail_to-separator in
    let fits = c.len-kept.ensures.fits in
    (inners_unmerged c.args.left.now c.args.right.now c.append_node.new.self c.append_node.new.right given.new.self given.new.right c.remove_at-separator.result.0 given.result c.len-kept.result (record { left_is = c.append_node.ensures.left; right_is = c.append_node.ensures.right }) c.len-kept.ensures.value
    (omega (arith, c.requires.left, fits.children, c.len-kept.ensures.value)) (omega (arith, c.requires.left, fits.children, fits.arguments, c.len-kept.ensures.value)) given.ensures.left given.ensures.promoted given.ensures.right).1
