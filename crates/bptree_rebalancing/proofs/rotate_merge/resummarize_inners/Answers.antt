use Rattle.std.proofs.Common.{refl}
use Rattle.bptree_rebalancing.proofs.rotate_merge.resummarize_inners.Goals as goal

pub returns-in-Ok-insert_child_entry-clause-rotates : goal.returns-in-Ok-insert_child_entry-clause-rotates
returns-in-Ok-insert_child_entry-clause-rotates g c =
    let put = c.in-Ok-insert_child_entry.ensures in
    record {
      left = c.in-Ok.left;
      separator = c.args.separator;
      right = c.in-Ok-from_inner.right;
      is = put.after;
      summary = put.old;
      reported_left = rw c.arguments.ensures.value at c.in-Ok.ensures.summary;
      separates = refl;
      reported_right = rw c.arguments-2.ensures.value at c.in-Ok-from_inner.ensures.summary;
    }
