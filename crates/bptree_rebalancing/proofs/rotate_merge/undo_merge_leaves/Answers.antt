use Rattle.bptree_rebalancing.proofs.Transfers.{merged_entry, leaf_cut, leaves_unmerged}
use Rattle.bptree_rebalancing.proofs.rotate_merge.undo_merge_leaves.Goals as goal

pub returns : goal.returns
returns g c = record {
  undoes = λ was one other merged read kept next.
      let put = c.set_argument in
      let given = c.move_tail_to in
      let leaves = leaves_unmerged one other c.args.left.now c.args.right.now c.set_next.new.self given.new.right c.args.kept merged.leaves kept (leaf_cut c.args.left.now given.new.self c.set_next.new.self c.args.kept c.args.next one.next given.ensures.left c.set_next.ensures next) given.ensures.right in (
        merged_entry was merged.bare c.args.node.now put.new.self c.insert_at.new.self c.args.slot c.args.joint.separator merged.child c.args.child c.args.joint.right c.args.joint.left put.result _
            merged.entry merged.merges put.ensures.old put.ensures.after read c.insert_at.ensures,
        leaves.0,
        leaves.1,
      );
}
