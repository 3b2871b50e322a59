use Rattle.std.proofs.Common.{arith}
use Rattle.bptree_rebalancing.proofs.Transfers.{merged_entry, inners_unmerged}
use Rattle.bptree_rebalancing.proofs.rotate_merge.undo_merge_inners.Goals as goal

pub returns : goal.returns
returns g c = record {
  undoes = λ was one other merged read kept.
      let put = c.set_argument in
      let given = c.move_tail_to-separator in
      let same = inners_unmerged one other c.args.left.now c.args.right.now given.new.self given.new.right merged.separator given.result c.args.kept merged.nodes kept (omega (arith, kept, merged.long.0)) (omega (arith, kept, merged.long.0, merged.long.1)) given.ensures.left given.ensures.promoted given.ensures.right in (
        merged_entry was merged.bare c.args.node.now put.new.self c.insert_at.new.self c.args.slot merged.separator merged.child c.args.child c.args.sides.right c.args.sides.left put.result _
            merged.entry merged.merges put.ensures.old put.ensures.after read (rw same.2 at c.insert_at.ensures),
        same.0,
        same.1,
      );
}
