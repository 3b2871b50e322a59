use Rattle.std.proofs.Common.{refl, ◌∙◌}
use Rattle.bptree_rebalancing.proofs.Transfers.{entry_below, entry_fits, rotated_entry, rotated_separator, child_moved_back}
use Rattle.bptree_rebalancing.proofs.rotate_merge.undo_rotate_inners.Goals as goal

pub set_argument-requires : goal.set_argument-requires
set_argument-requires g c = entry_below c.args.node.now c.remove_at-up.new.self c.args.slot c.requires.index c.remove_at-up.ensures.after

pub insert_at-requires-clause-room : goal.insert_at-requires-clause-room
insert_at-requires-clause-room g c = (entry_fits c.args.node.now c.remove_at-up.new.self c.set_argument.new.self c.args.slot c.requires.index c.requires.most c.remove_at-up.ensures.after (rw c.set_argument.ensures.after refl)).0

pub insert_at-requires-clause-within : goal.insert_at-requires-clause-within
insert_at-requires-clause-within g c = (entry_fits c.args.node.now c.remove_at-up.new.self c.set_argument.new.self c.args.slot c.requires.index c.requires.most c.remove_at-up.ensures.after (rw c.set_argument.ensures.after refl)).1

pub returns : goal.returns
returns g c = record {
  undoes = λ was one other rotated.
      let taken = c.remove_at-up in
      let put = c.set_argument in
      let back = c.move_child-separator in
      let up = rotated_separator g.K.Ord.cmp was rotated.bare c.args.node.now taken.new.self put.new.self c.insert_at.new.self c.args.slot rotated.separator rotated.child taken.result.1 c.args.sides.right c.args.sides.left taken.result.2 put.result taken.result.0 _ _ _
      rotated.entry rotated.rotates taken.ensures.undoes put.ensures.old put.ensures.after ∙ rotated.rotates.separates in
      let same = child_moved_back c.args.giver one other c.args.left.now c.args.right.now back.new.left back.new.right rotated.separator rotated.up back.result rotated.some.0 rotated.some.1 rotated.moves (rw (c.other.ensures, up) at back.ensures) in (
        rotated_entry g.K.Ord.cmp was rotated.bare c.args.node.now taken.new.self put.new.self c.insert_at.new.self c.args.slot rotated.separator rotated.child taken.result.1 c.args.sides.right c.args.sides.left taken.result.2 put.result taken.result.0 _ _ _
            rotated.entry rotated.rotates taken.ensures.undoes put.ensures.old put.ensures.after (rw same.2 at c.insert_at.ensures),
        same.0,
        same.1,
      );
}
