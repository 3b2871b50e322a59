use Rattle.std.proofs.Common.{[], append-nil, arith, sym}
use Rattle.bptree_tree.proofs.tree.BPlusTree.take_last.Goals as goal

pub pairs-init : goal.pairs-init
pairs-init g c = record {
  taken = [];
  are = record { all = sym (append-nil c.args.self.now.contents); sum = omega arith; moved = sym (append-nil c.args.pairs.now.items) };
  room = c.requires.room;
}
