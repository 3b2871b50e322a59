use Rattle.std.proofs.Common.{sym}
use Rattle.bptree_tree.proofs.EntryLemmas.{entry_absent}
use Rattle.bptree_tree.proofs.tree.BPlusTree.get_key_value.Goals as goal

pub returns-in-Err : goal.returns-in-Err
returns-in-Err g c = sym (entry_absent g.S.K.Ord.cmp c.args.self.now.contents c.args.k.now c.in-Err.ensures.absent)
