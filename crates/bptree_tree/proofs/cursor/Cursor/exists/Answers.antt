use Rattle.std.proofs.Common.{sym}
use Rattle.bptree_tree.specs.Cursor.{cursor_key}
use Rattle.bptree_tree.proofs.Counted.{has_read}
use Rattle.bptree_tree.proofs.cursor.Cursor.exists.Goals as goal

pub returns : goal.returns
returns g c = sym (has_read g.K.Ord.cmp c.args.tree.now.contents (cursor_key c.args.self.now) c.value.result c.is_some.result c.value.ensures (sym c.is_some.ensures))
