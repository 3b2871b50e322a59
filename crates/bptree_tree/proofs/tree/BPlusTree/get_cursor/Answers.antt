use Rattle.bptree_tree.proofs.tree.BPlusTree.get_cursor.Goals as goal

pub returns-clause-cursor : goal.returns-clause-cursor
returns-clause-cursor g c = (c.in_ok-at.ensures.cursor, c.index_with_value.ensures)
