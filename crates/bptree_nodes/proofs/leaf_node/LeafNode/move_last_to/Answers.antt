use Rattle.std.proofs.Common.{sym, ◌∙◌, arith}
use Rattle.bptree_nodes.proofs.Pairs.{append_pairs}
use Rattle.bptree_nodes.proofs.leaf_node.LeafNode.move_last_to.Goals as goal

pub returns-clause-parts : goal.returns-clause-parts
returns-clause-parts g c =
    let keys = c.move_last in
    let values = c.move_last-2 in
    let left = c.self.inside in
    let right = c.right.inside in
    rw (← c.self.view_is, ← c.right.view_is) (sym (append_pairs keys.new.from.items keys.new.to.items values.new.from.items values.new.to.items (omega arith))
    ∙ rw (keys.ensures.parts, values.ensures.parts) (append_pairs left.keys.items right.keys.items left.values.items right.values.items (omega arith)))
