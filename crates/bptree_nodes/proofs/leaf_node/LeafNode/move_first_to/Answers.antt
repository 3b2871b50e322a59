use Rattle.std.proofs.Common.{sym, ◌∙◌, arith}
use Rattle.bptree_nodes.proofs.Pairs.{append_pairs}
use Rattle.bptree_nodes.proofs.leaf_node.LeafNode.move_first_to.Goals as goal

pub returns-clause-parts : goal.returns-clause-parts
returns-clause-parts g c =
    let keys = c.move_first in
    let values = c.move_first-2 in
    let left = c.left.inside in
    let right = c.self.inside in
    rw (← c.left.view_is, ← c.self.view_is) (sym (append_pairs keys.new.to.items keys.new.from.items values.new.to.items values.new.from.items (omega arith))
    ∙ rw (keys.ensures.parts, values.ensures.parts) (append_pairs left.keys.items right.keys.items left.values.items right.values.items (omega arith)))
