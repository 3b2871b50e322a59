use Rattle.std.proofs.Common.{ap}
use Rattle.bptree_unit_tests.proofs.callers.leaf.links_a_split.Goals as goal

pub returns-clause-left : goal.returns-clause-left
returns-clause-left g c = (ap (λ l. l.prev) c.split_new_leaf-right.ensures.left, ap (λ l. l.next) c.split_new_leaf-right.ensures.left)

pub returns-clause-right : goal.returns-clause-right
returns-clause-right g c = (ap (λ l. l.prev) c.split_new_leaf-right.ensures.right, ap (λ l. l.next) c.split_new_leaf-right.ensures.right)
