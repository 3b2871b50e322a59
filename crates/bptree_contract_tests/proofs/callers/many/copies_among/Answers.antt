use Rattle.bptree_contract_tests.proofs.ReturnsAt.{found_value, missed_value}
use Rattle.bptree_contract_tests.proofs.callers.many.copies_among.Goals as goal

pub returns-then-found-at : goal.returns-then-found-at
returns-then-found-at g c = λ k key.
    found_value g.S.K.Ord.cmp c.args.tree.now.contents c.args.keys.now c.args.at k key c.args.values.now c.copy_many.new.values c.copy_many.new.marks c.index-values-at.result
    (rw c.nodes.ensures at c.copy_many.ensures.values) (rw c.nodes.ensures at c.copy_many.ensures.marks) c.requires.values c.if-found-at.true c.index-values-at.is

pub returns-else-found-at : goal.returns-else-found-at
returns-else-found-at g c = λ k key.
    missed_value g.S.K.Ord.cmp c.args.tree.now.contents c.args.keys.now c.args.at k key c.copy_many.new.marks (rw c.nodes.ensures at c.copy_many.ensures.marks) c.if-found-at.false
