use Rattle.std.proofs.Common.{◌∙◌}
use Rattle.bptree_contract_tests.proofs.ReturnsAt.{found_at, value_kept}
use Rattle.bptree_contract_tests.proofs.callers.many.keeps_value.Goals as goal

pub returns-clause-kept : goal.returns-clause-kept
returns-clause-kept g c = λ k key absent.
    value_kept g.S.K.Ord.cmp c.args.tree.now.contents c.args.keys.now c.args.at k key c.args.values.now c.copy_many.new.values (rw c.nodes.ensures at c.copy_many.ensures.values) c.requires.values absent

pub returns-clause-absent : goal.returns-clause-absent
returns-clause-absent g c = λ k key absent.
    found_at g.S.K.Ord.cmp c.args.tree.now.contents c.args.keys.now c.args.at k key c.copy_many.new.marks (rw c.nodes.ensures at c.copy_many.ensures.marks) ∙ absent
