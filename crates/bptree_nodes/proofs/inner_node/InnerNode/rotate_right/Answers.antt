use Rattle.std.proofs.Common.{[], ◌∷◌, ap, arith, length, sym, append_assoc}
use Rattle.std.proofs.lemmas.List.{length_push}
use Rattle.bptree_nodes.proofs.inner_node.InnerNode.rotate_right.Goals as goal

pub returns-clause-keys : goal.returns-clause-keys
returns-clause-keys g c = rw (c.pop-up.ensures.key, c.push_front.ensures) (sym (append_assoc _ (c.pop-up.result.0 ∷ []) _))

pub returns-clause-children : goal.returns-clause-children
returns-clause-children g c = rw (c.pop-up.ensures.child, c.push_front.ensures) (sym (append_assoc _ (c.pop-up.result.1 ∷ []) _))

pub returns-clause-arguments : goal.returns-clause-arguments
returns-clause-arguments g c = rw (c.pop-up.ensures.argument, c.push_front.ensures) (sym (append_assoc _ (c.pop-up.result.2 ∷ []) _))

pub returns-clause-left_len : goal.returns-clause-left_len
returns-clause-left_len g c = omega (arith, ap length c.pop-up.ensures.key, length_push c.pop-up.new.self.keys c.pop-up.result.0)

pub returns-clause-right_len : goal.returns-clause-right_len
returns-clause-right_len g c = omega (arith, ap (λ node. length node.keys) c.push_front.ensures)

pub returns-clause-left : goal.returns-clause-left
returns-clause-left g c = (c.recall-3.ensures, c.recall.ensures)

pub returns-clause-right : goal.returns-clause-right
returns-clause-right g c = (c.recall-4.ensures, c.recall-2.ensures)
