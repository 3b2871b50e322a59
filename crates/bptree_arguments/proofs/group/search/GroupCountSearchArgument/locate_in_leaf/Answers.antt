use Rattle.std.proofs.Common.{arith}
use Rattle.std.proofs.lemmas.Result.{IfOk-from_err}
use Rattle.bptree_arguments.proofs.GroupSelectLemmas.{leaf_past, leaf_other, leaf_item}
use Rattle.bptree_arguments.proofs.group.search.GroupCountSearchArgument.locate_in_leaf.Goals as goal
use Rattle.bptree_arguments.proofs.group.search.GroupCountSearchArgument.locate_in_leaf.Goals.{then-offset-keys+in_ok-of_key+else-is_eq, else-offset-keys}

pub returns-then-is_eq-clause-selected : goal.returns-then-is_eq-clause-selected
returns-then-is_eq-clause-selected g c = λ ascending.
    leaf_item g.K.Ord.cmp g.G.Ord.cmp g.G.FromRef.group_of g.met.G.FromRef.keeps_order g.met.G.Ord.total c.args.query.0 c.args.keys.now ascending c.in_ok-start.start (c.in_ok-start.ensures.border ascending) c.args.query.1 c.if-offset-keys.true c.index-keys-index.result c.index-keys-index.is c.in_ok-of_key.of_key c.in_ok-of_key.ensures c.cmp.result c.cmp.ensures c.is_eq.result c.is_eq.ensures c.if-is_eq.true

pub returns-clause-selected : goal.returns-clause-selected
returns-clause-selected g c = λ ascending.
    elim c.if-offset-keys.branch [
      | then-offset-keys+in_ok-of_key+else-is_eq w ↦ leaf_other g.K.Ord.cmp g.G.Ord.cmp g.G.FromRef.group_of g.met.G.FromRef.keeps_order g.met.G.Ord.total c.args.query.0 c.args.keys.now ascending c.in_ok-start.start (c.in_ok-start.ensures.border ascending) c.args.query.1 w.if-offset-keys.true w.index-keys-index.result w.index-keys-index.is w.in_ok-of_key.of_key w.in_ok-of_key.ensures w.cmp.result w.cmp.ensures w.is_eq.result w.is_eq.ensures w.if-is_eq.false
      | else-offset-keys w ↦ leaf_past g.K.Ord.cmp g.G.Ord.cmp g.G.FromRef.group_of g.met.G.FromRef.keeps_order g.met.G.Ord.total c.args.query.0 c.args.keys.now ascending c.in_ok-start.start (c.in_ok-start.ensures.border ascending) c.args.query.1 w.if-offset-keys.false
    ]

pub returns-in_err-start-clause-in_range : goal.returns-in_err-start-clause-in_range
returns-in_err-start-clause-in_range g c = IfOk-from_err c.from_residual.result _ c.from_residual.ensures.0

pub returns-in_err-start-clause-selected : goal.returns-in_err-start-clause-selected
returns-in_err-start-clause-selected g c = IfOk-from_err c.from_residual.result _ c.from_residual.ensures.0

pub returns-in_err-of_key-clause-in_range : goal.returns-in_err-of_key-clause-in_range
returns-in_err-of_key-clause-in_range g c = IfOk-from_err c.from_residual-in_err-of_key.result _ c.from_residual-in_err-of_key.ensures.0

pub returns-in_err-of_key-clause-selected : goal.returns-in_err-of_key-clause-selected
returns-in_err-of_key-clause-selected g c = IfOk-from_err c.from_residual-in_err-of_key.result _ c.from_residual-in_err-of_key.ensures.0

pub returns-then-is_eq-clause-in_range : goal.returns-then-is_eq-clause-in_range
returns-then-is_eq-clause-in_range g c = omega (arith, c.if-offset-keys.true)

pub overflow_sub-keys : goal.overflow_sub-keys
overflow_sub-keys g c = omega (arith, c.in_ok-start.ensures.in_range)
