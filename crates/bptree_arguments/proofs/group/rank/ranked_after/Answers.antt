use Rattle.std.proofs.Common.{arith, ap, length}
use Rattle.std.proofs.lemmas.Result.{IfOk-from_err}
use Rattle.bptree_arguments.proofs.GroupRankLemmas.{carried_alike, ranked_in_leaf, ranked_with_carried}
use Rattle.bptree_arguments.proofs.group.rank.ranked_after.Goals as goal

pub returns-then-start-gt0-clause-counted : goal.returns-then-start-gt0-clause-counted
returns-then-start-gt0-clause-counted g c = λ before ascending below fits stored.
    ranked_in_leaf g.K.Ord.cmp g.G.Ord.cmp g.G.FromRef.group_of g.met.G.FromRef.keeps_order g.met.G.Ord.total c.args.k.now c.in_ok-group.group c.in_ok-group.ensures c.args.smaller.now c.in_ok-start.start c.in_ok-start.ensures.in_range c.in_ok-start.ensures.border before ascending below c.if-start-gt0.true

pub returns-clause-counted : goal.returns-clause-counted
returns-clause-counted g c = λ before ascending below fits stored.
    rw c.saturating_add.ensures
    (ranked_with_carried g.K.Ord.cmp g.G.Ord.cmp g.G.FromRef.group_of g.met.G.FromRef.keeps_order g.met.G.Ord.total c.args.k.now c.in_ok-group.group c.in_ok-group.ensures c.args.smaller.now c.in_ok-start.start c.in_ok-start.ensures.in_range c.in_ok-start.ensures.border before ascending below c.args.rank c.carried_for-before.result fits stored c.if-start-gt0.false c.carried_for-before.ensures)

pub returns-in_err-group-clause-group : goal.returns-in_err-group-clause-group
returns-in_err-group-clause-group g c = IfOk-from_err c.from_residual.result _ c.from_residual.ensures.0

pub returns-in_err-group-clause-counted : goal.returns-in_err-group-clause-counted
returns-in_err-group-clause-counted g c = IfOk-from_err c.from_residual.result _ c.from_residual.ensures.0

pub returns-in_err-group-clause-empty : goal.returns-in_err-group-clause-empty
returns-in_err-group-clause-empty g c = λ none. IfOk-from_err c.from_residual.result _ c.from_residual.ensures.0

pub returns-in_err-start-clause-group : goal.returns-in_err-start-clause-group
returns-in_err-start-clause-group g c = IfOk-from_err c.from_residual-in_err-start.result _ c.from_residual-in_err-start.ensures.0

pub returns-in_err-start-clause-counted : goal.returns-in_err-start-clause-counted
returns-in_err-start-clause-counted g c = IfOk-from_err c.from_residual-in_err-start.result _ c.from_residual-in_err-start.ensures.0

pub returns-in_err-start-clause-empty : goal.returns-in_err-start-clause-empty
returns-in_err-start-clause-empty g c = λ none. IfOk-from_err c.from_residual-in_err-start.result _ c.from_residual-in_err-start.ensures.0

pub overflow_sub-count : goal.overflow_sub-count
overflow_sub-count g c = omega (arith, c.in_ok-start.ensures.in_range)

pub returns-then-start-gt0-clause-group : goal.returns-then-start-gt0-clause-group
returns-then-start-gt0-clause-group g c = c.in_ok-group.ensures

pub returns-clause-group : goal.returns-clause-group
returns-clause-group g c = c.in_ok-group.ensures

pub returns-then-start-gt0-clause-empty : goal.returns-then-start-gt0-clause-empty
returns-then-start-gt0-clause-empty g c = λ none. absurd (omega (arith, c.in_ok-start.ensures.in_range, ap length none, c.if-start-gt0.true))

pub returns-clause-empty : goal.returns-clause-empty
returns-clause-empty g c = λ none.
    let same = carried_alike g.met.G.Ord.total c.in_ok-group.group (g.G.FromRef.group_of c.args.k.now) c.in_ok-group.ensures c.args.rank in
    omega (arith, c.saturating_add.ensures, c.carried_for-before.ensures, same, ap length none)
