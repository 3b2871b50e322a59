use Rattle.std.proofs.lemmas.Result.{IfOk-from_err}
use Rattle.bptree_arguments.proofs.GroupRankLemmas.{rank_present, rank_absent}
use Rattle.bptree_arguments.proofs.group.rank.GroupCountRankArgument.fold_leaf.Goals as goal

pub returns-in_ok-ranked_after-in-Ok-clause-ranked : goal.returns-in_ok-ranked_after-in-Ok-clause-ranked
returns-in_ok-ranked_after-in-Ok-clause-ranked g c = λ placed before after ascending low high fits stored.
    let from = c.in_ok-ranked_after-in-Ok in
    rank_present g.K.Ord.cmp g.G.Ord.cmp g.G.FromRef.group_of g.met.G.FromRef.keeps_order g.met.G.Ord.total c.args.k.now c.args.keys.now before after ascending low high fits c.in-Ok.i from.field-0 from.ensures.group (λ sorted below long. from.ensures.counted before sorted below long stored) (rw c.in-Ok.is at placed)

pub returns-in_ok-ranked_after-in-Err-clause-ranked : goal.returns-in_ok-ranked_after-in-Err-clause-ranked
returns-in_ok-ranked_after-in-Err-clause-ranked g c = λ placed before after ascending low high fits stored.
    let from = c.in_ok-ranked_after-in-Err in
    rank_absent g.K.Ord.cmp g.G.Ord.cmp g.G.FromRef.group_of g.met.G.FromRef.keeps_order g.met.G.Ord.total c.args.k.now c.args.keys.now before after ascending low high fits c.in-Err.i from.field-0 from.ensures.group (λ sorted below long. from.ensures.counted before sorted below long stored) (rw c.in-Err.is at placed)

pub returns-in_err-ranked_after-in-Ok-clause-variant : goal.returns-in_err-ranked_after-in-Ok-clause-variant
returns-in_err-ranked_after-in-Ok-clause-variant g c = IfOk-from_err c.from_residual.result _ c.from_residual.ensures.0

pub returns-in_err-ranked_after-in-Ok-clause-ranked : goal.returns-in_err-ranked_after-in-Ok-clause-ranked
returns-in_err-ranked_after-in-Ok-clause-ranked g c = IfOk-from_err c.from_residual.result _ c.from_residual.ensures.0

pub returns-in_err-ranked_after-in-Ok-clause-empty : goal.returns-in_err-ranked_after-in-Ok-clause-empty
returns-in_err-ranked_after-in-Ok-clause-empty g c = λ none. IfOk-from_err c.from_residual.result _ c.from_residual.ensures.0

pub returns-in_err-ranked_after-in-Err-clause-variant : goal.returns-in_err-ranked_after-in-Err-clause-variant
returns-in_err-ranked_after-in-Err-clause-variant g c = IfOk-from_err c.from_residual-in_err-ranked_after-in-Err.result _ c.from_residual-in_err-ranked_after-in-Err.ensures.0

pub returns-in_err-ranked_after-in-Err-clause-ranked : goal.returns-in_err-ranked_after-in-Err-clause-ranked
returns-in_err-ranked_after-in-Err-clause-ranked g c = IfOk-from_err c.from_residual-in_err-ranked_after-in-Err.result _ c.from_residual-in_err-ranked_after-in-Err.ensures.0

pub returns-in_err-ranked_after-in-Err-clause-empty : goal.returns-in_err-ranked_after-in-Err-clause-empty
returns-in_err-ranked_after-in-Err-clause-empty g c = λ none. IfOk-from_err c.from_residual-in_err-ranked_after-in-Err.result _ c.from_residual-in_err-ranked_after-in-Err.ensures.0
