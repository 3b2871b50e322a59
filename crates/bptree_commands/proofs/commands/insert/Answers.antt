use Rattle.bptree_commands.proofs.RunLemmas.{Step-unchanged}
use Rattle.bptree_commands.proofs.commands.insert.Goals as goal

pub returns-in-Err : goal.returns-in-Err
returns-in-Err g c =
    rw c.unchanged.ensures (Step-unchanged g.S.K.Ord.cmp g.S.Argument.SearchArgument.selects g.S.Argument.RankArgument.ranks c.in-Err.error _ _ c.args.key c.args.value c.in-Err.ensures.err c.in-Err.ensures.present c.in-Err.ensures.full)
