use Rattle.sweep_bptree_contract_tests.proofs.Replies.{at_reply, set_there}
use Rattle.sweep_bptree_contract_tests.proofs.callers.reply_to_set.Goals as goal

pub returns : goal.returns
returns g c = at_reply _ _ _ c.reply_to.result c.reply_to.ensures (λ reply step. set_there g.S.K.Ord.cmp g.S.Argument.SearchArgument.selects g.S.Argument.RankArgument.ranks c.args.tree.now.contents c.reply_to.new.tree.contents c.args.key c.args.new reply step.1.0)
