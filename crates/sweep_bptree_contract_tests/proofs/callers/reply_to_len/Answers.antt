use Rattle.sweep_bptree_contract_tests.proofs.Replies.{at_reply, counted}
use Rattle.sweep_bptree_contract_tests.proofs.callers.reply_to_len.Goals as goal

pub returns : goal.returns
returns g c = at_reply _ _ _ c.reply_to.result c.reply_to.ensures (λ reply step. counted g.S.K.Ord.cmp g.S.Argument.SearchArgument.selects g.S.Argument.RankArgument.ranks c.args.tree.now.contents c.reply_to.new.tree.contents reply step.1.0)
