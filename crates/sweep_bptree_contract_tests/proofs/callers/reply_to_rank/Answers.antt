use Rattle.bptree_arguments.specs.CountLaws.{SelectsIndex}
use Rattle.sweep_bptree_contract_tests.proofs.Replies.{at_reply, ranked}
use Rattle.sweep_bptree_contract_tests.proofs.callers.reply_to_rank.Goals as goal

pub returns : goal.returns
returns c = at_reply _ _ _ c.reply_to.result c.reply_to.ensures (λ reply step. ranked SelectsIndex _ _ c.args.key reply step.1.0)
