use Rattle.std.proofs.Common.{◌≡◌, nat_cmp}
use Rattle.bptree_arguments.specs.CountLaws.{count_below}
use Rattle.sweep_bptree_contract_tests.proofs.Replies.{at_reply, reported_at}
use Rattle.sweep_bptree_contract_tests.proofs.callers.reply_to_at.Goals as goal

pub returns : goal.returns
returns c = at_reply _ _ _ c.reply_to.result c.reply_to.ensures (λ reply step. reported_at (λ key keys n. n ≡ count_below nat_cmp key keys) _ _ c.args.index reply step.1.0)
