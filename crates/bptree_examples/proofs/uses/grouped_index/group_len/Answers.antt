use Rattle.std.proofs.Common.{arith}
use Rattle.std.proofs.lemmas.Map.Entries.{length-keys_of}
use Rattle.std.proofs.lemmas.Result.{IfOk-weaker}
use Rattle.std.specs.Map.{keys_of}
use Rattle.bptree_examples.proofs.GroupItems.{size_reported}
use Rattle.bptree_examples.proofs.uses.grouped_index.group_len.Goals as goal

pub returns-clause-counted : goal.returns-clause-counted
returns-clause-counted c =
    let pairs = c.args.items.now in
    IfOk-weaker c.descend_visit.result _ _
    (λ outcome e. size_reported outcome c.args.group c.new.result (keys_of pairs) e c.new.ensures.group c.new.ensures.counted (omega (arith, length-keys_of pairs, c.recall.ensures.fits)))
    c.descend_visit.ensures.outcome
