use Rattle.std.proofs.Common.{rules, ap, ◌∙◌, Err}
use Rattle.bptree_tree.specs.declared.InsertError.TheVariants.{Full}
use Rattle.bptree_commands.proofs.PairLemmas.{full_text-is}
use Rattle.bptree_commands.proofs.reply.put_pair.Goals as goal

pub returns-in-Err-Full-clause-replies : goal.returns-in-Err-Full-clause-replies
returns-in-Err-Full-clause-replies g c =
    let given = rw c.in-Err-Full.field-0-is at c.in-Err-Full.ensures.err.0 in
    let unchanged = ap Err (c.in-Err-Full.field-0-is ∙ ap (λ pair. Full pair.0 pair.1) given) in
    let text = full_text-is c.args.tree.now.contents c.args.key (c.in-Err-Full.ensures.full.0 unchanged) in
    rw text (search rules)
