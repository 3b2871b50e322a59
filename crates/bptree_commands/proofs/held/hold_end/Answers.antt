use Rattle.std.proofs.Common.{map}
use Rattle.bptree_tree.specs.Cursor.{cursor_key}
use Rattle.bptree_commands.specs.Steps.{pair_at_end}
use Rattle.bptree_commands.proofs.HeldLemmas.{copy_from, end_step}
use Rattle.bptree_commands.proofs.held.hold_end.Goals as goal

pub returns-in-Ok : goal.returns-in-Ok
returns-in-Ok g c =
    let pair = pair_at_end c.args.end c.args.tree.now.contents in
    end_step g.S.K.Ord.cmp g.S.Argument.SearchArgument.selects g.S.Argument.RankArgument.ranks c.args.tree.now.contents
    (map cursor_key c.args.cursors.now.items) (map cursor_key c.hold_found.new.cursors.items) c.args.end c.hold_found.result
    (c.hold_found.ensures pair (copy_from g.met.S.K.Ord.total (λ v. v.now) pair c.in-Ok.found c.in-Ok.ensures.cursor c.in-Ok.ensures.value))
