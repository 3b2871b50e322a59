use Rattle.std.proofs.Common.{◌∙◌, ap}
use Rattle.std.specs.Ordering.{nat_cmp}
use Rattle.bptree_tree.specs.Cursor.{cursor_key}
use Rattle.bptree_commands.specs.Steps.{pair_beside}
use Rattle.bptree_commands.proofs.IndexLemmas.{beside_is}
use Rattle.bptree_commands.proofs.reply.neighbour.Goals as goal

pub returns : goal.returns
returns g c =
    let beside = pair_beside nat_cmp c.args.side c.args.tree.now.contents in
    beside_is (λ v. v.now) (beside (cursor_key c.cursor_on-cursor.result)) c.in-Ok.found c.in-Ok.ensures.cursor c.in-Ok.ensures.value ∙ ap beside c.cursor_on-cursor.ensures
