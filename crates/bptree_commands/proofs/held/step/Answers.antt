use Rattle.std.proofs.Common.{◌≡◌, Some, map, refl, slice_get}
use Rattle.bptree_tree.specs.Cursor.{cursor_key}
use Rattle.bptree_commands.specs.Steps.{pair_beside}
use Rattle.bptree_commands.specs.declared.commands.Reply.TheVariants.{OutOfMemory}
use Rattle.bptree_commands.proofs.HeldLemmas.{copy_from, key_read, beside_step}
use Rattle.bptree_commands.proofs.held.step.Goals as goal

pub returns-in-Ok : goal.returns-in-Ok
returns-in-Ok g c =
    let key = cursor_key c.in-Some.cursor.now in
    let neighbour = pair_beside g.S.K.Ord.cmp c.args.side c.args.tree.now.contents key in
    let there : slice_get (map cursor_key c.args.cursors.now.items) c.args.number ≡ Some key = rw c.deref.ensures.value at (key_read c.deref.result.now c.args.number c.in-Some.cursor.now c.in-Some.ensures.lookup.1 c.in-Some.ensures.lookup.3.0) in
    beside_step g.S.K.Ord.cmp g.S.Argument.SearchArgument.selects g.S.Argument.RankArgument.ranks c.args.tree.now.contents
    (map cursor_key c.args.cursors.now.items) (map cursor_key c.move_to.new.cursors.items) c.args.side c.args.number key c.move_to.result there
    (c.move_to.ensures neighbour (copy_from g.met.S.K.Ord.total (λ v. v.now) neighbour c.in-Ok.moved c.in-Ok.ensures.cursor c.in-Ok.ensures.value))

-- A step that failed had a neighbour to go to.
pub returns-in-Err : goal.returns-in-Err
returns-in-Err g c =
    let held = map cursor_key c.args.cursors.now.items in
    let there : slice_get held c.args.number ≡ Some (cursor_key c.in-Some.cursor.now) = rw c.deref.ensures.value at (key_read c.deref.result.now c.args.number c.in-Some.cursor.now c.in-Some.ensures.lookup.1 c.in-Some.ensures.lookup.3.0) in
    beside_step g.S.K.Ord.cmp g.S.Argument.SearchArgument.selects g.S.Argument.RankArgument.ranks c.args.tree.now.contents held held c.args.side c.args.number (cursor_key c.in-Some.cursor.now) OutOfMemory there
    ((λ none. cc (c.in-Err.ensures.end none)), refl)
