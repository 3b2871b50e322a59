use Rattle.std.proofs.Common.{◌≡◌, ◌∙◌, Some, ap, sym}
use Rattle.std.specs.declared.cmp.Ordering.TheVariants.{Equal}
use Rattle.bptree_tree.specs.Cursor.{cursor_key}
use Rattle.bptree_commands.specs.Steps.{IsCopyOf}
use Rattle.bptree_commands.proofs.HeldLemmas.{map-slice_set, moved_to}
use Rattle.bptree_commands.proofs.held.move_to.Goals as goal

-- The cursor is at the neighbour, and its key was cloned.
pub returns-in-Ok : goal.returns-in-Ok
returns-in-Ok g c = λ neighbour is.
    let copy : IsCopyOf g.K.Ord.cmp neighbour (Some (cursor_key c.in-Some.cursor, c.in-Some.value.now)) = rw c.in-Some.is at is in
    let equal : g.K.Ord.cmp (cursor_key c.in-Some.cursor) c.in-Ok.key ≡ Equal = ap (λ k. g.K.Ord.cmp k c.in-Ok.key) (sym c.key.ensures) ∙ g.met.K.Key.clone_is_equal _ _ (rw c.in-Ok.is at c.clone.ensures).cases in
    moved_to g.met.K.Ord.total neighbour _ _ c.args.number (cursor_key c.in-Some.cursor) c.in-Ok.key c.in-Some.value.now copy equal (map-slice_set cursor_key c.args.cursors.now.items c.args.number c.in-Some.cursor)
