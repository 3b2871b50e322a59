use Rattle.std.proofs.Common.{None, Some, refl}
use Rattle.bptree_tree.specs.Cursor.{cursor_key}
use Rattle.bptree_commands.specs.Steps.{IsCopyOf}
use Rattle.bptree_commands.proofs.HeldLemmas.{holds_end, holds_none}
use Rattle.bptree_commands.proofs.held.hold_found.Goals as goal

pub returns-in-None : goal.returns-in-None
returns-in-None g c = λ pair is.
    let none : IsCopyOf g.K.Ord.cmp pair None = rw c.in-None.is at is in
    (holds_none g.met.K.Ord.total pair none, refl)

pub returns-in-Some : goal.returns-in-Some
returns-in-Some g c = λ pair is.
    let copy : IsCopyOf g.K.Ord.cmp pair (Some (cursor_key c.in-Some.cursor, c.in-Some.value.now)) = rw c.in-Some.is at is in
    holds_end g.met.K.Ord.total pair _ _ (cursor_key c.in-Some.cursor) c.in-Some.value.now c.join.result copy c.join.ensures
