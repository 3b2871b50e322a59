use Rattle.std.proofs.Common.{refl}
use Rattle.std.specs.Map.{values_of}
use Rattle.std.proofs.lemmas.Map.Entries.{length-values_of}
use Rattle.std.proofs.lemmas.Option.{slice_get_within}
use Rattle.bptree_commands.proofs.commands.set_at.Goals as goal

-- The index of the value that was written.
pub returns-in-Ok : goal.returns-in-Ok
returns-in-Ok g c =
    let pairs = c.args.tree.now.contents in
    let written = rw c.in-Ok.is at (c.get_mut_by_argument.follows.holds c.args.value (rw c.in-Ok.is refl)) in
    let within = slice_get_within (values_of pairs) written.index c.in-Ok.found.now written.value in
    (written.index, rw (length-values_of pairs) at within, written.selected, written.contents)
