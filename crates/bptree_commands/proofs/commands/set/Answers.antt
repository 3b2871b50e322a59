use Rattle.std.proofs.Common.{◌≡◌, refl, true, false, None, Some}
use Rattle.bptree_tree.proofs.Counted.{has_was}
use Rattle.bptree_commands.proofs.commands.set.Goals as goal

-- No value was borrowed, so the key is absent.
pub returns-in_default : goal.returns-in_default
returns-in_default g c =
    let read : None ≡ _ = rw c.in_default.is at c.get_mut.ensures.value in
    (has_was g.S.K.Ord.cmp c.args.tree.now.contents c.args.key None false read refl, refl)

pub returns : goal.returns
returns g c =
    let read : Some c.in-Some.held.now ≡ _ = rw c.in-Some.is at c.get_mut.ensures.value in
    (has_was g.S.K.Ord.cmp c.args.tree.now.contents c.args.key (Some c.in-Some.held.now) true read refl, refl)
