use Rattle.std.proofs.Common.{refl}
use Rattle.bptree_removal.proofs.EndPaths.{there_of}
use Rattle.bptree_removal.proofs.ReplacedKey.{as_many, replaces}
use Rattle.bptree_removal.proofs.replacement.replace_entry.Goals as goal

pub replace_in_place-requires : goal.replace_in_place-requires
replace_in_place-requires g c =
    let at = rw (← c.tree.view_is) at c.requires in
    (there_of at.0, c.tree.invariant.2)

pub invariant_of-tree : goal.invariant_of-tree
invariant_of-tree g c =
    let slots = g.S.NodeStore.slots in
    let tree = c.tree.inside in
    let at = rw (← c.tree.view_is) at c.requires in
    let done = c.in-Ok.ensures.replaced (there_of at.0) c.tree.invariant.2 in
    (done.shape, as_many g.met.S.K.Ord.total g.S.Argument.Argument.is_summary (slots tree.store) (slots c.replace_in_place.new.store) tree.height tree.root c.args.path.now c.args.at c.args.key c.in-Ok.old c.in-Ok.summary at done tree.len c.tree.invariant.1, done.reported)

pub returns-in-Ok-clause-replaced : goal.returns-in-Ok-clause-replaced
returns-in-Ok-clause-replaced g c =
    let slots = g.S.NodeStore.slots in
    let tree = c.tree.inside in
    let at = rw (← c.tree.view_is) at c.requires in
    let done = c.in-Ok.ensures.replaced (there_of at.0) c.tree.invariant.2 in
    rw (← c.tree.view_is) (replaces g.met.S.K.Ord.total g.S.Argument.Argument.is_summary (slots tree.store) (slots c.replace_in_place.new.store) tree.height tree.root c.args.path.now c.args.at c.args.key c.in-Ok.old c.in-Ok.summary at done)

pub returns-in-Ok-clause-whole : goal.returns-in-Ok-clause-whole
returns-in-Ok-clause-whole g c =
    let at = rw (← c.tree.view_is) at c.requires in
    let done = c.in-Ok.ensures.replaced (there_of at.0) c.tree.invariant.2 in
    record { shape = done.shape; contents = refl; summary = done.reported }
