use Rattle.std.proofs.Common.{◌+◌, length}
use Rattle.bptree_search.proofs.Selected.{index_read}
use Rattle.bptree_invariant.specs.Leaves.{pairs_of}
use Rattle.bptree_removal.proofs.removal.remove_entry.Goals as goal

pub take_entry-requires : goal.take_entry-requires
take_entry-requires g c = (c.args.k.now, c.in-Some.ensures.way)

pub returns-in_ok-take_entry-in-Some-clause-removed : goal.returns-in_ok-take_entry-in-Some-clause-removed
returns-in_ok-take_entry-in-Some-clause-removed g c =
    let tree = c.args.tree.now in
    let slots = g.S.NodeStore.slots tree.store in
    let at = c.in-Some.ensures.way in
    let taken = c.in_ok-take_entry-in-Some.ensures.taken c.args.k.now at in (
      length (pairs_of slots at.1.stored.before) + c.in-Some.at.slot,
      rw c.recall.ensures.whole.contents (index_read slots tree.height tree.root c.in-Some.at.leaf at.1.stored c.in-Some.at.slot _ taken.0),
      taken.1,
      taken.2,
    )
