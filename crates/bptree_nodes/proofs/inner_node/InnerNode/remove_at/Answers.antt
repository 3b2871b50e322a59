use Rattle.std.proofs.Common.{◌+◌, refl, arith}
use Rattle.std.proofs.lemmas.Option.{slice_get_read}
use Rattle.bptree_nodes.proofs.Inverses.{entry_taken_back}
use Rattle.bptree_nodes.proofs.inner_node.InnerNode.remove_at.Goals as goal

pub returns-clause-key : goal.returns-clause-key
returns-clause-key g c =
    let within = rw (← c.self.view_is) at c.requires.slot in
    rw (← c.self.view_is) (slice_get_read _ _ c.args.slot _ refl (omega (arith, within)) c.remove-key.ensures.value)

pub returns-clause-child : goal.returns-clause-child
returns-clause-child g c =
    let within = rw (← c.self.view_is) at c.requires.slot in
    rw (← c.self.view_is) (slice_get_read _ _ (c.args.slot + 1) _ refl (omega (arith, within)) c.remove-child.ensures.value)

pub returns-clause-argument : goal.returns-clause-argument
returns-clause-argument g c =
    let within = rw (← c.self.view_is) at c.requires.slot in
    rw (← c.self.view_is) (slice_get_read _ _ (c.args.slot + 1) _ refl (omega (arith, within)) c.remove.ensures.value)

pub returns-clause-after : goal.returns-clause-after
returns-clause-after g c = rw (← c.self.view_is, c.remove-key.ensures.items, c.remove-child.ensures.items, c.remove.ensures.items) refl

pub returns-clause-undoes : goal.returns-clause-undoes
returns-clause-undoes g c =
    entry_taken_back c.args.slot c.args.self.now _ c.remove-key.result c.remove-child.result c.remove.result (record {
      among_keys = returns-clause-key g c;
      among_children = returns-clause-child g c;
      among_arguments = returns-clause-argument g c;
      after = returns-clause-after g c;
    })
