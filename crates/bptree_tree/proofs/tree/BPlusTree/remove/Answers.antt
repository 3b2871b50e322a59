use Rattle.std.proofs.Common.{◌∙◌, ap}
use Rattle.std.specs.Option.{option_map}
use Rattle.bptree_tree.proofs.EntryLemmas.{entry_value}
use Rattle.bptree_tree.proofs.tree.BPlusTree.remove.Goals as goal

pub returns-in-None-clause-ok : goal.returns-in-None-clause-ok
returns-in-None-clause-ok g c =
    let taken = rw c.in-None.is at c.in_ok-remove_entry.ensures.ok in
    (ap (option_map (λ pair. pair.1)) taken.0 ∙ entry_value g.S.K.Ord.cmp c.args.self.now.contents c.args.k.now, taken.1)

pub returns-in-Some-clause-ok : goal.returns-in-Some-clause-ok
returns-in-Some-clause-ok g c =
    let taken = rw c.in-Some.is at c.in_ok-remove_entry.ensures.ok in
    (ap (option_map (λ pair. pair.1)) taken.0 ∙ entry_value g.S.K.Ord.cmp c.args.self.now.contents c.args.k.now, taken.1)
