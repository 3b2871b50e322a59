use Rattle.std.proofs.Common.{◌∙◌, ap, sym}
use Rattle.std.specs.Option.{option_map}
use Rattle.bptree_propagation.proofs.Borrowed.{none_if_absent}
use Rattle.bptree_tree.proofs.EntryLemmas.{entry_value}
use Rattle.bptree_tree.proofs.tree.BPlusTree.index_with_value.Goals as goal

pub returns-in-Ok : goal.returns-in-Ok
returns-in-Ok g c = ap (option_map (λ pair. pair.1)) (sym c.in-Ok.ensures.found) ∙ entry_value g.S.K.Ord.cmp c.args.self.now.contents c.args.k.now

pub returns-in-Err : goal.returns-in-Err
returns-in-Err g c = sym (none_if_absent g.S.K.Ord.cmp c.args.self.now.contents c.args.k.now c.in-Err.ensures.absent)
