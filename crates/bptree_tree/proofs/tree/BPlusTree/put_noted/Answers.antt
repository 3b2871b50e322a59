use Rattle.std.proofs.Common.{◌∙◌, Some, ap, refl, sym}
use Rattle.bptree_tree.specs.declared.tree.merging.Undo.TheVariants.{Inserted, Replaced}
use Rattle.bptree_tree.proofs.UndoLemmas.{absent_is, written_is}
use Rattle.bptree_tree.proofs.tree.BPlusTree.put_noted.Goals as goal

pub returns-in-Some-clause-ok : goal.returns-in-Some-clause-ok
returns-in-Some-clause-ok g c = written_is g.S.K.Ord.cmp c.args.self.now.contents c.args.k c.in-Some.value.now c.replace-old.new.dest c.args.v (sym c.in-Some.ensures.value) c.replace-old.ensures.after

pub returns-in-Some-clause-noted : goal.returns-in-Some-clause-noted
returns-in-Some-clause-noted g c = (Replaced c.args.k c.replace-old.result, c.push_reserved.ensures.items, (refl, sym c.in-Some.ensures.value ∙ ap Some (sym c.replace-old.ensures.value)))

pub returns-in-Ok-insert-clause-noted : goal.returns-in-Ok-insert-clause-noted
returns-in-Ok-insert-clause-noted g c = (Inserted c.in-Ok.copy, c.push_reserved-in-Ok-insert.ensures.items, (absent_is g.S.K.Ord.cmp c.args.self.now.contents c.args.k c.in-None.ensures.value, g.met.S.K.Key.clone_is_equal c.args.k c.in-Ok.copy c.in-Ok.ensures.cases))
