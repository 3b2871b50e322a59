use Rattle.std.proofs.Common.{◌≡◌, ◌∙◌, Some, refl, sym}
use Rattle.bptree_keys.proofs.Equal.{value_at_equal}
use Rattle.bptree_keys.specs.Contents.{value}
use Rattle.bptree_tree.specs.declared.tree.merging.Undo.TheVariants.{Inserted, Replaced}
use Rattle.bptree_tree.proofs.UndoLemmas.{absent_is, put_same}
use Rattle.bptree_tree.proofs.tree.BPlusTree.insert_noted.Goals as goal

pub returns-in-Ok-None-clause-noted : goal.returns-in-Ok-None-clause-noted
returns-in-Ok-None-clause-noted g c =
    let equal = g.met.S.K.Key.clone_is_equal c.args.k c.in-Ok.copy c.in-Ok.ensures.cases in
    record {
      pair = (c.args.k, c.args.v);
      put = c.in-Ok-None.ensures.ok.1;
      noted = (Inserted c.in-Ok.copy, c.push_reserved.ensures.items, (absent_is g.S.K.Ord.cmp c.args.self.now.contents c.args.k (sym c.in-Ok-None.field-0-is ∙ c.in-Ok-None.ensures.ok.0), equal));
    }

pub returns-in-Ok-Some-clause-noted : goal.returns-in-Ok-Some-clause-noted
returns-in-Ok-Some-clause-noted g c =
    let cmp = g.S.K.Ord.cmp in
    let total = g.met.S.K.Ord.total in
    let l = c.args.self.now.contents in
    let copy = c.in-Ok.copy in
    let equal = g.met.S.K.Key.clone_is_equal c.args.k copy c.in-Ok.ensures.cases in
    let was : value cmp l c.args.k ≡ Some c.in-Ok-Some.old = sym c.in-Ok-Some.ensures.ok.0 ∙ c.in-Ok-Some.field-0-is in
    record {
      pair = (copy, c.args.v);
      put = c.in-Ok-Some.ensures.ok.1 ∙ put_same total l c.recall_whole.ensures.ascending c.args.k c.args.v c.in-Ok-Some.old was copy equal;
      noted = (Replaced copy c.in-Ok-Some.old, c.push_reserved-in-Ok-Some.ensures.items, (refl, sym (value_at_equal cmp total l c.args.k copy equal) ∙ was));
    }
