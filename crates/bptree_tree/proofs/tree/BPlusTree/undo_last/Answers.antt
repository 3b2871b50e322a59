use Rattle.std.proofs.Common.{◌∙◌, ap, subst, sym}
use Rattle.bptree_tree.specs.Undoing.{CanUndo}
use Rattle.bptree_tree.proofs.UndoLemmas.{inserted_pair, inserted_undone, is_some, replaced_pair, replaced_undone, some_read, some_same, value_read}
use Rattle.bptree_tree.proofs.tree.BPlusTree.undo_last.Goals as goal

pub unwrap-requires : goal.unwrap-requires
unwrap-requires g c =
    let pair = c.requires.put.0 in
    let l = c.requires.put.1 in
    let can = subst (λ e. CanUndo g.S.K.Ord.cmp e pair l) c.in-Inserted.is c.requires.put.3 in
    let reported = rw c.unwrap-removed.ensures at c.remove_entry.ensures.ok in
    is_some c.unwrap-removed.result pair (reported.0 ∙ inserted_pair g.met.S.K.Ord.total l c.requires.put.2 pair c.in-Inserted.k can c.args.self.now.contents c.requires.put.4)

pub unwrap-requires-in-Replaced : goal.unwrap-requires-in-Replaced
unwrap-requires-in-Replaced g c =
    let pair = c.requires.put.0 in
    let l = c.requires.put.1 in
    let can = subst (λ e. CanUndo g.S.K.Ord.cmp e pair l) c.in-Replaced.is c.requires.put.3 in
    some_read c.get_mut.result pair.1 (c.get_mut.ensures.value ∙ replaced_pair g.met.S.K.Ord.total l c.requires.put.2 pair c.in-Replaced.k c.in-Replaced.old can c.args.self.now.contents c.requires.put.4)

pub returns-in-Inserted-clause-pair : goal.returns-in-Inserted-clause-pair
returns-in-Inserted-clause-pair g c = λ pair l up can put.
    let is = subst (λ e. CanUndo g.S.K.Ord.cmp e pair l) c.in-Inserted.is can in
    let reported = rw c.unwrap-removed.ensures at c.remove_entry.ensures.ok in
    some_same c.unwrap.result pair (sym c.unwrap.ensures ∙ (reported.0 ∙ inserted_pair g.met.S.K.Ord.total l up pair c.in-Inserted.k is c.args.self.now.contents put))

pub returns-in-Inserted-clause-undone : goal.returns-in-Inserted-clause-undone
returns-in-Inserted-clause-undone g c = λ pair l up can put.
    let is = subst (λ e. CanUndo g.S.K.Ord.cmp e pair l) c.in-Inserted.is can in
    let reported = rw c.unwrap-removed.ensures at c.remove_entry.ensures.ok in
    reported.1 ∙ inserted_undone g.met.S.K.Ord.total l up pair c.in-Inserted.k is c.args.self.now.contents put

pub returns-in-Replaced-clause-pair : goal.returns-in-Replaced-clause-pair
returns-in-Replaced-clause-pair g c = λ pair l up can put.
    let is = subst (λ e. CanUndo g.S.K.Ord.cmp e pair l) c.in-Replaced.is can in
    let read = c.get_mut.ensures.value ∙ replaced_pair g.met.S.K.Ord.total l up pair c.in-Replaced.k c.in-Replaced.old is c.args.self.now.contents put in
    ap (λ k. (k, c.replace-v.result)) (sym is.0) ∙ ap (λ v. (pair.0, v)) (c.replace-v.ensures.value ∙ value_read c.get_mut.result c.unwrap-in-Replaced.result pair.1 c.unwrap-in-Replaced.ensures read)

pub returns-in-Replaced-clause-undone : goal.returns-in-Replaced-clause-undone
returns-in-Replaced-clause-undone g c = λ pair l up can put.
    let is = subst (λ e. CanUndo g.S.K.Ord.cmp e pair l) c.in-Replaced.is can in
    replaced_undone g.met.S.K.Ord.total l up pair c.in-Replaced.k c.in-Replaced.old is c.args.self.now.contents put c.replace-v.new.dest c.replace-v.ensures.after
