use Rattle.std.proofs.Common.{◌∙◌, ◌∷◌, ◌++◌, [], append-nil, append_assoc, arith, ap, length, length-append, reverse, subst, sym}
use Rattle.std.proofs.lemmas.Grind.{reverse_onto}
use Rattle.bptree_tree.specs.Undoing.{CanUndoAll}
use Rattle.bptree_tree.proofs.UndoLemmas.{last_of}
use Rattle.bptree_tree.proofs.tree.BPlusTree.take_back.Goals as goal

pub undo-init : goal.undo-init
undo-init g c = record {
  room = c.requires.room;
  some = c.requires.put;
  each = λ moved m up all. (moved, [], sym (append-nil moved), all, sym (append-nil c.args.pairs.now.items));
}

pub undo_last-requires-clause-put : goal.undo_last-requires-clause-put
undo_last-requires-clause-put g c =
    let some = c.undo.invariant.some in
    let last = last_of g.S.K.Ord.cmp g.met.S.K.Ord.total c.in-Some.ensures.items some.0 some.1 c.undo.self.contents some.2 some.3 in
    (last.pair, last.list, last.up, last.can, last.put)

pub undo-preserved : goal.undo-preserved
undo-preserved g c =
    let cmp = g.S.K.Ord.cmp in
    let total = g.met.S.K.Ord.total in
    let inv = c.undo.invariant in
    let items = c.pop.new.self.items in
    let old = c.args.pairs.now.items in
    let some = inv.some in
    let last = last_of cmp total c.in-Some.ensures.items some.0 some.1 c.undo.self.contents some.2 some.3 in
    let undone = c.undo_last.ensures.undone last.pair last.list last.up last.can last.put in
    record {
      room = omega (arith, inv.room, c.push_reserved.ensures.len, c.push_reserved.ensures.capacity, ap length c.in-Some.ensures.items, length-append items (c.in-Some.entry ∷ []));
      some = (last.firsts, some.1, some.2, subst (CanUndoAll cmp items last.firsts some.1) (sym undone) last.all);
      each = λ moved m up noted.
          let was = inv.each moved m up noted in
          let last = last_of cmp total c.in-Some.ensures.items was.0 m c.undo.self.contents up was.3 in
          let undone = c.undo_last.ensures.undone last.pair last.list last.up last.can last.put in
          let pair = c.undo_last.ensures.pair last.pair last.list last.up last.can last.put in (
            last.firsts,
            last.pair ∷ was.1,
            was.2 ∙ (ap (λ l. l ++ was.1) last.are ∙ append_assoc last.firsts (last.pair ∷ []) was.1),
            subst (CanUndoAll cmp items last.firsts m) (sym undone) last.all,
            c.push_reserved.ensures.items
                ∙ (ap (λ l. l ++ c.undo_last.result ∷ []) was.4
                ∙ (append_assoc old (reverse was.1) (c.undo_last.result ∷ []) ∙ ap (λ l. old ++ l) (ap (λ p. reverse was.1 ++ p ∷ []) pair ∙ sym (reverse_onto was.1 last.pair [])))),
          );
    }
