use Rattle.std.proofs.Common.{◌∙◌, ◌∷◌, ◌++◌, [], append_assoc, arith, ap, length, length-append, refl, subst, sym}
use Rattle.bptree_bulk.specs.Weave.{put_pair}
use Rattle.bptree_bulk.proofs.Weaves.{put_one_more}
use Rattle.bptree_tree.specs.Undoing.{CanUndoAll}
use Rattle.bptree_tree.proofs.UndoLemmas.{undo_more}
use Rattle.bptree_tree.proofs.tree.BPlusTree.put_each.Goals as goal

pub pairs-init : goal.pairs-init
pairs-init g c = record {
  moved = [];
  all = refl;
  put = refl;
  noted = subst (λ es. CanUndoAll g.S.K.Ord.cmp es [] c.args.self.now.contents c.args.self.now.contents) (sym c.requires.none) refl;
  len = ap length c.requires.none;
  room = c.requires.room;
}

pub pairs-preserved : goal.pairs-preserved
pairs-preserved g c =
    let cmp = g.S.K.Ord.cmp in
    let inv = c.pairs.invariant in
    let pair : g.row.S-K.Denot × g.row.S-V.Denot = (c.in-Some.k, c.in-Some.v) in
    let noted = c.in-Ok.ensures.noted in
    record {
      moved = inv.moved ++ pair ∷ [];
      all = inv.all ∙ (ap (λ l. inv.moved ++ l) c.in-Some.ensures.steps ∙ sym (append_assoc inv.moved (pair ∷ []) c.next.new.self));
      put = c.in-Ok.ensures.ok ∙ (ap (λ l. put_pair cmp l pair) inv.put ∙ sym (put_one_more (put_pair cmp) c.args.self.now.contents inv.moved pair));
      noted = subst (λ es. CanUndoAll cmp es (inv.moved ++ pair ∷ []) c.args.self.now.contents c.put_noted.new.self.contents) (sym noted.1)
          (subst (CanUndoAll cmp (c.pairs.undo.items ++ noted.0 ∷ []) (inv.moved ++ pair ∷ []) c.args.self.now.contents) (sym c.in-Ok.ensures.ok)
          (undo_more cmp c.pairs.undo.items inv.moved c.args.self.now.contents c.pairs.self.contents noted.0 pair inv.noted noted.2));
      len = omega (arith, inv.len, ap length noted.1, length-append c.pairs.undo.items (noted.0 ∷ []), length-append inv.moved (pair ∷ []));
      room = omega (arith, inv.room, c.put_noted.ensures.capacity);
    }
