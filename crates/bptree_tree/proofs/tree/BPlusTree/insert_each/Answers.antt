use Rattle.std.proofs.Common.{◌∙◌, ◌∷◌, ◌++◌, [], append_assoc, arith, ap, length, length-append, refl, reverse, subst, sym}
use Rattle.std.proofs.lemmas.List.{reverse-append}
use Rattle.bptree_bulk.specs.Weave.{put_pair}
use Rattle.bptree_bulk.proofs.Weaves.{put_one_more}
use Rattle.bptree_tree.specs.Undoing.{CanUndoAll}
use Rattle.bptree_tree.proofs.UndoLemmas.{undo_more}
use Rattle.bptree_tree.proofs.tree.BPlusTree.insert_each.Goals as goal

pub pairs-init : goal.pairs-init
pairs-init g c =
    let l = c.args.self.now.contents in
    let none = ap length c.requires.none in
    record {
      put = [];
      all = refl;
      contents = refl;
      noted = ([], subst (λ es. CanUndoAll g.S.K.Ord.cmp es [] l l) (sym c.requires.none) refl);
      room = omega (arith, c.requires.room, none);
      back = omega (arith, c.args.pairs.now.ok.0, c.args.pairs.now.ok.1, none);
    }

pub pairs-preserved : goal.pairs-preserved
pairs-preserved g c =
    let cmp = g.S.K.Ord.cmp in
    let inv = c.pairs.invariant in
    let pair : g.row.S-K.Denot × g.row.S-V.Denot = (c.in-Some.k, c.in-Some.v) in
    let rest = c.pop.new.self.items in
    let first = c.args.self.now.contents in
    let done = c.in-Ok.ensures.noted in
    let entry = done.noted.0 in
    let undo = c.pairs.undo.items in
    let more = ap length done.noted.1 ∙ length-append undo (entry ∷ []) in
    record {
      put = inv.put ++ pair ∷ [];
      all = inv.all ∙ (ap (λ l. inv.put ++ reverse l) c.in-Some.ensures.items ∙ (ap (λ l. inv.put ++ l) (reverse-append rest (pair ∷ [])) ∙ sym (append_assoc inv.put (pair ∷ []) (reverse rest))));
      contents = c.in-Ok.ensures.ok ∙ (ap (λ l. put_pair cmp l pair) inv.contents ∙ sym (put_one_more (put_pair cmp) first inv.put pair));
      noted = (
        inv.noted.0 ++ done.pair ∷ [],
        subst (λ es. CanUndoAll cmp es (inv.noted.0 ++ done.pair ∷ []) first c.insert_noted.new.self.contents) (sym done.noted.1)
            (subst (CanUndoAll cmp (undo ++ entry ∷ []) (inv.noted.0 ++ done.pair ∷ []) first) (sym done.put)
            (undo_more cmp undo inv.noted.0 first c.pairs.self.contents entry done.pair inv.noted.1 done.noted.2)),
      );
      room = omega (arith, inv.room, c.in-Some.ensures.len, more, c.insert_noted.ensures.capacity);
      back = omega (arith, inv.back, c.in-Some.ensures.len, c.pop.ensures.capacity, more);
    }
