use Rattle.std.proofs.Common.{◌≡◌, ◌∙◌, [], ap, sym}
use Rattle.bptree_bulk.specs.Weave.{put_all, put_pair}
use Rattle.bptree_bulk.proofs.Weaves.{put_none}
use Rattle.bptree_tree.proofs.tree.BPlusTree.append.Goals as goal

pub returns-then-is_empty-2-clause-ok : goal.returns-then-is_empty-2-clause-ok
returns-then-is_empty-2-clause-ok g c =
    let cmp = g.S.K.Ord.cmp in
    let other = c.args.other.now.contents in
    let none : c.args.self.now.contents ≡ [] = c.is_empty-2.ensures.0 c.if-is_empty-2.true in
    ap (λ t. t.contents) c.swap.ensures.x_after ∙ sym (ap (λ l. put_all (put_pair cmp) l other) none ∙ put_none cmp g.met.S.K.Ord.total other c.recall_whole-2.ensures.ascending)
