use Rattle.std.proofs.Common.{◌≡◌, ◌∙◌, ◌++◌, ap, sym}
use Rattle.std.proofs.lemmas.Result.{on_ok_weaker}
use Rattle.bptree_bulk.proofs.Weaves.{put_above, put_below}
use Rattle.bptree_tree.proofs.tree.BPlusTree.move_all.Goals as goal

pub returns-then-is_below-clause-ok : goal.returns-then-is_below-clause-ok
returns-then-is_below-clause-ok g c =
    let one = c.args.self.now.contents in
    let other = c.args.other.now.contents in
    let joined = sym (put_above g.S.K.Ord.cmp g.met.S.K.Ord.total one other (c.is_below.ensures c.if-is_below.true)) in
    on_ok_weaker c.join.result (λ (all : c.join.new.self.contents ≡ one ++ other). all ∙ joined) c.join.ensures.ok

pub returns-then-is_below-2-clause-ok : goal.returns-then-is_below-2-clause-ok
returns-then-is_below-2-clause-ok g c =
    let joined = sym (put_below g.S.K.Ord.cmp g.met.S.K.Ord.total c.args.self.now.contents c.args.other.now.contents (c.is_below-2.ensures c.if-is_below-2.true)) in
    ap (λ t. t.contents) c.swap.ensures.x_after ∙ (c.in_ok-join.ensures.ok ∙ joined)
