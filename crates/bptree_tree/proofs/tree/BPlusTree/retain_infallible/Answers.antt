use Rattle.bptree_tree.proofs.RetainLemmas.{asked_on, next_there, none_asked, some_cursor}
use Rattle.bptree_tree.proofs.tree.BPlusTree.retain_infallible.Goals as goal

pub pairs-init : goal.pairs-init
pairs-init g c =
    let at = rw c.unwrap-at.ensures at c.cursor_first.ensures.cursor in
    record {
      callable = c.requires.callable;
      asked = none_asked g.F.FnMut g.S.K.Ord.cmp c.args.f c.args.self.now.contents c.len-left.result c.unwrap-at.result c.len-left.ensures.value at;
    }

pub unwrap-here-requires : goal.unwrap-here-requires
unwrap-here-requires g c =
    some_cursor g.F.FnMut g.met.S.K.Ord.total c.args.f c.args.self.now.contents c.pairs.f c.pairs.self.contents c.pairs.left c.pairs.at c.pairs.invariant.asked c.pairs-test.true

pub keep_or_remove-f-requires-clause-there : goal.keep_or_remove-f-requires-clause-there
keep_or_remove-f-requires-clause-there g c =
    let asked = rw c.unwrap-here.ensures at c.pairs.invariant.asked in
    rw c.key.ensures (next_there g.F.FnMut g.met.S.K.Ord.total c.args.f c.args.self.now.contents c.pairs.f c.pairs.self.contents c.pairs.left c.unwrap-here.result asked c.pairs-test.true c.recall_whole.ensures.ascending)

pub pairs-preserved : goal.pairs-preserved
pairs-preserved g c =
    let asked = rw c.unwrap-here.ensures at c.pairs.invariant.asked in
    let kept = rw c.key.ensures at c.keep_or_remove-f.ensures.kept in
    let at = rw c.unwrap-at-in-pairs.ensures at c.next.ensures.cursor in
    record {
      callable = c.keep_or_remove-f.ensures.callable;
      asked = asked_on g.F.FnMut g.met.S.K.Ord.total c.args.f c.args.self.now.contents c.pairs.f c.pairs.self.contents c.pairs.left c.unwrap-here.result asked c.pairs-test.true c.recall_whole.ensures.ascending
          c.keep_or_remove-f.result c.keep_or_remove-f.new.self.contents c.unwrap-at-in-pairs.result kept at;
    }
