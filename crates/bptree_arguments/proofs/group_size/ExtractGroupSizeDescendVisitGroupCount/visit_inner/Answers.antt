use Rattle.std.proofs.Common.{Some, arith, ap, ◌∙◌}
use Rattle.std.proofs.lemmas.List.{length-map}
use Rattle.std.specs.Map.{keys_of}
use Rattle.bptree_arguments.specs.Visits.{returned, key_pieces}
use Rattle.bptree_keys.proofs.PieceLemmas.{AllZip-length}
use Rattle.bptree_arguments.proofs.VisitLemmas.{keys_of-flatten, piece_at-keys}
use Rattle.bptree_arguments.proofs.GroupSizeLemmas.{count_all, count_none, count_below, count_same, count_down, count_begun, count_over}
use Rattle.bptree_arguments.proofs.group_size.ExtractGroupSizeDescendVisitGroupCount.visit_inner.Goals as goal
use Rattle.bptree_arguments.proofs.group_size.ExtractGroupSizeDescendVisitGroupCount.visit_inner.Goals.{in-None, in-Some+in-Less, in-Some+in-Equal}

pub loop-i-init : goal.loop-i-init
loop-i-init g c = record {
  same = ap (λ v. v.group) c.self.view_is;
  sum = λ pieces are summaries. omega (arith, ap (λ v. v.counted) c.self.view_is);
}

pub returns-in-Less-cmp : goal.returns-in-Less-cmp
returns-in-Less-cmp g c = record {
  step = λ pieces are summaries wide.
      let down = count_down g.K.Ord.cmp g.G.Ord.cmp g.G.FromRef.group_of g.met.G.FromRef.keeps_order g.met.G.Ord.total c.args.self.now.group (key_pieces pieces) are c.args.arguments.now summaries c.loop-i.i c.loop-i-test.true c.args.self.now.counted c.loop-i.counted (c.loop-i.invariant.sum (key_pieces pieces) are summaries) c.index-arguments-i.result c.index-arguments-i.is c.in-Some.ends c.in-Some.ensures.ends (rw c.loop-i.invariant.same at c.in-Greater.ensures) in (
        λ l outcome e. rw (keys_of-flatten, ← down) (rw (c.loop-i.invariant.same, ← piece_at-keys pieces c.loop-i.i) at e),
        λ past. absurd (omega (arith, past, c.loop-i-test.true, AllZip-length _ c.args.arguments.now (key_pieces pieces) summaries, length-map pieces (λ p. keys_of p))),
      );
}

pub returns-in-Equal-cmp : goal.returns-in-Equal-cmp
returns-in-Equal-cmp g c = record {
  step = λ pieces are summaries wide.
      rw keys_of-flatten (ap (λ n. returned (Some n)) (c.saturating_add.ensures ∙ count_begun g.K.Ord.cmp g.G.Ord.cmp g.G.FromRef.group_of g.met.G.FromRef.keeps_order g.met.G.Ord.total c.args.self.now.group (key_pieces pieces) are c.args.arguments.now summaries c.loop-i.i c.loop-i-test.true c.args.self.now.counted c.loop-i.counted (c.loop-i.invariant.sum (key_pieces pieces) are summaries) c.index-arguments-i.result c.index-arguments-i.is c.in-Some.ends c.in-Some.ensures.ends (rw c.loop-i.invariant.same at c.in-Greater.ensures) (rw c.loop-i.invariant.same at c.in-Equal-cmp.ensures)));
}

pub returns-in-Greater-cmp : goal.returns-in-Greater-cmp
returns-in-Greater-cmp g c = record {
  step = λ pieces are summaries wide.
      rw keys_of-flatten (ap (λ n. returned (Some n)) (count_over g.K.Ord.cmp g.G.Ord.cmp g.G.FromRef.group_of g.met.G.FromRef.keeps_order g.met.G.Ord.total c.args.self.now.group (key_pieces pieces) are c.args.arguments.now summaries c.loop-i.i c.loop-i-test.true c.args.self.now.counted c.loop-i.counted (c.loop-i.invariant.sum (key_pieces pieces) are summaries) c.index-arguments-i.result c.index-arguments-i.is c.in-Some.ends c.in-Some.ensures.ends (rw c.loop-i.invariant.same at c.in-Greater.ensures) (rw c.loop-i.invariant.same at c.in-Greater-cmp.ensures)));
}

pub loop-i-preserved : goal.loop-i-preserved
loop-i-preserved g c = record {
  same = c.loop-i.invariant.same;
  sum = λ pieces are summaries.
      elim c.match-ends.branch [
        | in-None w ↦ rw w.counted-is (count_none g.K.Ord.cmp g.G.Ord.cmp g.G.FromRef.group_of g.met.G.FromRef.keeps_order g.met.G.Ord.total c.args.self.now.group pieces are c.args.arguments.now summaries c.loop-i.i c.loop-i-test.true c.args.self.now.counted c.loop-i.counted (c.loop-i.invariant.sum pieces are summaries) c.index-arguments-i.result c.index-arguments-i.is w.in-None.ensures.ends)
        | in-Some+in-Less w ↦ rw w.counted-is (count_below g.K.Ord.cmp g.G.Ord.cmp g.G.FromRef.group_of g.met.G.FromRef.keeps_order g.met.G.Ord.total c.args.self.now.group pieces are c.args.arguments.now summaries c.loop-i.i c.loop-i-test.true c.args.self.now.counted c.loop-i.counted (c.loop-i.invariant.sum pieces are summaries) c.index-arguments-i.result c.index-arguments-i.is w.in-Some.ends w.in-Some.ensures.ends (rw c.loop-i.invariant.same at w.in-Less.ensures))
        | in-Some+in-Equal w ↦ rw (w.counted-is, w.saturating_add-counted.ensures) (count_same g.K.Ord.cmp g.G.Ord.cmp g.G.FromRef.group_of g.met.G.FromRef.keeps_order g.met.G.Ord.total c.args.self.now.group pieces are c.args.arguments.now summaries c.loop-i.i c.loop-i-test.true c.args.self.now.counted c.loop-i.counted (c.loop-i.invariant.sum pieces are summaries) c.index-arguments-i.result c.index-arguments-i.is w.in-Some.ends w.in-Some.ensures.ends (rw c.loop-i.invariant.same at w.in-Equal.ensures))
      ];
}

pub returns : goal.returns
returns g c = record {
  step = λ pieces are summaries wide.
      rw keys_of-flatten (ap (λ n. returned (Some n)) (count_all g.G.Ord.cmp g.G.FromRef.group_of c.args.self.now.group (key_pieces pieces) c.args.arguments.now summaries c.loop-i.i c.loop-i-test.false c.args.self.now.counted c.loop-i.counted (c.loop-i.invariant.sum (key_pieces pieces) are summaries)));
}
