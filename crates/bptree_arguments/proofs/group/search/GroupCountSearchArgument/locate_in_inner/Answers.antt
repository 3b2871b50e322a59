use Rattle.std.proofs.Common.{arith}
use Rattle.std.proofs.lemmas.List.{take_all}
use Rattle.bptree_keys.proofs.PieceLemmas.{AllZip-length}
use Rattle.bptree_arguments.proofs.GroupSelectLemmas.{leads_same, leads_above, next_none, next_below, next_same}
use Rattle.bptree_arguments.proofs.group.search.GroupCountSearchArgument.locate_in_inner.Goals as goal
use Rattle.bptree_arguments.proofs.group.search.GroupCountSearchArgument.locate_in_inner.Goals.{in-None, in-Some+in-Less, in-Some+in-Equal+else-rest-size}

pub returns-then-rest-size-clause-leads : goal.returns-then-rest-size-clause-leads
returns-then-rest-size-clause-leads g c = λ pieces are summaries.
    leads_same g.K.Ord.cmp g.G.Ord.cmp g.G.FromRef.group_of g.met.G.FromRef.keeps_order g.met.G.Ord.total c.args.query.0 pieces are c.args.arguments.now summaries c.loop-i.i c.loop-i-test.true c.loop-i.rest c.args.query.1 (c.loop-i.invariant pieces are summaries) c.index-arguments-i.result c.index-arguments-i.is c.in-Some.greatest.now c.in-Some.size c.in-Some.ensures.greatest c.in-Equal.ensures c.if-rest-size.true

pub returns-in-Greater-clause-leads : goal.returns-in-Greater-clause-leads
returns-in-Greater-clause-leads g c = λ pieces are summaries.
    leads_above g.K.Ord.cmp g.G.Ord.cmp g.G.FromRef.group_of g.met.G.FromRef.keeps_order g.met.G.Ord.total c.args.query.0 pieces are c.args.arguments.now summaries c.loop-i.i c.loop-i-test.true c.loop-i.rest c.args.query.1 (c.loop-i.invariant pieces are summaries) c.index-arguments-i.result c.index-arguments-i.is c.in-Some.greatest.now c.in-Some.size c.in-Some.ensures.greatest c.in-Greater.ensures

pub loop-i-preserved : goal.loop-i-preserved
loop-i-preserved g c = λ pieces are summaries.
    elim c.match-max_group.branch [
      | in-None w ↦ rw w.rest-is (next_none g.K.Ord.cmp g.G.Ord.cmp g.G.FromRef.group_of g.met.G.FromRef.keeps_order g.met.G.Ord.total c.args.query.0 pieces are c.args.arguments.now summaries c.loop-i.i c.loop-i-test.true c.loop-i.rest c.args.query.1 (c.loop-i.invariant pieces are summaries) c.index-arguments-i.result c.index-arguments-i.is w.in-None.ensures.greatest)
      | in-Some+in-Less w ↦ rw w.rest-is (next_below g.K.Ord.cmp g.G.Ord.cmp g.G.FromRef.group_of g.met.G.FromRef.keeps_order g.met.G.Ord.total c.args.query.0 pieces are c.args.arguments.now summaries c.loop-i.i c.loop-i-test.true c.loop-i.rest c.args.query.1 (c.loop-i.invariant pieces are summaries) c.index-arguments-i.result c.index-arguments-i.is w.in-Some.greatest.now w.in-Some.size w.in-Some.ensures.greatest w.in-Less.ensures)
      | in-Some+in-Equal+else-rest-size w ↦ rw w.rest-is (next_same g.K.Ord.cmp g.G.Ord.cmp g.G.FromRef.group_of g.met.G.FromRef.keeps_order g.met.G.Ord.total c.args.query.0 pieces are c.args.arguments.now summaries c.loop-i.i c.loop-i-test.true c.loop-i.rest c.args.query.1 (c.loop-i.invariant pieces are summaries) c.index-arguments-i.result c.index-arguments-i.is w.in-Some.greatest.now w.in-Some.size w.in-Some.ensures.greatest w.in-Equal.ensures w.if-rest-size.false)
    ]

pub returns-clause-leads : goal.returns-clause-leads
returns-clause-leads g c = λ pieces are summaries.
    let whole = take_all c.loop-i.i pieces (omega (arith, c.loop-i-test.false, AllZip-length _ c.args.arguments.now pieces summaries)) in
    let passed = rw whole at (c.loop-i.invariant pieces are summaries) in
    omega (arith, passed)
