use Rattle.std.proofs.lemmas.Result.{IfOk-weaker}
use Rattle.bptree_ranges.proofs.Runs.{no_part, whole_part, tail_part}
use Rattle.bptree_removal.proofs.Deleted.{alike}
use Rattle.bptree_tree.proofs.tree.BPlusTree.part_argument.Goals as goal

pub returns-in_default : goal.returns-in_default
returns-in_default g c =
    let selects = g.S.Argument.SearchArgument.selects in
    let l = c.args.self.now.contents in
    no_part g.met.S.K.Ord.total (alike g.met.S.K.Ord.total) l c.recall.ensures.ascending g.S.Argument.Argument.is_summary selects c.args.from c.args.to c.default.result
    (rw c.in_default.is at c.in_ok-lo.ensures.selected) (g.met.S.Argument.Argument.default_is_summary c.default.result c.default.ensures)

pub returns-in-Some-2 : goal.returns-in-Some-2
returns-in-Some-2 g c =
    let selects = g.S.Argument.SearchArgument.selects in
    let l = c.args.self.now.contents in
    IfOk-weaker c.range_argument.result _ _
    (λ a sums. whole_part g.met.S.K.Ord.total (alike g.met.S.K.Ord.total) l c.recall.ensures.ascending g.S.Argument.Argument.is_summary selects c.args.from c.args.to a (c.in-Some.lo.now, c.in-Some.field-0-1.now) (c.in-Some-2.hi.now, c.in-Some-2.field-0-1.now)
    (rw c.in-Some.is at c.in_ok-lo.ensures.selected) (rw c.in-Some-2.is at c.in_ok-hi.ensures.selected) sums)
    c.range_argument.ensures

pub returns-in-None : goal.returns-in-None
returns-in-None g c =
    let selects = g.S.Argument.SearchArgument.selects in
    let l = c.args.self.now.contents in
    IfOk-weaker c.range_argument-in-None.result _ _
    (λ a sums. tail_part g.met.S.K.Ord.total (alike g.met.S.K.Ord.total) l c.recall.ensures.ascending g.S.Argument.Argument.is_summary selects c.args.from c.args.to a (c.in-Some.lo.now, c.in-Some.field-0-1.now)
    (rw c.in-Some.is at c.in_ok-lo.ensures.selected) (rw c.in-None.is at c.in_ok-hi.ensures.selected) sums)
    c.range_argument-in-None.ensures
