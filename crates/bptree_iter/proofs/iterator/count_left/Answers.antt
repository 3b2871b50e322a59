use Rattle.std.proofs.Common.{◌∙◌, ap, subst, length}
use Rattle.bptree_iter.proofs.SpanLemmas.{exact_length}
use Rattle.bptree_iter.specs.Span.{leaves_of, IsBetween}
use Rattle.bptree_iter.proofs.iterator.count_left.Goals as goal

pub returns-in-Exact : goal.returns-in-Exact
returns-in-Exact g c =
    let part = c.args.part in
    exact_length _ _ _ _ _ _ (subst (IsBetween (leaves_of (g.S.NodeStore.slots c.args.store.now)) part.front.leaf part.front.slot part.back.leaf part.back.slot part.limit) c.in-Exact.is c.requires)

pub returns-in-Open : goal.returns-in-Open
returns-in-Open g c =
    let end = c.end_of_first.result in
    let known = c.end_of_first.ensures in
    exact_length _ _ _ _ _ _ (subst (IsBetween (leaves_of (g.S.NodeStore.slots c.args.store.now)) end.front.leaf end.front.slot end.back.leaf end.back.slot end.limit) known.known known.part) ∙ ap length known.same.1
