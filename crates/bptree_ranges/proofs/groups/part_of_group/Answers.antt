use Rattle.std.proofs.Common.{◌≡◌, ◌-◌, ◌∙◌, ap, arith, length, min, subst, sym}
use Rattle.bptree_keys.specs.Ranges.{part}
use Rattle.bptree_ranges.specs.Ranges.{index_on, IsPart}
use Rattle.bptree_invariant.specs.Shape.{pairs_at}
use Rattle.bptree_ranges.proofs.Bordered.{of_group_is, group_rises}
use Rattle.bptree_ranges.proofs.Ranged.{contents_ascend, reached}
use Rattle.bptree_ranges.proofs.groups.part_of_group.Goals as goal

pub part_of_indexes-requires-clause-rises : goal.part_of_indexes-requires-clause-rises
part_of_indexes-requires-clause-rises g c =
    let slots = g.S.NodeStore.slots c.args.tree.now.store in
    let few = group_rises g.G.Ord.cmp g.G.FromRef.group_of c.args.group.now (pairs_at slots c.args.tree.now.height c.args.tree.now.root) in
    omega (arith, few, c.in_ok-front.ensures.1, c.in_ok-back.ensures.1)

pub part_of_indexes-requires-clause-reports : goal.part_of_indexes-requires-clause-reports
part_of_indexes-requires-clause-reports g c =
    let slots = g.S.NodeStore.slots c.args.tree.now.store in
    let fits : c.len-len.result ≡ length (pairs_at slots c.args.tree.now.height c.args.tree.now.root) = c.len-len.ensures.value ∙ ap length c.len-len.ensures.whole.contents in
    omega (arith, fits, c.in_ok-back.ensures.0.within, reached g.S.Argument.Argument.is_summary slots c.args.tree.now.height c.args.tree.now.root c.len-len.ensures.whole.shape c.in_ok-back.back.leaf c.in_ok-back.ensures.0.stored)

pub returns : goal.returns
returns g c =
    let total = g.met.S.K.Ord.total in
    let slots = g.S.NodeStore.slots c.args.tree.now.store in
    let pairs = pairs_at slots c.args.tree.now.height c.args.tree.now.root in
    let i = index_on slots c.args.tree.now.height c.args.tree.now.root c.in_ok-front.front in
    let j = index_on slots c.args.tree.now.height c.args.tree.now.root c.in_ok-back.back in
    let ends = reached g.S.Argument.Argument.is_summary slots c.args.tree.now.height c.args.tree.now.root c.len-len.ensures.whole.shape c.in_ok-back.back.leaf c.in_ok-back.ensures.0.stored in
    let fits : c.len-len.result ≡ length (pairs_at slots c.args.tree.now.height c.args.tree.now.root) = c.len-len.ensures.value ∙ ap length c.len-len.ensures.whole.contents in
    let all : min c.len-len.result (j - i) ≡ j - i = omega (arith, fits, c.in_ok-back.ensures.0.within, ends) in
    let is = of_group_is total g.met.G.Ord.total g.G.FromRef.group_of g.met.G.FromRef.keeps_order c.args.group.now pairs i j (contents_ascend g.S.Argument.Argument.is_summary slots c.args.tree.now.height c.args.tree.now.root c.len-len.ensures.whole.shape total) c.in_ok-front.ensures.1 c.in_ok-back.ensures.1 in
    rw c.len-len.ensures.whole.contents
    (subst (IsPart slots c.args.tree.now.height c.args.tree.now.root c.part_of_indexes.result) (ap (part pairs i) all ∙ sym is) c.part_of_indexes.ensures)
