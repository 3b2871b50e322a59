use Rattle.std.proofs.Common.{subst, sym}
use Rattle.bptree_arguments.specs.Groups.{of_group}
use Rattle.bptree_ranges.specs.Ranges.{index_on, IsPart}
use Rattle.bptree_invariant.specs.Shape.{pairs_at}
use Rattle.bptree_ranges.proofs.GroupIndexes.{rest_of_group}
use Rattle.bptree_ranges.proofs.Ranged.{contents_ascend, empty_part, part_past}
use Rattle.bptree_ranges.proofs.groups.part_within_group.Goals as goal

pub returns-in-None : goal.returns-in-None
returns-in-None g c =
    let slots = g.S.NodeStore.slots c.args.tree.now.store in
    let pairs = pairs_at slots c.args.tree.now.height c.args.tree.now.root in
    let less = rw c.in-None.is at c.in_ok-index_in_group.ensures in
    let none = part_past (of_group g.G.Ord.cmp g.G.FromRef.group_of c.args.group.now pairs) c.args.i c.args.n less in
    rw c.recall.ensures.whole.contents
    (subst (IsPart slots c.args.tree.now.height c.args.tree.now.root c.no_part.result) (sym none) (rw c.no_part.ensures (empty_part slots c.args.tree.now.height c.args.tree.now.root c.start_of_all.result c.start_of_all.ensures.index)))

pub part_of_indexes-requires-clause-front : goal.part_of_indexes-requires-clause-front
part_of_indexes-requires-clause-front g c =
    (rw c.in-Some.is at c.in_ok-index_in_group.ensures).0

pub part_of_indexes-requires-clause-rises : goal.part_of_indexes-requires-clause-rises
part_of_indexes-requires-clause-rises g c =
    let slots = g.S.NodeStore.slots c.args.tree.now.store in
    let pairs = pairs_at slots c.args.tree.now.height c.args.tree.now.root in
    let there = rw c.in-Some.is at c.in_ok-index_in_group.ensures in
    (rest_of_group g.met.S.K.Ord.total g.met.G.Ord.total g.G.FromRef.group_of g.met.G.FromRef.keeps_order c.args.group.now pairs (index_on slots c.args.tree.now.height c.args.tree.now.root c.in-Some.front) (index_on slots c.args.tree.now.height c.args.tree.now.root c.in_ok-back-in-Some.back) c.args.i c.args.n (contents_ascend g.S.Argument.Argument.is_summary slots c.args.tree.now.height c.args.tree.now.root c.recall.ensures.whole.shape g.met.S.K.Ord.total) there.1 there.2 c.in_ok-back-in-Some.ensures.1).0

pub returns-in_ok-back-in-Some : goal.returns-in_ok-back-in-Some
returns-in_ok-back-in-Some g c =
    let slots = g.S.NodeStore.slots c.args.tree.now.store in
    let pairs = pairs_at slots c.args.tree.now.height c.args.tree.now.root in
    let there = rw c.in-Some.is at c.in_ok-index_in_group.ensures in
    rw c.recall.ensures.whole.contents
    (subst (IsPart slots c.args.tree.now.height c.args.tree.now.root c.part_of_indexes.result) (rest_of_group g.met.S.K.Ord.total g.met.G.Ord.total g.G.FromRef.group_of g.met.G.FromRef.keeps_order c.args.group.now pairs (index_on slots c.args.tree.now.height c.args.tree.now.root c.in-Some.front) (index_on slots c.args.tree.now.height c.args.tree.now.root c.in_ok-back-in-Some.back) c.args.i c.args.n (contents_ascend g.S.Argument.Argument.is_summary slots c.args.tree.now.height c.args.tree.now.root c.recall.ensures.whole.shape g.met.S.K.Ord.total) there.1 there.2 c.in_ok-back-in-Some.ensures.1).1 c.part_of_indexes.ensures)
