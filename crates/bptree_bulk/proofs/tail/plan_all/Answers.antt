use Rattle.std.proofs.Common.{arith, ap, length, subst}
use Rattle.std.proofs.lemmas.List.{length-drop}
use Rattle.bptree_bulk.specs.Filling.{IsFilling}
use Rattle.bptree_bulk.specs.Positions.{index_of_position}
use Rattle.bptree_bulk.specs.Split.{HasLeavesFor}
use Rattle.bptree_bulk.proofs.tail.plan_all.Goals as goal

pub plan_tail-requires-clause-count : goal.plan_tail-requires-clause-count
plan_tail-requires-clause-count g c =
    let all = c.args.tree.now.contents in
    omega (arith, c.requires, ap length c.start_of.ensures.all, length-drop (index_of_position g.S.NodeStore.slots c.args.tree.now c.start_of.result) all, c.len.ensures.value)

pub returns-clause-filling : goal.returns-clause-filling
returns-clause-filling g c = subst (IsFilling g.S.K.Ord.cmp g.S.Argument.Argument.is_summary g.S.NodeStore.slots c.in_ok-filling.filling) c.start_of.ensures.all c.in_ok-filling.ensures.tail

pub returns-clause-room : goal.returns-clause-room
returns-clause-room g c =
    let fills = subst (IsFilling g.S.K.Ord.cmp g.S.Argument.Argument.is_summary g.S.NodeStore.slots c.in_ok-filling.filling) c.start_of.ensures.all c.in_ok-filling.ensures.tail in
    subst (λ n. HasLeavesFor n c.in_ok-filling.filling.pairs) fills.count c.in_ok-filling.ensures.room
