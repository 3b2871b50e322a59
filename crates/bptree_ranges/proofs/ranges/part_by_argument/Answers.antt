use Rattle.std.proofs.Common.{◌+◌, None, Some}
use Rattle.bptree_ranges.specs.Ranges.{start}
use Rattle.bptree_ranges.proofs.Ranged.{selected_index, selected_within, empty_part}
use Rattle.bptree_search.specs.ByArgument.{IsSelectedAt}
use Rattle.bptree_ranges.proofs.ranges.part_by_argument.Goals as goal

pub returns-in-None-clause-part : goal.returns-in-None-clause-part
returns-in-None-clause-part g c =
    let slots = g.S.NodeStore.slots c.args.tree.now.store in
    rw c.recall.ensures.whole.contents (
      None,
      tt,
      rw c.in-None.is at c.in_ok-find_by_argument.ensures.selected,
      rw c.no_part.ensures (empty_part slots c.args.tree.now.height c.args.tree.now.root c.start_of_all.result c.start_of_all.ensures.index),
    )

pub part_from-requires : goal.part_from-requires
part_from-requires g c =
    let slots = g.S.NodeStore.slots c.args.tree.now.store in
    (selected_index g.S.Argument.Argument.is_summary slots c.args.tree.now.height c.args.tree.now.root c.recall.ensures.whole.shape g.S.Argument.SearchArgument.selects c.args.query c.in-Some.front.leaf c.in-Some.front.slot (rw c.in-Some.is at c.in_ok-find_by_argument.ensures.selected)).0

pub returns-in-Some-clause-part : goal.returns-in-Some-clause-part
returns-in-Some-clause-part g c =
    let sum = g.S.Argument.Argument.is_summary in
    let slots = g.S.NodeStore.slots c.args.tree.now.store in
    let selects = g.S.Argument.SearchArgument.selects in
    let leaf = c.in-Some.front.leaf in
    let slot = c.in-Some.front.slot in
    rw c.recall.ensures.whole.contents
    (let found : IsSelectedAt selects c.args.query slots c.args.tree.now.height c.args.tree.now.root (Some c.in-Some.front) = rw c.in-Some.is at c.in_ok-find_by_argument.ensures.selected in (
      Some (start slots c.args.tree.now.height c.args.tree.now.root leaf + slot),
      selected_within sum slots c.args.tree.now.height c.args.tree.now.root c.recall.ensures.whole.shape selects c.args.query leaf slot found,
      (selected_index sum slots c.args.tree.now.height c.args.tree.now.root c.recall.ensures.whole.shape selects c.args.query leaf slot found).1,
      c.part_from.ensures,
    ))
