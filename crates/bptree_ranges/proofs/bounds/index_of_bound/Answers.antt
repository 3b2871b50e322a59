use Rattle.std.proofs.Common.{◌∙◌, ap, sym}
use Rattle.std.specs.Option.{option_map}
use Rattle.bptree_search.specs.Neighbours.{leaf_of_result, slot_of_result}
use Rattle.bptree_search.proofs.Beside.{slot_fits}
use Rattle.bptree_keys.specs.Ends.{is_after, is_back}
use Rattle.bptree_ranges.specs.Bounds.{bound_copied}
use Rattle.bptree_ranges.specs.Ranges.{index_on}
use Rattle.bptree_invariant.specs.Shape.{pairs_at}
use Rattle.bptree_ranges.proofs.Bounded.{at_key, at_open_end, at_open_start, open_bound, index_at_side}
use Rattle.bptree_ranges.proofs.bounds.index_of_bound.Goals as goal

pub position_beside-requires : goal.position_beside-requires
position_beside-requires g c =
    let tree = c.args.tree.now in
    slot_fits g.met.S.K.Ord.total g.S.Argument.Argument.is_summary (g.S.NodeStore.slots tree.store) tree.height tree.root c.recall.ensures.whole.shape c.in-Some.key.now (leaf_of_result c.locate.result) (slot_of_result c.locate.result) c.locate.ensures

pub returns-in-Some : goal.returns-in-Some
returns-in-Some g c =
    let tree = c.args.tree.now in
    let slots = g.S.NodeStore.slots tree.store in
    let beside = index_at_side g.met.S.K.Ord.total g.S.Argument.Argument.is_summary slots tree.height tree.root c.recall.ensures.whole.shape c.in-Some.key.now c.locate.result (is_after c.in-Some.side) c.position_beside.result c.locate.ensures c.position_beside.ensures in
    record {
      index = beside.0;
      before = at_key g.S.K.Ord.cmp (pairs_at slots tree.height tree.root) (is_back c.args.end) (bound_copied c.args.bound) _ c.in-Some.key.now (is_after c.in-Some.side) (index_on slots tree.height tree.root c.position_beside.result) c.key_of_bound.ensures (ap (option_map _) c.in-Some.is) beside.1;
    }

pub returns-in-None-clause-before : goal.returns-in-None-clause-before
returns-in-None-clause-before g c =
    let tree = c.args.tree.now in
    let slots = g.S.NodeStore.slots tree.store in
    let open_end = open_bound (is_back c.args.end) (bound_copied c.args.bound) _ c.key_of_bound.ensures (ap (option_map _) c.in-None.is) in
    at_open_end g.S.K.Ord.cmp (pairs_at slots tree.height tree.root) (is_back c.args.end) (bound_copied c.args.bound) (index_on slots tree.height tree.root c.end_of_all.result) open_end (sym c.is_back.ensures ∙ c.if-is_back.true) c.end_of_all.ensures.end

pub returns-in-None-2-clause-before : goal.returns-in-None-2-clause-before
returns-in-None-2-clause-before g c =
    let tree = c.args.tree.now in
    let slots = g.S.NodeStore.slots tree.store in
    let open_start = open_bound (is_back c.args.end) (bound_copied c.args.bound) _ c.key_of_bound.ensures (ap (option_map _) c.in-None-2.is) in
    at_open_start g.S.K.Ord.cmp (pairs_at slots tree.height tree.root) (is_back c.args.end) (bound_copied c.args.bound) (index_on slots tree.height tree.root c.start_of_all.result) open_start (sym c.is_back.ensures ∙ c.if-is_back.false) c.start_of_all.ensures.start
