use Rattle.std.proofs.Common.{◌≡◌, ◌+◌, ◌-◌, ◌≤◌, length, slice_get, arith}
use Rattle.std.specs.Map.Iter.{deref_pair}
use Rattle.std.specs.Option.{option_map}
use Rattle.bptree_invariant.specs.Shape.{pairs_at}
use Rattle.bptree_batches.proofs.SelectLemmas.{shown_group_more, all_shown}
use Rattle.bptree_batches.proofs.selects.select_groups.Goals as goal

pub groups-preserved : goal.groups-preserved
groups-preserved g c =
    let pairs = pairs_at (g.S.NodeStore.slots c.args.store.now) c.args.height c.args.root in
    let n = c.groups.at in
    let end = n + c.min.result in
    let indexes = c.args.indexes.now in
    let within : end ≤ length indexes = omega arith in
    let ends : n + (end - n) ≡ end = omega arith in
    let long : length c.groups.found ≡ length indexes = omega arith in
    record {
      within = within;
      found =
          shown_group_more (option_map deref_pair) (slice_get pairs) indexes c.args.found.now c.groups.found c.select_group.new.found n (end - n) end c.groups.invariant.found ends within c.requires.found long c.select_group.ensures;
    }

pub returns : goal.returns
returns g c =
    let pairs = pairs_at (g.S.NodeStore.slots c.args.store.now) c.args.height c.args.root in
    all_shown (option_map deref_pair) (slice_get pairs) c.args.indexes.now c.args.found.now c.groups.found c.groups.at c.groups.invariant.found (omega arith) c.requires.found
