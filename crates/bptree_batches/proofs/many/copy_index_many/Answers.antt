use Rattle.std.proofs.Common.{◌≡◌, ◌+◌, ◌-◌, ◌≤◌, length, slice_get, arith, unwrap_or, if◌then◌else◌}
use Rattle.std.specs.Option.{is_some, option_map}
use Rattle.bptree_batches.proofs.EachLemmas.{group_more, mapped_group_more, all_returned}
use Rattle.bptree_batches.proofs.many.copy_index_many.Goals as goal

pub groups-preserved : goal.groups-preserved
groups-preserved g c =
    let pairs = c.args.tree.now.contents in
    let i = c.groups.invariant in
    let n = c.groups.at in
    let end = n + c.min.result in
    let indexes = c.args.indexes.now in
    let within : end ≤ length indexes = omega arith in
    let ends : n + (end - n) ≡ end = omega arith in
    let long : length c.groups.marks ≡ length indexes = omega arith in
    record {
      within = within;
      keys =
          group_more (λ i old. unwrap_or (option_map (λ pair. pair.0) (slice_get pairs i)) old) indexes c.args.keys.now c.groups.keys c.copy_index_group.new.keys n (end - n) end i.keys ends within c.requires.keys
          c.copy_index_group.ensures.keys;
      values =
          group_more (λ i old. unwrap_or (option_map (λ pair. pair.1) (slice_get pairs i)) old) indexes c.args.values.now c.groups.values c.copy_index_group.new.values n (end - n) end i.values ends within c.requires.values
          c.copy_index_group.ensures.values;
      marks =
          mapped_group_more (λ i. if is_some (slice_get pairs i) then c.args.hit else c.args.miss) indexes c.args.marks.now c.groups.marks c.copy_index_group.new.marks n (end - n) end i.marks ends within
          c.requires.marks long c.copy_index_group.ensures.marks;
    }

pub returns-clause-marks : goal.returns-clause-marks
returns-clause-marks g c =
    let pairs = c.args.tree.now.contents in
    all_returned (λ i. if is_some (slice_get pairs i) then c.args.hit else c.args.miss) c.args.indexes.now c.args.marks.now c.groups.marks c.groups.at c.groups.invariant.marks (omega arith) c.requires.marks
