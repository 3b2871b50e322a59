use Rattle.std.proofs.Common.{◌≡◌, ◌+◌, ◌-◌, ◌≤◌, length, arith, unwrap_or, if◌then◌else◌}
use Rattle.bptree_keys.specs.Contents.{has, value}
use Rattle.bptree_invariant.specs.Shape.{pairs_at}
use Rattle.bptree_batches.proofs.EachLemmas.{group_more, mapped_group_more, all_returned}
use Rattle.bptree_batches.proofs.copies.copy_groups.Goals as goal

pub groups-preserved : goal.groups-preserved
groups-preserved g c =
    let cmp = g.S.K.Ord.cmp in
    let pairs = pairs_at (g.S.NodeStore.slots c.args.store.now) c.args.height c.args.root in
    let i = c.groups.invariant in
    let n = c.groups.at in
    let end = n + c.min.result in
    let keys = c.args.keys.now in
    let within : end ≤ length keys = omega arith in
    let ends : n + (end - n) ≡ end = omega arith in
    let long : length c.groups.marks ≡ length keys = omega arith in
    record {
      within = within;
      values =
          group_more (λ k old. unwrap_or (value cmp pairs k) old) keys c.args.values.now c.groups.values c.copy_group.new.values n (end - n) end i.values ends within c.requires.values c.copy_group.ensures.values;
      marks =
          mapped_group_more (λ k. if has cmp pairs k then c.args.hit else c.args.miss) keys c.args.marks.now c.groups.marks c.copy_group.new.marks n (end - n) end i.marks ends within c.requires.marks long c.copy_group.ensures.marks;
    }

pub returns-clause-marks : goal.returns-clause-marks
returns-clause-marks g c =
    let cmp = g.S.K.Ord.cmp in
    let pairs = pairs_at (g.S.NodeStore.slots c.args.store.now) c.args.height c.args.root in
    all_returned (λ k. if has cmp pairs k then c.args.hit else c.args.miss) c.args.keys.now c.args.marks.now c.groups.marks c.groups.at c.groups.invariant.marks (omega arith) c.requires.marks
