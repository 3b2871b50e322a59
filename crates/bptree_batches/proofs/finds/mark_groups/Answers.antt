use Rattle.std.proofs.Common.{◌≡◌, ◌+◌, ◌-◌, ◌≤◌, length, arith, if◌then◌else◌}
use Rattle.bptree_keys.specs.Contents.{has}
use Rattle.bptree_invariant.specs.Shape.{pairs_at}
use Rattle.bptree_batches.proofs.EachLemmas.{mapped_group_more, all_returned}
use Rattle.bptree_batches.proofs.finds.mark_groups.Goals as goal

pub groups-preserved : goal.groups-preserved
groups-preserved g c =
    let pairs = pairs_at (g.S.NodeStore.slots c.args.store.now) c.args.height c.args.root in
    let n = c.groups.at in
    let end = n + c.min.result in
    let keys = c.args.keys.now in
    let within : end ≤ length keys = omega arith in
    let ends : n + (end - n) ≡ end = omega arith in
    let long : length c.groups.marks ≡ length keys = omega arith in
    record {
      within = within;
      marks =
          mapped_group_more (λ k. if has g.S.K.Ord.cmp pairs k then c.args.hit else c.args.miss) keys c.args.marks.now c.groups.marks c.mark_group.new.marks n (end - n) end c.groups.invariant.marks ends within c.requires.marks long
          c.mark_group.ensures;
    }

pub returns : goal.returns
returns g c =
    let pairs = pairs_at (g.S.NodeStore.slots c.args.store.now) c.args.height c.args.root in
    all_returned (λ k. if has g.S.K.Ord.cmp pairs k then c.args.hit else c.args.miss) c.args.keys.now c.args.marks.now c.groups.marks c.groups.at c.groups.invariant.marks (omega arith) c.requires.marks
