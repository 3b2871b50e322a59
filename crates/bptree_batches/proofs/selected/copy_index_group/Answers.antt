use Rattle.std.proofs.Common.{◌≡◌, Some, None, get_or, slice_get, refl, arith, unwrap_or, if◌then◌else◌}
use Rattle.std.specs.Map.Iter.{deref_pair}
use Rattle.std.specs.Option.{is_some, option_map}
use Rattle.bptree_batches.proofs.EachLemmas.{returned_more, stayed_more, all_returned}
use Rattle.bptree_batches.proofs.FindLemmas.{member_of, member_shows}
use Rattle.bptree_batches.proofs.selected.copy_index_group.Goals as goal
use Rattle.bptree_batches.proofs.selected.copy_index_group.Goals.{in-Some, in-None}

pub indexes-preserved : goal.indexes-preserved
indexes-preserved g c =
    let pairs = c.args.tree.now.contents in
    let i = c.indexes.invariant in
    let n = c.indexes.at in
    let indexes = c.args.indexes.now in
    let inside = c.indexes-test.true in
    let index = member_of indexes n inside in
    let j = get_or indexes n index in
    let all = c.get_index_many.new.found in
    elim c.match-found-at.branch [
      | in-Some w ↦
          let found : slice_get pairs j ≡ Some (w.in-Some.key.now, w.in-Some.value.now) = member_shows (option_map deref_pair) (slice_get pairs) all indexes n _ index (Some (w.in-Some.key, w.in-Some.value)) w.in-Some.is c.get_index_many.ensures inside in
          rw (w.keys-is, w.values-is, w.marks-is) record {
            within = omega arith;
            keys = returned_more (λ i old. unwrap_or (option_map (λ pair. pair.0) (slice_get pairs i)) old) indexes c.args.keys.now c.indexes.keys n index w.in-Some.key.now i.keys inside c.requires.keys (λ old. rw found refl);
            values = returned_more (λ i old. unwrap_or (option_map (λ pair. pair.1) (slice_get pairs i)) old) indexes c.args.values.now c.indexes.values n index w.in-Some.value.now i.values inside c.requires.values (λ old. rw found refl);
            marks = returned_more (λ i old. if is_some (slice_get pairs i) then c.args.hit else c.args.miss) indexes c.args.marks.now c.indexes.marks n index c.args.hit i.marks inside c.requires.marks (λ old. rw found refl);
          }
      | in-None w ↦
          let missed : slice_get pairs j ≡ None = member_shows (option_map deref_pair) (slice_get pairs) all indexes n _ index None w.in-None.is c.get_index_many.ensures inside in
          rw (w.keys-is, w.values-is, w.marks-is) record {
            within = omega arith;
            keys = stayed_more (λ i old. unwrap_or (option_map (λ pair. pair.0) (slice_get pairs i)) old) indexes c.args.keys.now c.indexes.keys n index i.keys inside c.requires.keys (λ old. rw missed refl);
            values = stayed_more (λ i old. unwrap_or (option_map (λ pair. pair.1) (slice_get pairs i)) old) indexes c.args.values.now c.indexes.values n index i.values inside c.requires.values (λ old. rw missed refl);
            marks = returned_more (λ i old. if is_some (slice_get pairs i) then c.args.hit else c.args.miss) indexes c.args.marks.now c.indexes.marks n index c.args.miss i.marks inside c.requires.marks (λ old. rw missed refl);
          }
    ]

pub returns-clause-marks : goal.returns-clause-marks
returns-clause-marks g c =
    let pairs = c.args.tree.now.contents in
    all_returned (λ i. if is_some (slice_get pairs i) then c.args.hit else c.args.miss) c.args.indexes.now c.args.marks.now c.indexes.marks c.indexes.at c.indexes.invariant.marks (omega arith) c.requires.marks
