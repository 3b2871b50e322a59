use Rattle.std.proofs.Common.{◌≡◌, Some, None, true, false, get_or, refl, sym, ap, ◌∙◌, arith, unwrap_or, if◌then◌else◌}
use Rattle.std.specs.Option.{is_some, option_copied}
use Rattle.bptree_keys.specs.Contents.{has, value}
use Rattle.bptree_keys.proofs.Equal.{has_where_value}
use Rattle.bptree_invariant.specs.Shape.{pairs_at}
use Rattle.bptree_batches.proofs.EachLemmas.{returned_more, stayed_more, all_returned}
use Rattle.bptree_batches.proofs.FindLemmas.{member_of, member_shows}
use Rattle.bptree_batches.proofs.copies.copy_group.Goals as goal
use Rattle.bptree_batches.proofs.copies.copy_group.Goals.{in-Some, in-None}

pub keys-preserved : goal.keys-preserved
keys-preserved g c =
    let cmp = g.S.K.Ord.cmp in
    let pairs = pairs_at (g.S.NodeStore.slots c.args.store.now) c.args.height c.args.root in
    let i = c.keys.invariant in
    let n = c.keys.at in
    let keys = c.args.keys.now in
    let inside = c.keys-test.true in
    let key = member_of keys n inside in
    let k = get_or keys n key in
    let all = c.find_group.new.found in
    elim c.match-found-at.branch [
      | in-Some w ↦
          let v = w.in-Some.value.now in
          let found : value cmp pairs k ≡ Some v = member_shows option_copied (value cmp pairs) all keys n _ key (Some w.in-Some.value) w.in-Some.is c.find_group.ensures inside in
          let there : has cmp pairs k ≡ true = sym (has_where_value cmp pairs k) ∙ ap is_some found in
          rw (w.values-is, w.marks-is) record {
            within = omega arith;
            values = returned_more (λ k old. unwrap_or (value cmp pairs k) old) keys c.args.values.now c.keys.values n key v i.values inside c.requires.values (λ old. rw found refl);
            marks = returned_more (λ k old. if has cmp pairs k then c.args.hit else c.args.miss) keys c.args.marks.now c.keys.marks n key c.args.hit i.marks inside c.requires.marks (λ old. rw there refl);
          }
      | in-None w ↦
          let missed : value cmp pairs k ≡ None = member_shows option_copied (value cmp pairs) all keys n _ key None w.in-None.is c.find_group.ensures inside in
          let absent : has cmp pairs k ≡ false = sym (has_where_value cmp pairs k) ∙ ap is_some missed in
          rw (w.values-is, w.marks-is) record {
            within = omega arith;
            values = stayed_more (λ k old. unwrap_or (value cmp pairs k) old) keys c.args.values.now c.keys.values n key i.values inside c.requires.values (λ old. rw missed refl);
            marks = returned_more (λ k old. if has cmp pairs k then c.args.hit else c.args.miss) keys c.args.marks.now c.keys.marks n key c.args.miss i.marks inside c.requires.marks (λ old. rw absent refl);
          }
    ]

pub returns-clause-marks : goal.returns-clause-marks
returns-clause-marks g c =
    let cmp = g.S.K.Ord.cmp in
    let pairs = pairs_at (g.S.NodeStore.slots c.args.store.now) c.args.height c.args.root in
    all_returned (λ k. if has cmp pairs k then c.args.hit else c.args.miss) c.args.keys.now c.args.marks.now c.keys.marks c.keys.at c.keys.invariant.marks (omega arith) c.requires.marks
