use Rattle.std.proofs.Common.{◌≡◌, true, false, get_or, refl, sym, ◌∙◌, arith, if◌then◌else◌}
use Rattle.std.specs.Option.{option_copied}
use Rattle.bptree_keys.specs.Contents.{has, value}
use Rattle.bptree_invariant.specs.Shape.{pairs_at}
use Rattle.bptree_batches.proofs.EachLemmas.{returned_more, all_returned}
use Rattle.bptree_batches.proofs.FindLemmas.{member_of, same_at, mark_found}
use Rattle.bptree_batches.proofs.finds.mark_group.Goals as goal
use Rattle.bptree_batches.proofs.finds.mark_group.Goals.{then-is_some, else-is_some}

pub keys-preserved : goal.keys-preserved
keys-preserved g c =
    let cmp = g.S.K.Ord.cmp in
    let pairs = pairs_at (g.S.NodeStore.slots c.args.store.now) c.args.height c.args.root in
    let n = c.keys.at in
    let keys = c.args.keys.now in
    let inside = c.keys-test.true in
    let key = member_of keys n inside in
    let k = get_or keys n key in
    let values = c.find_group.new.found in
    let value_there = get_or values n c.index-values-at.result in
    let same : option_copied value_there ≡ value cmp pairs k = same_at option_copied (value cmp pairs) values keys n c.index-values-at.result key c.find_group.ensures inside in
    let there : has cmp pairs k ≡ c.is_some.result = sym (c.is_some.ensures ∙ mark_found cmp pairs k (λ v. v.now) value_there same) in
    let marked = returned_more (λ k old. if has cmp pairs k then c.args.hit else c.args.miss) keys c.args.marks.now c.keys.marks n key in
    elim c.if-is_some.branch [
      | then-is_some w ↦
          let is : has cmp pairs k ≡ true = there ∙ w.if-is_some.true in
          rw w.marks-is record { within = omega arith; marks = marked c.args.hit c.keys.invariant.marks inside c.requires.marks (λ old. rw is refl) }
      | else-is_some w ↦
          let is : has cmp pairs k ≡ false = there ∙ w.if-is_some.false in
          rw w.marks-is record { within = omega arith; marks = marked c.args.miss c.keys.invariant.marks inside c.requires.marks (λ old. rw is refl) }
    ]

pub returns : goal.returns
returns g c =
    let pairs = pairs_at (g.S.NodeStore.slots c.args.store.now) c.args.height c.args.root in
    all_returned (λ k. if has g.S.K.Ord.cmp pairs k then c.args.hit else c.args.miss) c.args.keys.now c.args.marks.now c.keys.marks c.keys.at c.keys.invariant.marks (omega arith) c.requires.marks
