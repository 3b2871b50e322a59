use Rattle.std.proofs.Common.{◌∙◌, sym}
use mathlib.Core.Bool.{true≢false}
use Rattle.bptree_map.proofs.UpsertLemmas.{absent_if_none, there_if_read, updated_where}
use Rattle.bptree_map.proofs.map.BPlusTreeMap.upsert_with.Goals as goal

pub returns-in-Some-clause-changed : goal.returns-in-Some-clause-changed
returns-in-Some-clause-changed g c = λ _.
    (updated_where g.K.Ord.cmp c.args.self.now c.args.k g.F.FnOnce c.args.f c.in-Some.value.now c.f.new.arg2 c.in-Some.ensures.value search)

pub returns-in-Some-clause-absent : goal.returns-in-Some-clause-absent
returns-in-Some-clause-absent g c = λ absent.
    absurd (true≢false (sym (there_if_read g.K.Ord.cmp c.args.self.now c.args.k c.in-Some.value.now c.in-Some.ensures.value) ∙ absent))

pub returns-in-Some-clause-full : goal.returns-in-Some-clause-full
returns-in-Some-clause-full g c = (
  λ other. cc,
  λ full. absurd (true≢false (sym (there_if_read g.K.Ord.cmp c.args.self.now c.args.k c.in-Some.value.now c.in-Some.ensures.value) ∙ full.1)),
)

pub returns-in-Ok-clause-present : goal.returns-in-Ok-clause-present
returns-in-Ok-clause-present g c = λ there.
    absurd (true≢false (sym (there) ∙ absent_if_none g.K.Ord.cmp c.args.self.now c.args.k c.in-None.ensures.value))

pub returns-in-Ok-clause-changed : goal.returns-in-Ok-clause-changed
returns-in-Ok-clause-changed g c = λ there.
    absurd (true≢false (sym (there) ∙ absent_if_none g.K.Ord.cmp c.args.self.now c.args.k c.in-None.ensures.value))
