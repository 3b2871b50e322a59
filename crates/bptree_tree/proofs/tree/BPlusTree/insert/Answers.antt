use Rattle.std.proofs.Common.{◌∙◌, sym, refl, arith, true, false}
use mathlib.Core.Bool.{true≢false}
use Rattle.bptree_tree.proofs.Counted.{has_read}
use Rattle.bptree_tree.proofs.tree.BPlusTree.insert.Goals as goal
use Rattle.bptree_tree.proofs.tree.BPlusTree.insert.Goals.{else-is_full-via-then-is_full+else-is_none, else-is_full-via-else-is_full, in-Ok, in-Err}

pub returns-then-is_none-clause-present : goal.returns-then-is_none-clause-present
returns-then-is_none-clause-present g c = λ there. sym (has_read g.S.K.Ord.cmp c.args.self.now.contents c.args.k c.get.result false c.get.ensures c.if-is_none.ensures) ∙ there

pub returns-then-is_none-clause-full : goal.returns-then-is_none-clause-full
returns-then-is_none-clause-full g c =
    let absent = has_read g.S.K.Ord.cmp c.args.self.now.contents c.args.k c.get.result false c.get.ensures c.if-is_none.ensures in
    (λ e. (rw (← c.self.view_is) (sym c.len.ensures.value ∙ c.if-is_full.ensures.full refl), absent), λ facts. refl)

pub upsert-requires : goal.upsert-requires
upsert-requires g c absent =
    elim c.else-is_full.branch [
      | else-is_full-via-then-is_full+else-is_none w ↦ absurd (true≢false (sym (has_read g.S.K.Ord.cmp c.args.self.now.contents c.args.k w.get.result true w.get.ensures w.if-is_none.ensures) ∙ (rw (← c.self.view_is) absent)))
      | else-is_full-via-else-is_full w ↦ omega (arith, c.len.ensures.value, w.if-is_full.ensures.room refl, c.len.type_inv)
    ]

pub returns-clause-full : goal.returns-clause-full
returns-clause-full g c =
    elim c.match-upsert.branch [
      | in-Ok w ↦ rw w.result-is (
        λ e. cc,
        λ facts. absurd (elim c.else-is_full.branch [
          | else-is_full-via-then-is_full+else-is_none v ↦ true≢false (sym (has_read g.S.K.Ord.cmp c.args.self.now.contents c.args.k v.get.result true v.get.ensures v.if-is_none.ensures) ∙ facts.1)
          | else-is_full-via-else-is_full v ↦ v.if-is_full.ensures.room refl (c.len.ensures.value ∙ (rw (← c.self.view_is) at facts.0))
        ]),
      )
      | in-Err w ↦ rw w.result-is (
        λ e. cc,
        λ facts. absurd (elim c.else-is_full.branch [
          | else-is_full-via-then-is_full+else-is_none v ↦ true≢false (sym (has_read g.S.K.Ord.cmp c.args.self.now.contents c.args.k v.get.result true v.get.ensures v.if-is_none.ensures) ∙ facts.1)
          | else-is_full-via-else-is_full v ↦ v.if-is_full.ensures.room refl (c.len.ensures.value ∙ (rw (← c.self.view_is) at facts.0))
        ]),
      )
    ]
