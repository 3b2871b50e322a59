use Rattle.std.proofs.Common.{◌≡◌, ◌∙◌, ◌≤◌, true, false, inl, inr, ap, arith, length, sym}
use Rattle.std.proofs.lemmas.Bool.Decides.{eqb_tells}
use Rattle.bptree_bulk.specs.Positions.{index_of_position}
use Rattle.bptree_ranges.proofs.Ranged.{reached}
use Rattle.bptree_tree.proofs.tree.range_removal.plan_drop.Goals.{else-is_start-via-then-is_start+else-is_end, else-is_start-via-else-is_start}
use Rattle.bptree_tree.proofs.tree.range_removal.plan_drop.Goals as goal

pub plan_removal-requires-clause-some : goal.plan_removal-requires-clause-some
plan_removal-requires-clause-some g c =
    let tree = c.args.tree.now in
    let lo = index_of_position g.S.NodeStore.slots tree c.args.lo in
    let hi = index_of_position g.S.NodeStore.slots tree c.args.hi in
    let on = c.requires.hi.on in
    let most : hi ≤ length tree.contents = omega (arith, on.within, reached g.S.Argument.Argument.is_summary (g.S.NodeStore.slots tree.store) tree.height tree.root c.recall.ensures.whole.shape c.args.hi.leaf on.stored, ap length c.recall.ensures.whole.contents) in
    elim c.else-is_start.branch [
      | else-is_start-via-then-is_start+else-is_end w ↦ elim (eqb_tells hi (length tree.contents)) [
        | inl end ↦ (let both : true ≡ false = sym (w.is_end.ensures.1 end.1) ∙ w.if-is_end.false in absurd cc)
        | inr more ↦ omega (arith, most, more.1)
      ]
      | else-is_start-via-else-is_start w ↦ elim (eqb_tells lo 0) [
        | inl none ↦ (let both : true ≡ false = sym (c.is_start.ensures.1 none.1) ∙ w.if-is_start.false in absurd cc)
        | inr some ↦ omega (arith, most, some.1)
      ]
    ]
