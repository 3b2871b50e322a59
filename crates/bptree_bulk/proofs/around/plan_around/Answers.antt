use Rattle.std.proofs.Common.{◌≡◌, ◌-◌, ◌++◌, ◌≤◌, ap, arith, length, subst, sym, ◌∙◌}
use Rattle.bptree_bulk_load.specs.Plans.{AddsPlan}
use Rattle.bptree_bulk.proofs.Kept.{kept_across, kept_before, kept_behind}
use Rattle.bptree_keys.specs.Ranges.{part}
use Rattle.bptree_invariant.specs.Leaves.{pairs_of}
use Rattle.bptree_bulk.proofs.around.plan_around.Goals as goal

pub returns-then-from-before : goal.returns-then-from-before
returns-then-from-before g c =
    let l = pairs_of (g.S.NodeStore.slots c.args.tree.now.store) c.args.ids.now in
    let short : c.args.before ≤ length l = omega (arith, c.requires.order, c.requires.behind) in
    let these = kept_behind l c.args.before c.args.behind c.args.from c.args.count short (omega (arith, c.if-from-before.true)) in
    subst (λ pairs. AddsPlan g.S.K.Ord.cmp g.S.Argument.Argument.is_summary g.S.NodeStore.slots c.args.plan.now c.plan_piece.new.plan pairs c.plan_piece.result) (sym these) c.plan_piece.ensures

pub returns-then-count-one : goal.returns-then-count-one
returns-then-count-one g c =
    let l = pairs_of (g.S.NodeStore.slots c.args.tree.now.store) c.args.ids.now in
    let short : c.args.before ≤ length l = omega (arith, c.requires.order, c.requires.behind) in
    let these = kept_before l c.args.before c.args.behind c.args.from c.args.count short (omega (arith, c.if-from-before.false, c.if-count-one.true)) in
    subst (λ pairs. AddsPlan g.S.K.Ord.cmp g.S.Argument.Argument.is_summary g.S.NodeStore.slots c.args.plan.now c.plan_piece-then-count-one.new.plan pairs c.plan_piece-then-count-one.result) (sym these) c.plan_piece-then-count-one.ensures

pub returns : goal.returns
returns g c =
    let l = pairs_of (g.S.NodeStore.slots c.args.tree.now.store) c.args.ids.now in
    let short : c.args.before ≤ length l = omega (arith, c.requires.order, c.requires.behind) in
    let one = c.args.before - c.args.from in
    let start : c.args.before - one ≡ c.args.from = omega (arith, c.if-from-before.false) in
    let these = kept_across l c.args.before c.args.behind c.args.from c.args.count short (omega (arith, c.if-from-before.false)) (omega (arith, c.if-from-before.false, c.if-count-one.false)) in
    let both = ap (λ n. part l n one ++ part l c.args.behind (c.args.count - one)) start in
    subst (λ pairs. AddsPlan g.S.K.Ord.cmp g.S.Argument.Argument.is_summary g.S.NodeStore.slots c.args.plan.now c.plan_across.new.plan pairs c.plan_across.result) (both ∙ sym these) c.plan_across.ensures
