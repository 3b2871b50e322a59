use Rattle.std.proofs.Common.{◌≡◌, ◌+◌, ◌-◌, ◌++◌, ◌∷◌, [], ap, arith, drop, length, length-append, refl, subst, sym, take}
use Rattle.std.proofs.lemmas.Result.{IfOk-weaker}
use Rattle.bptree_bulk_load.specs.Rooms.{ArePlanned}
use Rattle.bptree_bulk.proofs.Passed.{filled_two}
use Rattle.bptree_bulk.proofs.Segments.{drop_more}
use Rattle.bptree_keys.specs.Ranges.{part}
use Rattle.bptree_invariant.specs.Leaves.{pairs_of}
use Rattle.bptree_bulk.proofs.side.plan_pieces.Goals as goal

pub overflow_add-from : goal.overflow_add-from
overflow_add-from g c =
    let l = pairs_of (g.S.NodeStore.slots c.args.tree.now.store) c.args.ids.now in
    let half = c.requires.half.two (omega (arith, c.if-half-eq0.false)) in
    omega (arith, half.2, c.requires.within, ap length c.requires.last.1, length-append c.requires.last.0 l, c.recall.ensures.fits)

pub returns : goal.returns
returns g c =
    let l = pairs_of (g.S.NodeStore.slots c.args.tree.now.store) c.args.ids.now in
    let rest = drop c.args.from l in
    let half = c.requires.half.two (omega (arith, c.if-half-eq0.false)) in
    IfOk-weaker c.plan_piece-3.result _ _ (λ _ planned parts before.
    let between = parts ++ part l c.args.from c.args.half ∷ [] in
    let after = between ++ part l (c.args.from + c.args.half) (c.args.count - c.args.half) ∷ [] in
    let two : after ≡ between ++ take (c.args.count - c.args.half) (drop c.args.half rest) ∷ [] = ap (λ m. between ++ take (c.args.count - c.args.half) m ∷ []) (sym (drop_more c.args.from c.args.half l)) in
    subst (ArePlanned g.S.K.Ord.cmp g.S.Argument.Argument.is_summary (g.S.NodeStore.slots c.plan_piece-3.new.plan.store) c.plan_piece-3.new.plan.ids.items c.plan_piece-3.new.plan.trees.items)
    (filled_two c.args.half c.args.count rest parts between after (omega (arith, half.0)) (omega (arith, half.2)) refl two) (planned between (c.in_ok-plan_piece.ensures parts before))) c.plan_piece-3.ensures
