use Rattle.std.proofs.Common.{◌≡◌, ◌+◌, ◌∙◌, Some, ap, arith, drop, subst}
use Rattle.std.proofs.lemmas.Result.{IfOk-weaker}
use Rattle.std.specs.Map.{keys_of}
use Rattle.std.specs.Option.{option_copied}
use Rattle.bptree_bulk.proofs.Segments.{has_first, piece}
use Rattle.bptree_bulk.specs.Cut.{first_key}
use Rattle.bptree_keys.specs.Ranges.{between}
use Rattle.bptree_invariant.specs.Leaves.{pairs_of}
use Rattle.bptree_bulk.proofs.around.sum_piece.Goals as goal

pub returns : goal.returns
returns g c =
    let same : c.tree.inside.store ≡ c.args.tree.now.store = ap (λ t. t.store) c.tree.view_is in
    let l = pairs_of (g.S.NodeStore.slots c.args.tree.now.store) c.args.ids.now in
    let all = c.args.tree.now.contents in
    let first = has_first l c.args.from (omega (arith, c.requires.some, c.requires.within)) in
    let starts : option_copied c.key_at-first.result ≡ Some first.0 = (rw same at c.key_at-first.ensures) ∙ first.1 in
    let ends : option_copied c.key_at-after.result ≡ first_key (drop (c.args.from + c.args.count) l) = rw same at c.key_at-after.ensures in
    let these = piece g.met.S.K.Ord.total l c.requires.last.0 c.args.from c.args.count all c.requires.last.1 c.recall.ensures.ascending c.requires.some c.requires.within first.0 first.1 in
    let are = ap (λ o. between g.S.K.Ord.cmp all o (option_copied c.key_at-after.result)) starts ∙ (ap (between g.S.K.Ord.cmp all (Some first.0)) ends ∙ these.0) in
    IfOk-weaker c.summary_between.result _ _ (λ sum. subst (λ pairs. g.S.Argument.Argument.is_summary sum (keys_of pairs)) are) c.summary_between.ensures
