use Rattle.std.proofs.Common.{◌≡◌, ◌∙◌, ap, arith, subst, sym, Some}
use Rattle.std.specs.Map.{keys_of}
use Rattle.std.specs.Option.{option_copied}
use Rattle.std.proofs.lemmas.Result.{IfOk-weaker}
use Rattle.bptree_bulk.proofs.Segments.{has_first, is_some, piece, piece_len}
use Rattle.bptree_keys.specs.Ranges.{between, part}
use Rattle.bptree_invariant.specs.Leaves.{pairs_of}
use Rattle.bptree_bulk.proofs.side.plan_piece.Goals as goal

pub unwrap-first-requires : goal.unwrap-first-requires
unwrap-first-requires g c =
    let same : c.tree.inside.store ≡ c.args.tree.now.store = ap (λ t. t.store) c.tree.view_is in
    let l = pairs_of (g.S.NodeStore.slots c.args.tree.now.store) c.args.ids.now in
    let first = has_first l c.args.from (omega (arith, c.requires.count, c.requires.within)) in
    is_some c.key_at.result first.0 ((rw same at c.key_at.ensures) ∙ first.1)

pub returns : goal.returns
returns g c =
    let same : c.tree.inside.store ≡ c.args.tree.now.store = ap (λ t. t.store) c.tree.view_is in
    let l = pairs_of (g.S.NodeStore.slots c.args.tree.now.store) c.args.ids.now in
    let all = c.args.tree.now.contents in
    let cmp = g.S.K.Ord.cmp in
    let first = sym (rw same at c.key_at.ensures) ∙ ap option_copied c.unwrap-first.ensures in
    let these = piece g.met.S.K.Ord.total l c.requires.last.0 c.args.from c.args.count all c.requires.last.1 c.recall.ensures.ascending c.requires.count.0 c.requires.within c.unwrap-first.result.now first in
    let long = piece_len g.met.S.K.Ord.total l c.requires.last.0 c.args.from c.args.count all c.requires.last.1 c.recall.ensures.ascending c.requires.count.0 c.requires.within in
    let summed = subst (λ after. g.S.Argument.Argument.is_summary c.in_ok-summary.summary (keys_of (between cmp all (Some c.unwrap-first.result.now) after))) (rw same at c.key_at-after.ensures) c.in_ok-summary.ensures in
    IfOk-weaker c.plan_part.result _ _ (λ _ planned parts before.
    planned parts (part l c.args.from c.args.count) before (omega (arith, c.requires.count, long))
    (these.1 c.in_ok-start.start (g.met.S.K.Key.clone_is_equal c.unwrap-first.result.now c.in_ok-start.start c.in_ok-start.ensures.cases))
    (subst (λ pairs. g.S.Argument.Argument.is_summary c.in_ok-summary.summary (keys_of pairs)) these.0 summed)) c.plan_part.ensures
