use Rattle.std.proofs.Common.{◌≡◌, ◌∙◌, ◌+◌, ◌-◌, ◌++◌, ◌≤◌, ap, arith, drop, length, length-append, subst, sym, Some}
use Rattle.std.specs.Option.{option_copied}
use Rattle.std.proofs.lemmas.Result.{IfOk-weaker}
use Rattle.bptree_bulk.proofs.Kept.{both_summed, parts_ascend, starts_longer}
use Rattle.bptree_bulk.proofs.Segments.{piece, piece_len}
use Rattle.bptree_bulk.specs.Cut.{first_key}
use Rattle.bptree_keys.specs.Contents.{IsAscending}
use Rattle.bptree_keys.specs.Ranges.{part}
use Rattle.bptree_ranges.proofs.Sums.{two_pushed}
use Rattle.bptree_invariant.specs.Leaves.{pairs_of}
use Rattle.bptree_invariant.proofs.Ordered.{ascending_after}
use Rattle.bptree_bulk.proofs.around.plan_across.Goals as goal

pub returns : goal.returns
returns g c =
    let same : c.tree.inside.store ≡ c.args.tree.now.store = ap (λ t. t.store) c.tree.view_is in
    let total = g.met.S.K.Ord.total in
    let l = pairs_of (g.S.NodeStore.slots c.args.tree.now.store) c.args.ids.now in
    let all = c.args.tree.now.contents in
    let before = c.requires.last.0 in
    let is = c.requires.last.1 in
    let ascending = c.recall.ensures.ascending in
    let from = c.args.before - c.args.one in
    let within : from + c.args.one ≤ length l = omega (arith, c.requires.one, c.requires.order, c.requires.within) in
    let first : first_key (drop from l) ≡ Some c.unwrap.result.now = sym (rw same at c.key_at.ensures) ∙ ap option_copied c.unwrap.ensures in
    let these = piece total l before from c.args.one all is ascending c.requires.one.0 within c.unwrap.result.now first in
    let long = piece_len total l before from c.args.one all is ascending c.requires.one.0 within in
    let long-behind = piece_len total l before c.args.behind c.args.other all is ascending c.requires.other c.requires.within in
    let p = part l from c.args.one in
    let q = part l c.args.behind c.args.other in
    let sums = two_pushed _ _ _ c.deref.result.now c.in_ok-first.first c.in_ok-second.second c.in_ok-sums.ensures.items c.push_reserved.ensures.items c.push_reserved-2.ensures.items c.deref.ensures.value in
    let order : from + c.args.one ≤ c.args.behind = omega (arith, c.requires.one, c.requires.order) in
    let ascends = parts_ascend total l from c.args.one c.args.behind c.args.other order (ascending_after total before l (subst (IsAscending g.S.K.Ord.cmp) is ascending)) in
    let summed = both_summed g.S.K.Ord.cmp g.S.Argument.Argument.is_summary c.in_ok-first.first c.in_ok-second.second c.in_ok-summary.summary c.deref.result.now p q sums c.in_ok-summary.ensures.summary c.in_ok-first.ensures c.in_ok-second.ensures
    (omega (arith, long, c.requires.one)) (omega (arith, long-behind, c.requires.other)) (omega (arith, long, long-behind, c.requires.most)) ascends in
    IfOk-weaker c.plan_part.result _ _ (λ _ planned parts so_far.
    planned parts (p ++ q) so_far (omega (arith, length-append p q, long, long-behind, c.requires.most))
    (starts_longer total c.in_ok-start.start p q (omega (arith, long, c.requires.one)) (these.1 c.in_ok-start.start (g.met.S.K.Key.clone_is_equal c.unwrap.result.now c.in_ok-start.start c.in_ok-start.ensures.cases)))
    summed) c.plan_part.ensures
