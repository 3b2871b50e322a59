use Rattle.std.proofs.Common.{◌≡◌, ◌+◌, ◌<◌, suc, length, get_or, ap, sym, ◌∙◌, arith}
use Rattle.std.specs.Ordering.{is_gt}
use Rattle.bptree_sharded_map.proofs.Moved.{last_stays, descends_is}
use Rattle.bptree_sharded_map.proofs.whole.descends.Goals as goal

pub returns-then-at-bounds-clause-value : goal.returns-then-at-bounds-clause-value
returns-then-at-bounds-clause-value g c = sym (last_stays g.K.Ord.cmp c.args.bounds.now c.args.at c.if-at-bounds.true)

pub returns-clause-value : goal.returns-clause-value
returns-clause-value g c =
    let bounds = c.args.bounds.now in
    let next = c.index-bounds-at-2.result in
    let one : c.args.at + 1 ≡ suc c.args.at = omega arith in
    let short : suc c.args.at < length bounds = omega (arith, c.requires, c.if-at-bounds.false) in
    c.is_gt.ensures ∙ ap is_gt c.cmp.ensures
    ∙ sym (descends_is g.K.Ord.cmp bounds c.args.at c.index-bounds-at.result next short c.index-bounds-at.is (c.index-bounds-at-2.is ∙ ap (λ j. get_or bounds j next) one))
