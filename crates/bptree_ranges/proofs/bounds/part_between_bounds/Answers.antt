use Rattle.std.proofs.Common.{◌≡◌, ◌-◌, ◌∙◌, arith, ap, length, min, subst, sym}
use Rattle.bptree_keys.specs.Ranges.{part}
use Rattle.bptree_ranges.specs.Bounds.{bound_copied}
use Rattle.bptree_ranges.specs.Ranges.{index_on, IsPart}
use Rattle.bptree_invariant.specs.Shape.{pairs_at}
use Rattle.bptree_ranges.proofs.Bounded.{none_held, held_between}
use Rattle.bptree_ranges.proofs.Ranged.{empty_part, reached}
use Rattle.bptree_ranges.proofs.bounds.part_between_bounds.Goals as goal

pub returns-then-not-can_hold : goal.returns-then-not-can_hold
returns-then-not-can_hold g c =
    let slots = g.S.NodeStore.slots c.args.tree.now.store in
    let none = none_held g.met.S.K.Ord.total g.S.Argument.Argument.is_summary slots c.args.tree.now.height c.args.tree.now.root c.len-len.ensures.whole.shape (bound_copied c.args.lo) (bound_copied c.args.hi) c.can_hold.result c.can_hold.ensures c.if-not-can_hold.true in
    rw c.len-len.ensures.whole.contents
    (subst (IsPart slots c.args.tree.now.height c.args.tree.now.root c.no_part.result) (sym none) (rw c.no_part.ensures (empty_part slots c.args.tree.now.height c.args.tree.now.root c.index_of_bound-front.result c.index_of_bound-front.ensures.index)))

pub part_of_indexes-requires-clause-rises : goal.part_of_indexes-requires-clause-rises
part_of_indexes-requires-clause-rises g c =
    let slots = g.S.NodeStore.slots c.args.tree.now.store in
    let i = index_on slots c.args.tree.now.height c.args.tree.now.root c.index_of_bound-front.result in
    let j = index_on slots c.args.tree.now.height c.args.tree.now.root c.index_of_bound-back.result in
    (held_between g.met.S.K.Ord.total g.S.Argument.Argument.is_summary slots c.args.tree.now.height c.args.tree.now.root c.len-len.ensures.whole.shape (bound_copied c.args.lo) (bound_copied c.args.hi) c.can_hold.result c.can_hold.ensures i j c.index_of_bound-front.ensures.before c.index_of_bound-back.ensures.before c.if-not-can_hold.false).0

pub part_of_indexes-requires-clause-reports : goal.part_of_indexes-requires-clause-reports
part_of_indexes-requires-clause-reports g c =
    let slots = g.S.NodeStore.slots c.args.tree.now.store in
    let fits : c.len-len.result ≡ length (pairs_at slots c.args.tree.now.height c.args.tree.now.root) = c.len-len.ensures.value ∙ ap length c.len-len.ensures.whole.contents in
    omega (arith, fits, c.index_of_bound-back.ensures.index.within, reached g.S.Argument.Argument.is_summary slots c.args.tree.now.height c.args.tree.now.root c.len-len.ensures.whole.shape c.index_of_bound-back.result.leaf c.index_of_bound-back.ensures.index.stored)

pub returns : goal.returns
returns g c =
    let slots = g.S.NodeStore.slots c.args.tree.now.store in
    let pairs = pairs_at slots c.args.tree.now.height c.args.tree.now.root in
    let i = index_on slots c.args.tree.now.height c.args.tree.now.root c.index_of_bound-front.result in
    let j = index_on slots c.args.tree.now.height c.args.tree.now.root c.index_of_bound-back.result in
    let ends = reached g.S.Argument.Argument.is_summary slots c.args.tree.now.height c.args.tree.now.root c.len-len.ensures.whole.shape c.index_of_bound-back.result.leaf c.index_of_bound-back.ensures.index.stored in
    let fits : c.len-len.result ≡ length (pairs_at slots c.args.tree.now.height c.args.tree.now.root) = c.len-len.ensures.value ∙ ap length c.len-len.ensures.whole.contents in
    let all : min c.len-len.result (j - i) ≡ j - i = omega (arith, fits, c.index_of_bound-back.ensures.index.within, ends) in
    let held = held_between g.met.S.K.Ord.total g.S.Argument.Argument.is_summary slots c.args.tree.now.height c.args.tree.now.root c.len-len.ensures.whole.shape (bound_copied c.args.lo) (bound_copied c.args.hi) c.can_hold.result c.can_hold.ensures i j c.index_of_bound-front.ensures.before c.index_of_bound-back.ensures.before c.if-not-can_hold.false in
    rw c.len-len.ensures.whole.contents
    (subst (IsPart slots c.args.tree.now.height c.args.tree.now.root c.part_of_indexes.result) (ap (part pairs i) all ∙ sym held.1) c.part_of_indexes.ensures)
