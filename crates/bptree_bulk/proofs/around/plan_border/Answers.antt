use Rattle.std.proofs.Common.{◌≡◌, ◌∙◌, ◌-◌, ◌∷◌, ◌++◌, [], ap, append-nil, append_assoc, arith, drop, length, length-append, refl, subst, sym, take}
use Rattle.std.proofs.lemmas.List.{length-drop, length-take-le}
use Rattle.std.specs.List.{AllByRecursion}
use Rattle.bptree_bulk_load.specs.Plans.{Plans}
use Rattle.bptree_bulk.proofs.Kept.{part_first}
use Rattle.bptree_bulk.proofs.Segments.{drop_more}
use Rattle.bptree_bulk.proofs.Tails.{parts_more, sized}
use Rattle.bptree_bulk.specs.Filling.{AreParts, IsEmptyLeaf, IsSize}
use Rattle.bptree_bulk.specs.Gap.{kept_of, without_part}
use Rattle.bptree_keys.specs.Ranges.{part}
use Rattle.bptree_keys.proofs.PieceLemmas.{AllByRecursion-append}
use Rattle.bptree_invariant.specs.Leaves.{pairs_of}
use Rattle.bptree_bulk.proofs.around.plan_border.Goals as goal

pub parts-init : goal.parts-init
parts-init g c =
    record {
      within = omega arith;
      parts = [];
      are = refl;
      planned = λ parts before. subst (Plans g.S.K.Ord.cmp g.S.Argument.Argument.is_summary g.S.NodeStore.slots c.args.plan.now) (sym (append-nil parts)) before;
      empty = subst (AllByRecursion IsEmptyLeaf) (sym c.new-rooms.ensures.items) tt;
      as_many = ap length c.new-rooms.ensures.items;
    }

pub parts-preserved : goal.parts-preserved
parts-preserved g c =
    let inv = c.parts.invariant in
    let gap = c.args.gap in
    let l = pairs_of (g.S.NodeStore.slots c.args.tree.now.store) c.args.ids.now in
    let stay = without_part gap.before gap.behind l in
    let kept = kept_of gap l in
    let done = c.parts.done in
    let size = c.size_of-size.result in
    let s = sized (gap.count - done) size c.size_of-size.ensures in
    let rest = drop done kept in
    let left : length rest ≡ gap.count - done = length-drop done kept ∙ ap (λ n. n - done) (length-take-le gap.count stay c.requires.within) in
    let these = take size rest in
    let same : part stay done size ≡ these = sym (part_first stay gap.count done size (omega (arith, s.within, c.parts-test.true))) in
    let more = parts_more kept inv.parts rest size inv.are (subst (λ n. IsSize n size) (sym left) c.size_of-size.ensures) (omega (arith, left, c.parts-test.true)) in
    record {
      within = omega (arith, s.within, c.parts-test.true);
      parts = inv.parts ++ these ∷ [];
      are = subst (AreParts kept (inv.parts ++ these ∷ [])) (drop_more done size kept) more;
      planned = λ parts before.
          subst (Plans g.S.K.Ord.cmp g.S.Argument.Argument.is_summary g.S.NodeStore.slots c.plan_around.new.plan)
          (append_assoc parts inv.parts (part stay done size ∷ []) ∙ ap (λ p. parts ++ (inv.parts ++ p ∷ [])) same)
          (c.in_ok-plan_around.ensures (parts ++ inv.parts) (inv.planned parts before));
      empty = subst (AllByRecursion IsEmptyLeaf) (sym c.in_ok-push.ensures.items) (AllByRecursion-append IsEmptyLeaf c.parts.rooms.items (c.in_ok-room.room ∷ []) inv.empty (ap (λ l. l.pairs) c.in_ok-room.ensures, tt));
      as_many = omega (arith, inv.as_many, ap length c.in_ok-push.ensures.items, length-append c.parts.rooms.items (c.in_ok-room.room ∷ []), length-append inv.parts (these ∷ []));
    }
