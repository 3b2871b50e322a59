use Rattle.std.proofs.Common.{◌≡◌, ◌+◌, ◌-◌, ◌∷◌, ◌++◌, [], ap, arith, drop, length, length-append, subst, sym, take}
use Rattle.std.proofs.lemmas.List.{length-drop, take-append-drop}
use Rattle.std.specs.List.{AllByRecursion}
use Rattle.bptree_bulk_load.proofs.Standing.{drop_all}
use Rattle.std.proofs.lemmas.Result.{IfOk-weaker}
use Rattle.bptree_bulk.specs.Filling.{AreParts, IsEmptyLeaf, IsLaidOut, IsSize}
use Rattle.bptree_bulk.specs.Positions.{index_of_position, rest_of}
use Rattle.bptree_bulk.proofs.Tails.{by_size, part_next, sized}
use Rattle.bptree_keys.specs.Contents.{IsAscending}
use Rattle.bptree_keys.specs.Ranges.{part}
use Rattle.bptree_keys.proofs.PieceLemmas.{AllByRecursion-append}
use Rattle.bptree_invariant.proofs.Ordered.{ascending_after}
use Rattle.bptree_bulk.proofs.tail.plan_tail.Given.{Over}
use Rattle.bptree_bulk.proofs.tail.plan_tail.Goals.{After-parts}
use Rattle.bptree_bulk.proofs.tail.plan_tail.Goals as goal

pub parts-preserved : goal.parts-preserved
parts-preserved g c =
    let tree = c.args.tree.now in
    let all = tree.contents in
    let inv = c.parts.invariant in
    let from = index_of_position g.S.NodeStore.slots tree c.parts.from in
    let to = index_of_position g.S.NodeStore.slots tree c.advance.result.0 in
    let size = c.size_of-size.result in
    let s = sized c.parts.left size c.size_of-size.ensures in
    let left : c.parts.left ≡ length all - from = omega (arith, inv.sum) in
    let sum : from + size ≡ to = by_size c.advance.result.1 0
    (λ none. omega (arith, none, c.advance.ensures.sum))
    (λ some. absurd (omega (arith, c.advance.ensures.end some, c.advance.ensures.sum, s.within, inv.sum, some))) in
    let these = part all from (to - from) in
    record {
      parts = inv.parts ++ these ∷ [];
      are = part_next (drop (index_of_position g.S.NodeStore.slots tree c.args.at) all) all inv.parts from to size inv.are (subst (λ n. IsSize n size) left c.size_of-size.ensures) sum (omega (arith, inv.sum, c.parts-test.true));
      planned = c.in_ok-plan_between.ensures inv.parts inv.planned;
      settled = c.advance.ensures.settled;
      sum = omega (arith, sum, inv.sum, s.within);
      empty = subst (AllByRecursion IsEmptyLeaf) (sym c.in_ok-push.ensures.items) (AllByRecursion-append IsEmptyLeaf c.parts.rooms.items (c.in_ok-room.room ∷ []) inv.empty (ap (λ l. l.pairs) c.in_ok-room.ensures, tt));
      as_many = omega (arith, inv.as_many, ap length c.in_ok-push.ensures.items, length-append c.parts.rooms.items (c.in_ok-room.room ∷ []), length-append inv.parts (these ∷ []));
    }

-- the leaves of the parts are all those of the pairs from the position on
laid : (g : Over) (c : After-parts g) → IsLaidOut g.S.K.Ord.cmp g.S.Argument.Argument.is_summary g.S.NodeStore.slots c.parts.plan c.parts.rooms.items c.args.count (rest_of g.S.NodeStore.slots c.args.tree.now c.args.at)
laid g c =
    let tree = c.args.tree.now in
    let all = tree.contents in
    let inv = c.parts.invariant in
    let n = index_of_position g.S.NodeStore.slots tree c.args.at in
    record {
      parts = inv.parts;
      are = subst (AreParts (drop n all) inv.parts) (drop_all all (index_of_position g.S.NodeStore.slots tree c.parts.from) (omega (arith, inv.sum, c.parts-test.false))) inv.are;
      planned = inv.planned;
      empty = inv.empty;
      as_many = inv.as_many;
      count_is = omega (arith, length-drop n all, c.requires.count);
      some = c.requires.some;
      ascending = ascending_after g.met.S.K.Ord.total (take n all) (drop n all) (subst (IsAscending g.S.K.Ord.cmp) (sym (take-append-drop n all)) c.recall.ensures.ascending);
      few = omega (arith, c.requires.count, c.recall.ensures.fits);
    }

pub filling_of-requires : goal.filling_of-requires
filling_of-requires g c = (rest_of g.S.NodeStore.slots c.args.tree.now c.args.at, laid g c)

pub returns-clause-tail : goal.returns-clause-tail
returns-clause-tail g c =
    IfOk-weaker c.filling_of.result _ _ (λ _ filling. filling (rest_of g.S.NodeStore.slots c.args.tree.now c.args.at) (laid g (goal.at.returns-clause-tail g c).After-parts)) c.filling_of.ensures.filling
