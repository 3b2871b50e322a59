use Rattle.std.proofs.Common.{◌≡◌, ◌+◌, ◌-◌, ◌∷◌, [], ap, arith, length, length-append, subst, sym}
use Rattle.std.specs.List.{AllByRecursion}
use Rattle.bptree_bulk.specs.Filling.{IsEmptyLeaf}
use Rattle.bptree_tree.proofs.Builds.{AreInParts, one_room_more}
use Rattle.bptree_keys.proofs.PieceLemmas.{AllByRecursion-append}
use Rattle.bptree_tree.proofs.building.rooms_for.Goals as goal

pub parts-preserved : goal.parts-preserved
parts-preserved g c =
    let inv = c.parts.invariant in
    let size = c.size_of-left.result in
    let pushed = c.in_ok-push.ensures.items in
    let long : length c.push.new.self.items ≡ length c.parts.rooms.items + 1 = omega (arith, ap length pushed, length-append c.parts.rooms.items (c.in_ok-room.room ∷ [])) in
    record {
      within = omega (arith, inv.within);
      empty = subst (AllByRecursion IsEmptyLeaf) (sym pushed) (AllByRecursion-append IsEmptyLeaf c.parts.rooms.items (c.in_ok-room.room ∷ []) inv.empty (ap (λ l. l.pairs) c.in_ok-room.ensures, tt));
      parts = λ pairs all. subst (AreInParts pairs (length pairs - (c.parts.left - size))) (sym long) (one_room_more pairs c.parts.left size (length c.parts.rooms.items) (omega (arith, inv.within, all)) c.parts-test.true c.size_of-left.ensures (inv.parts pairs all));
    }
