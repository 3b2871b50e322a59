use Rattle.std.proofs.Common.{arith, subst, ◌≡◌, ◌++◌, ◌∷◌, ◌-◌, [], take}
use Rattle.bptree_bulk.proofs.Passed.{filled_two}
use Rattle.bptree_bulk_load.specs.Rooms.{parts_of}
use Rattle.std.specs.Vec.Iter.{into_iter_items}
use Rattle.bptree_bulk.proofs.moving.fill_pieces.Goals as goal

pub returns-else-half-eq0-clause-leaves : goal.returns-else-half-eq0-clause-leaves
returns-else-half-eq0-clause-leaves g c =
    let half = c.requires.half.two (omega (arith, c.if-half-eq0.false)) in
    let one = c.fill_piece-else-half-eq0 in
    let two = c.fill_piece-else-half-eq0-2 in
    filled_two c.args.half c.args.count (into_iter_items c.args.items.now) (parts_of c.args.leaves.now.items) (parts_of one.new.leaves.items) (parts_of two.new.leaves.items) (omega (arith, c.if-half-eq0.false)) (omega (arith, half)) one.ensures.leaves (subst (λ l. parts_of two.new.leaves.items ≡ parts_of one.new.leaves.items ++ take (c.args.count - c.args.half) l ∷ []) one.ensures.rest two.ensures.leaves)
