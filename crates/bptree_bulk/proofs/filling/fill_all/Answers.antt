use Rattle.std.proofs.Common.{◌≡◌, ◌∙◌, ◌∷◌, ◌++◌, ◌<◌, [], ap, append-nil, arith, length, subst, sym}
use Rattle.std.specs.List.{AllByRecursion}
use Rattle.std.specs.Option.{option_to_list}
use Rattle.std.specs.Vec.Iter.{into_iter_items}
use Rattle.bptree_bulk_load.specs.Rooms.{parts_of}
use Rattle.bptree_bulk.specs.Filling.{AreParts, IsEmptyLeaf, IsSize}
use Rattle.bptree_bulk.proofs.Tails.{filled_more, next_part, no_part, IsPartlyFilled}
use Rattle.bptree_bulk.proofs.filling.fill_all.Goals as goal

pub rooms-preserved : goal.rooms-preserved
rooms-preserved g c =
    let items = into_iter_items c.rooms.pairs in
    let inv = c.rooms.invariant in
    let size : IsSize (length items) c.size_of-size.result = subst (λ n. IsSize n c.size_of-size.result) (c.len-in-rooms.ensures ∙ inv.counted) c.size_of-size.ensures in
    let some : 0 < length items = omega (arith, c.rooms-test.true, c.len.ensures, inv.counted) in
    let next = next_part items inv.parts c.size_of-size.result inv.are some size in
    let rooms : into_iter_items c.rooms.rooms ≡ c.unwrap.result ∷ into_iter_items c.next.new.self = c.next.ensures.items ∙ ap (λ o. option_to_list o ++ into_iter_items c.next.new.self) c.unwrap.ensures in
    let empty = subst (AllByRecursion IsEmptyLeaf) rooms inv.empty in
    let rest = c.fill_piece.ensures.rest in
    record {
      counted = c.fill_piece.ensures.counted;
      empty = empty.1;
      parts = next.0;
      are = subst (λ l. AreParts l next.0 []) (sym rest) next.2;
      as_many = omega (arith, ap length rooms, inv.as_many, ap length next.1);
      room = omega (arith, inv.room, ap length rooms, c.fill_piece.ensures.len, c.fill_piece.ensures.capacity);
      len = omega (arith, inv.len, ap length rooms, c.fill_piece.ensures.len);
      capacity = c.fill_piece.ensures.capacity ∙ inv.capacity;
      filled = λ all dealt.
          let whole = parts_of c.args.leaves.now.items ++ all in
          subst (λ l. IsPartlyFilled l whole (parts_of c.fill_piece.new.leaves.items)) (sym rest)
          (filled_more items whole (parts_of c.rooms.leaves.items) (parts_of c.fill_piece.new.leaves.items) c.size_of-size.result (inv.filled all dealt) size some c.fill_piece.ensures.leaves);
    }

pub returns-clause-leaves : goal.returns-clause-leaves
returns-clause-leaves g c = λ all dealt.
    let filling = c.rooms.invariant.filled all dealt in
    let none = no_part (into_iter_items c.rooms.pairs) filling.rest filling.are (omega (arith, c.rooms-test.false, c.len.ensures, c.rooms.invariant.counted)) in
    sym (filling.sum ∙ (ap (λ l. parts_of c.rooms.leaves.items ++ l) none ∙ append-nil (parts_of c.rooms.leaves.items)))

pub returns-clause-len : goal.returns-clause-len
returns-clause-len g c =
    let inv = c.rooms.invariant in
    let none = no_part (into_iter_items c.rooms.pairs) inv.parts inv.are (omega (arith, c.rooms-test.false, c.len.ensures, inv.counted)) in
    omega (arith, inv.len, inv.as_many, ap length none)
