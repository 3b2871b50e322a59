use Rattle.std.proofs.Common.{◌≡◌, ◌∙◌, ◌∷◌, ◌++◌, length, arith, ap, sym}
use Rattle.std.specs.Option.{option_to_list}
use Rattle.std.specs.Vec.Iter.{into_iter_items}
use Rattle.bptree_bulk_load.proofs.Standing.{counted_on}
use Rattle.bptree_bulk.proofs.Passed.{poured_len, poured_one, rest_one}
use Rattle.bptree_bulk.proofs.moving.pour.Goals as goal

pub pour_leaf-requires : goal.pour_leaf-requires
pour_leaf-requires g c =
    let items : into_iter_items c.leaves.leaves ≡ c.unwrap.result ∷ into_iter_items c.next.new.self = c.next.ensures.items ∙ ap (λ o. option_to_list o ++ into_iter_items c.next.new.self) c.unwrap.ensures in
    record { room = omega (arith, c.leaves.invariant.room, poured_len c.leaves.left c.unwrap.result (into_iter_items c.leaves.leaves) (into_iter_items c.next.new.self) c.leaves-test.true items) }

pub leaves-preserved : goal.leaves-preserved
leaves-preserved g c =
    let items : into_iter_items c.leaves.leaves ≡ c.unwrap.result ∷ into_iter_items c.next.new.self = c.next.ensures.items ∙ ap (λ o. option_to_list o ++ into_iter_items c.next.new.self) c.unwrap.ensures in
    let len = poured_len c.leaves.left c.unwrap.result (into_iter_items c.leaves.leaves) (into_iter_items c.next.new.self) c.leaves-test.true items in
    record {
      counted = counted_on c.leaves.leaves c.next.new.self c.next.result c.next.ensures.items c.leaves.invariant.counted c.next.ensures.len;
      some = omega (arith, c.leaves.invariant.some, c.leaves-test.true, ap length items);
      moved = rw c.pour_leaf.ensures.moved (sym (poured_one c.leaves.left c.unwrap.result (into_iter_items c.leaves.leaves) (into_iter_items c.next.new.self) c.leaves.pairs.items c.leaves-test.true items) ∙ c.leaves.invariant.moved);
      rest = sym (rest_one c.leaves.left c.unwrap.result (into_iter_items c.leaves.leaves) (into_iter_items c.next.new.self) c.leaves-test.true items) ∙ c.leaves.invariant.rest;
      room = omega (arith, c.leaves.invariant.room, len, c.pour_leaf.ensures.len, c.pour_leaf.ensures.capacity);
    }
