use Rattle.std.proofs.Common.{◌≡◌, ◌∙◌, ◌-◌, ◌∷◌, ◌++◌, length, append_assoc, append-nil, arith, ap, refl, sym}
use Rattle.std.specs.Option.{option_to_list}
use Rattle.std.specs.Vec.Iter.{into_iter_items}
use Rattle.bptree_bulk_load.proofs.Standing.{counted_on}
use Rattle.bptree_bulk.specs.Gap.{without_part}
use Rattle.bptree_bulk.specs.Moving.{poured_around}
use Rattle.bptree_bulk.proofs.Passed.{rest_one}
use Rattle.bptree_bulk.proofs.Without.{around_len, around_none, around_one}
use Rattle.bptree_bulk.proofs.moving.pour_around.Goals as goal

pub pour_leaf_around-requires-clause-room : goal.pour_leaf_around-requires-clause-room
pour_leaf_around-requires-clause-room g c =
    let inv = c.leaves.invariant in
    let leaf = c.unwrap-leaf.result in
    let old = into_iter_items c.leaves.leaves in
    let new = into_iter_items c.next.new.self in
    let before = c.leaves.before in
    let behind = c.leaves.behind in
    let items : old ≡ leaf ∷ new = c.next.ensures.items ∙ ap (λ o. option_to_list o ++ new) c.unwrap-leaf.ensures in
    omega (arith, inv.room, around_len before behind c.leaves.left leaf old new (before - length leaf.value.pairs) (behind - length leaf.value.pairs) c.leaves-test.true inv.order items refl refl)

pub leaves-preserved : goal.leaves-preserved
leaves-preserved g c =
    let inv = c.leaves.invariant in
    let poured = c.pour_leaf_around.ensures in
    let left = c.leaves.left in
    let leaf = c.unwrap-leaf.result in
    let old = into_iter_items c.leaves.leaves in
    let new = into_iter_items c.next.new.self in
    let before = c.leaves.before in
    let behind = c.leaves.behind in
    let before' = c.saturating_sub-before.result in
    let behind' = c.saturating_sub-behind.result in
    let items : old ≡ leaf ∷ new = c.next.ensures.items ∙ ap (λ o. option_to_list o ++ new) c.unwrap-leaf.ensures in
    let len : c.len-len.result ≡ length leaf.value.pairs = c.len-len.ensures.value ∙ ap (λ l. length l.pairs) c.as_ref.ensures in
    let less : before - length leaf.value.pairs ≡ before' = ap (λ k. before - k) (sym len) ∙ sym c.saturating_sub-before.ensures in
    let less' : behind - length leaf.value.pairs ≡ behind' = ap (λ k. behind - k) (sym len) ∙ sym c.saturating_sub-behind.ensures in
    let stays = without_part before behind leaf.value.pairs in
    let rest = poured_around before' behind' (left - 1) new in
    let one = around_one before behind left leaf old new before' behind' c.leaves-test.true inv.order items less less' in
    record {
      counted = counted_on c.leaves.leaves c.next.new.self c.next.result c.next.ensures.items inv.counted c.next.ensures.len;
      some = omega (arith, inv.some, c.leaves-test.true, ap length items);
      order = omega (arith, inv.order, c.saturating_sub-before.ensures, c.saturating_sub-behind.ensures);
      moved = ap (λ l. l ++ rest) poured.moved ∙ (append_assoc c.leaves.pairs.items stays rest ∙ (ap (λ l. c.leaves.pairs.items ++ l) (sym one) ∙ inv.moved));
      rest = sym (rest_one left leaf old new c.leaves-test.true items) ∙ inv.rest;
      room = omega (arith, inv.room, around_len before behind left leaf old new before' behind' c.leaves-test.true inv.order items less less', poured.len, poured.capacity);
    }

pub returns-clause-moved : goal.returns-clause-moved
returns-clause-moved g c =
    let none = around_none c.leaves.before c.leaves.behind c.leaves.left (into_iter_items c.leaves.leaves) (omega (arith, c.leaves-test.false)) in
    sym (append-nil c.leaves.pairs.items) ∙ (ap (λ l. c.leaves.pairs.items ++ l) (sym none) ∙ c.leaves.invariant.moved)
