use Rattle.std.proofs.Common.{◌≡◌, ◌∙◌, ◌-◌, ◌∷◌, ◌++◌, [], length, arith, ap, sym, append_assoc}
use Rattle.bptree_bulk.specs.Gap.{without_part}
use Rattle.bptree_bulk.proofs.Without.{stays_before}
use Rattle.bptree_bulk.proofs.moving.pour_leaf_around.Goals as goal

pub items-preserved-then-before-gt0 : goal.items-preserved-then-before-gt0
items-preserved-then-before-gt0 g c =
    let inv = c.items.invariant in
    let pushed = c.push_reserved.ensures in
    let rest = without_part (c.items.before - 1) (c.items.behind - 1) c.next.new.self in
    let items : c.items.items ≡ c.in-Some.pair ∷ c.next.new.self = c.in-Some.ensures in
    let one : without_part c.items.before c.items.behind c.items.items ≡ c.in-Some.pair ∷ rest = ap (without_part c.items.before c.items.behind) items ∙ stays_before c.items.before c.items.behind c.in-Some.pair c.next.new.self c.if-before-gt0.true inv.order in
    record {
      order = omega (arith, inv.order);
      moved = ap (λ l. l ++ rest) pushed.items ∙ (append_assoc c.items.pairs.items (c.in-Some.pair ∷ []) rest ∙ (ap (λ l. c.items.pairs.items ++ l) (sym one) ∙ inv.moved));
      len = omega (arith, inv.len, pushed.len, ap length one);
      capacity = pushed.capacity ∙ inv.capacity;
    }
