use Rattle.std.proofs.Common.{◌≡◌, ◌++◌, List, reverse, refl, sym, ap, ◌∙◌}
use Rattle.std.proofs.lemmas.List.{reverse-append, reverse-reverse}
use Rattle.bptree_nodes.proofs.moves.move_first.Goals as goal

turned : {X : Type 0} (a b x y : List X) → a ++ reverse b ≡ reverse x ++ reverse y → b ++ reverse a ≡ y ++ x
turned a b x y e =
    ap (λ l. l ++ reverse a) (sym (reverse-reverse b)) ∙ (sym (reverse-append a (reverse b)) ∙ (ap reverse e ∙ (reverse-append (reverse x) (reverse y) ∙ rw (reverse-reverse x, reverse-reverse y) refl)))

pub returns-clause-parts : goal.returns-clause-parts
returns-clause-parts g c =
    rw c.reverse-2.ensures.items (turned c.move_back.new.from.items c.move_back.new.to.items c.args.from.now.items c.args.to.now.items (rw c.reverse.ensures.items at c.move_back.ensures.parts))
