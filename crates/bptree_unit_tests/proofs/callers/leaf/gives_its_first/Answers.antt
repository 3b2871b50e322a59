use Rattle.std.proofs.Common.{◌≡◌, ◌∷◌, ◌++◌, [], ◌∙◌, ap, append_assoc, arith, length, length-append, refl, sym}
use Rattle.bptree_nodes.proofs.Inverses.{split_same}
use Rattle.bptree_unit_tests.proofs.callers.leaf.gives_its_first.Goals as goal

pub returns-clause-pair : goal.returns-clause-pair
returns-clause-pair g c =
    let there = c.move_first_to.ensures in
    let left = c.pop.new.self.pairs in
    let right = c.move_first_to.new.self.pairs in
    let all = ap (λ l. l ++ right) (sym c.pop.ensures.pair) ∙ there.parts in
    let long : length left ≡ length c.args.left.now.pairs = omega (arith, there.left_len, ap length c.pop.ensures.pair, length-append left (c.pop.result ∷ [])) in
    sym (split_same left (c.pop.result ∷ right) c.args.left.now.pairs c.args.right.now.pairs (sym (append_assoc left (c.pop.result ∷ []) right) ∙ all) long).1

pub returns-clause-left : goal.returns-clause-left
returns-clause-left g c =
    let there = c.move_first_to.ensures in
    let left = c.pop.new.self.pairs in
    let right = c.move_first_to.new.self.pairs in
    let all = ap (λ l. l ++ right) (sym c.pop.ensures.pair) ∙ there.parts in
    let long : length left ≡ length c.args.left.now.pairs = omega (arith, there.left_len, ap length c.pop.ensures.pair, length-append left (c.pop.result ∷ [])) in
    let parts = split_same left (c.pop.result ∷ right) c.args.left.now.pairs c.args.right.now.pairs (sym (append_assoc left (c.pop.result ∷ []) right) ∙ all) long in
    c.pop.ensures.links ∙ rw (parts.0, there.left_links) refl
