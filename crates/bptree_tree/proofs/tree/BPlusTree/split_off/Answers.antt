use Rattle.std.proofs.Common.{◌≡◌, ◌∙◌, ◌-◌, ◌++◌, ap, arith, drop, length, reverse, take}
use Rattle.std.proofs.lemmas.List.{reverse-reverse}
use Rattle.bptree_tree.proofs.tree.BPlusTree.split_off.Goals as goal

pub take_last-requires-clause-some : goal.take_last-requires-clause-some
take_last-requires-clause-some g c =
    let last = rw c.in-Last.is at c.in_ok-plan_at_key.ensures in
    omega (arith, last.1.sum, ap (λ t. length t.contents) c.self.view_is)

pub returns-in-Last-clause-ok : goal.returns-in-Last-clause-ok
returns-in-Last-clause-ok g c =
    let last = rw c.in-Last.is at c.in_ok-plan_at_key.ensures in
    let all = c.args.self.now.contents in
    let count = c.in-Last.tail.count in
    let contents : c.self.inside.nodes.contents ≡ all = ap (λ t. t.contents) c.self.view_is in
    let at : length all - count ≡ last.0 = omega (arith, last.1.sum, ap length contents) in
    let kept : c.take_last.new.self.contents ≡ take last.0 all = c.take_last.ensures.kept ∙ ap (λ n. take n all) at in
    let moved : reverse c.take_last.new.pairs.items ≡ drop last.0 all =
    ap reverse (c.take_last.ensures.moved ∙ ap (λ l. l ++ reverse (drop (length all - count) all)) last.1.room.0) ∙ (reverse-reverse (drop (length all - count) all) ∙ ap (λ n. drop n all) at) in
    let parts = rw contents at last.2 in
    (kept ∙ parts.0, ap (λ t. t.contents) c.of_nodes.ensures ∙ (c.plant_tail.ensures.contents ∙ (moved ∙ parts.1)))
