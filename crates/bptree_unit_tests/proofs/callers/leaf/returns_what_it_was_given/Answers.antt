use Rattle.std.proofs.Common.{◌∙◌, arith, refl}
use Rattle.bptree_nodes.proofs.Inverses.{split_same}
use Rattle.bptree_unit_tests.proofs.callers.leaf.returns_what_it_was_given.Goals as goal

pub returns : goal.returns
returns g c =
    let there = c.move_last_to.ensures in
    let back = c.move_first_to.ensures in
    let parts = split_same c.move_first_to.new.left.pairs c.move_first_to.new.self.pairs c.args.left.now.pairs c.args.right.now.pairs (back.parts ∙ there.parts) (omega (arith, back.left_len, there.len)) in
    (back.left_links ∙ rw (parts.0, there.links) refl, back.links ∙ rw (parts.1, there.right_links) refl)
