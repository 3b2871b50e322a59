use Rattle.std.proofs.Common.{◌≡◌, ◌∙◌, ◌+◌, ap, arith, drop, sym}
use Rattle.bptree_bulk.specs.Positions.{index_of_position}
use Rattle.bptree_bulk.proofs.Segments.{drop_more}
use Rattle.bptree_bulk.proofs.ahead.after.Goals as goal

pub returns-clause-rest : goal.returns-clause-rest
returns-clause-rest g c =
    let tree = c.args.tree.now in
    let index = index_of_position g.S.NodeStore.slots tree in
    let on : index c.settled-next.result ≡ index c.args.at + 1 = omega (arith, c.settled-next.ensures.same) in
    ap (λ n. drop n tree.contents) on ∙ sym (drop_more (index c.args.at) 1 tree.contents)

pub returns-then-behind-len-clause-rest : goal.returns-then-behind-len-clause-rest
returns-then-behind-len-clause-rest g c =
    let tree = c.args.tree.now in
    let index = index_of_position g.S.NodeStore.slots tree in
    let on : index record { leaf = c.args.at.leaf; slot = c.args.at.slot + 1 } ≡ index c.args.at + 1 = omega arith in
    ap (λ n. drop n tree.contents) on ∙ sym (drop_more (index c.args.at) 1 tree.contents)
