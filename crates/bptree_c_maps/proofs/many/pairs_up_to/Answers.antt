use Rattle.std.proofs.Common.{◌≤◌, ◌∙◌, ap, arith, length, reverse, take}
use Rattle.bptree_c_maps.proofs.BackLemmas.{back_some, back_all}
use Rattle.bptree_c_maps.proofs.many.pairs_up_to.Goals as goal

pub returns-then-n-end : goal.returns-then-n-end
returns-then-n-end c =
    let all = c.args.map.now in
    let within : c.end_by-end.result ≤ length all = rw c.map.view_is at c.end_by-end.ensures.within in
    rw c.part_of.ensures (back_some all c.end_by-end.result c.args.n within (omega (arith, c.if-n-end.true))) ∙ ap (λ l. take c.args.n (reverse l)) (rw c.map.view_is at c.end_by-end.ensures.up_to)

pub returns-else-n-end : goal.returns-else-n-end
returns-else-n-end c =
    let all = c.args.map.now in
    let within : c.end_by-end.result ≤ length all = rw c.map.view_is at c.end_by-end.ensures.within in
    rw c.part_of-else-n-end.ensures (back_all all c.end_by-end.result c.args.n within (omega (arith, c.if-n-end.false))) ∙ ap (λ l. take c.args.n (reverse l)) (rw c.map.view_is at c.end_by-end.ensures.up_to)
