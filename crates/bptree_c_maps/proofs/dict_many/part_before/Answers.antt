use Rattle.std.proofs.Common.{◌≡◌, arith, ap, length, sym, ◌∙◌}
use Rattle.bptree_c_maps.proofs.BackLemmas.{back_some, back_all}
use Rattle.bptree_c_maps.proofs.dict_many.part_before.Goals as goal

pub returns-then-n-end : goal.returns-then-n-end
returns-then-n-end c =
    let all = c.args.dict.now in
    let long : length all ≡ c.len.result = ap length (sym c.dict.view_is) ∙ sym c.len.ensures.value in
    rw (c.part_of.ensures, ← c.clipped-end.ensures.as_far all long) (back_some all c.clipped-end.result c.args.n (omega (arith, long, c.clipped-end.ensures.within)) (omega (arith, c.if-n-end.true)))

pub returns-else-n-end : goal.returns-else-n-end
returns-else-n-end c =
    let all = c.args.dict.now in
    let long : length all ≡ c.len.result = ap length (sym c.dict.view_is) ∙ sym c.len.ensures.value in
    rw (c.part_of-else-n-end.ensures, ← c.clipped-end.ensures.as_far all long) (back_all all c.clipped-end.result c.args.n (omega (arith, long, c.clipped-end.ensures.within)) (omega (arith, c.if-n-end.false)))
