use Rattle.std.proofs.Common.{◌++◌, map, drop, sym, ap, ◌∙◌, arith}
use Rattle.std.proofs.lemmas.List.{length-set, take_all}
use Rattle.bptree_c_maps.proofs.PageLemmas.{copied_more, rest_by, none_by}
use Rattle.bptree_c_maps.proofs.dict_many.copy_values.Goals as goal

pub loop-count-preserved : goal.loop-count-preserved
loop-count-preserved c =
    let i = c.loop-count.invariant in
    let all = c.args.left in
    let n = c.loop-count.count in
    let room = length-set c.loop-count.out n c.in-Some.value.now in
    let here = sym i.rest ∙ c.in-Some.ensures.steps in
    let more = rest_by all n _ _ here in
    record {
      in_room = omega (arith, c.loop-count-test.true, room);
      same_room = room ∙ i.same_room;
      so_far = copied_more (λ pair. pair.1) all c.args.out.now c.loop-count.out n _ _ i.so_far (omega (arith, c.loop-count-test.true, i.same_room)) here;
      rest = more.0;
      there = more.1;
    }

pub returns-in-None-clause-count : goal.returns-in-None-clause-count
returns-in-None-clause-count c =
    let i = c.loop-count.invariant in
    omega (arith, i.there, none_by c.args.left c.loop-count.count (sym i.rest ∙ c.in-None.ensures.steps.0))

pub returns-in-None-clause-copied : goal.returns-in-None-clause-copied
returns-in-None-clause-copied c =
    let i = c.loop-count.invariant in
    i.so_far ∙ ap (λ l. map (λ pair. pair.1) l ++ drop c.loop-count.count c.args.out.now) (take_all c.loop-count.count c.args.left (none_by c.args.left c.loop-count.count (sym i.rest ∙ c.in-None.ensures.steps.0)))

pub returns-clause-count : goal.returns-clause-count
returns-clause-count c =
    let i = c.loop-count.invariant in
    omega (arith, i.there, i.same_room, c.requires, c.loop-count-test.false)

pub returns-clause-copied : goal.returns-clause-copied
returns-clause-copied c =
    let i = c.loop-count.invariant in
    i.so_far ∙ ap (λ l. map (λ pair. pair.1) l ++ drop c.loop-count.count c.args.out.now) (take_all c.loop-count.count c.args.left (omega (arith, c.requires, c.loop-count-test.false, i.same_room)))
