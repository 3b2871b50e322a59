use Rattle.std.proofs.Common.{◌≤◌, ◌++◌, length, map, drop, sym, ap, ◌∙◌, arith}
use Rattle.std.proofs.lemmas.List.{length-set, take_all}
use Rattle.bptree_c_maps.proofs.PageLemmas.{copied_more, rest_by, none_by}
use Rattle.bptree_c_maps.proofs.columns.copy_columns.Goals as goal

pub loop-count-preserved : goal.loop-count-preserved
loop-count-preserved c =
    let i = c.loop-count.invariant in
    let all = c.args.left in
    let n = c.loop-count.count in
    let room = length-set c.loop-count.keys n c.in-Some.key.now in
    let values_room = length-set c.loop-count.values n c.in-Some.value.now in
    let here = sym i.rest ∙ c.in-Some.ensures.steps in
    let more = rest_by all n _ _ here in
    record {
      in_room = omega (arith, c.loop-count-test.true, room);
      same_room = room ∙ i.same_room;
      same_values = values_room ∙ i.same_values;
      keys = copied_more (λ pair. pair.0) all c.args.keys.now c.loop-count.keys n _ _ i.keys (omega (arith, c.loop-count-test.true, i.same_room)) here;
      values = copied_more (λ pair. pair.1) all c.args.values.now c.loop-count.values n _ _ i.values (omega (arith, c.loop-count-test.true, i.same_room, c.requires.values)) here;
      rest = more.0;
      there = more.1;
    }

pub returns-in-None-clause-count : goal.returns-in-None-clause-count
returns-in-None-clause-count c =
    let i = c.loop-count.invariant in
    omega (arith, i.there, none_by c.args.left c.loop-count.count (sym i.rest ∙ c.in-None.ensures.steps.0))

pub returns-in-None-clause-keys : goal.returns-in-None-clause-keys
returns-in-None-clause-keys c =
    let i = c.loop-count.invariant in
    i.keys ∙ ap (λ l. map (λ pair. pair.0) l ++ drop c.loop-count.count c.args.keys.now) (take_all c.loop-count.count c.args.left (none_by c.args.left c.loop-count.count (sym i.rest ∙ c.in-None.ensures.steps.0)))

pub returns-in-None-clause-values : goal.returns-in-None-clause-values
returns-in-None-clause-values c =
    let i = c.loop-count.invariant in
    i.values ∙ ap (λ l. map (λ pair. pair.1) l ++ drop c.loop-count.count c.args.values.now) (take_all c.loop-count.count c.args.left (none_by c.args.left c.loop-count.count (sym i.rest ∙ c.in-None.ensures.steps.0)))

pub returns-clause-count : goal.returns-clause-count
returns-clause-count c =
    let i = c.loop-count.invariant in
    omega (arith, i.there, i.same_room, c.requires.room, c.loop-count-test.false)

pub returns-clause-keys : goal.returns-clause-keys
returns-clause-keys c =
    let i = c.loop-count.invariant in
    let whole : length c.args.left ≤ c.loop-count.count = omega (arith, c.requires.room, c.loop-count-test.false, i.same_room) in
    i.keys ∙ ap (λ l. map (λ pair. pair.0) l ++ drop c.loop-count.count c.args.keys.now) (take_all c.loop-count.count c.args.left whole)

pub returns-clause-values : goal.returns-clause-values
returns-clause-values c =
    let i = c.loop-count.invariant in
    let whole : length c.args.left ≤ c.loop-count.count = omega (arith, c.requires.room, c.loop-count-test.false, i.same_room) in
    i.values ∙ ap (λ l. map (λ pair. pair.1) l ++ drop c.loop-count.count c.args.values.now) (take_all c.loop-count.count c.args.left whole)
