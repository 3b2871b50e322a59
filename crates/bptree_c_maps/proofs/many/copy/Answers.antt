use Rattle.std.proofs.Common.{ℕ, ◌++◌, length, map, drop, sym, ap, ◌∙◌, arith}
use Rattle.std.proofs.lemmas.List.{length-set}
use Rattle.bptree_keys.specs.Ends.{is_back}
use Rattle.bptree_c_maps.specs.Ends.{turned_pairs}
use Rattle.bptree_c_maps.specs.Pairs.{as_pair, as_tuple}
use Rattle.bptree_c_maps.proofs.CopyLemmas.{copied_more, rest_by, all_copied}
use Rattle.bptree_c_maps.proofs.many.copy.Goals as goal

pub loop-count-preserved : goal.loop-count-preserved
loop-count-preserved c =
    let i = c.loop-count.invariant in
    let p : ℕ × ℕ = as_tuple c.in-Some.pair in
    let all = turned_pairs (is_back c.args.end) c.args.left in
    let left = turned_pairs (is_back c.args.end) c.take_pair.new.left in
    let here = sym i.rest ∙ c.in-Some.ensures in
    let more = rest_by all c.loop-count.count p left here in
    let room = length-set c.loop-count.out c.loop-count.count (as_pair p) in
    record {
      in_room = omega (arith, c.loop-count-test.true, room);
      same_room = room ∙ i.same_room;
      so_far = copied_more all c.args.out.now c.loop-count.out c.loop-count.count p left i.so_far (omega (arith, c.loop-count-test.true, i.same_room)) here;
      rest = more.0;
      there = more.1;
    }

pub returns-in-None : goal.returns-in-None
returns-in-None c =
    let i = c.loop-count.invariant in
    let done = all_copied (turned_pairs (is_back c.args.end) c.args.left) (length c.args.out.now) c.loop-count.count i.there (sym i.rest ∙ c.in-None.ensures) (omega (arith, i.in_room, i.same_room)) in
    (done.0, i.so_far ∙ ap (λ l. map as_pair l ++ drop c.loop-count.count c.args.out.now) done.1)
