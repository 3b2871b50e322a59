use Rattle.std.proofs.Common.{arith, get_or, if◌then◌else◌}
use Rattle.std.proofs.lemmas.List.{get_or_default}
use Rattle.std.specs.Ordering.{nat_cmp}
use Rattle.bptree_keys.specs.Contents.{del, has}
use Rattle.bptree_map.proofs.ManyLemmas.{after_more, returned_more}
use Rattle.bptree_c_maps.proofs.batch.del_all.Goals as goal

pub loop-at-preserved : goal.loop-at-preserved
loop-at-preserved c =
    let i = c.loop-at.invariant in
    let k = get_or c.args.keys.now c.loop-at.at 0 in
    let key = get_or_default c.args.keys.now c.loop-at.at 0 k c.loop-at-test.true in
    let now = c.loop-at.map in
    let next = c.del_mark.new.map in
    record {
      within = omega (arith, c.loop-at-test.true);
      left = after_more (del nat_cmp) c.args.map.now now next c.args.keys.now c.loop-at.at k i.left key c.loop-at-test.true c.del_mark.ensures.left;
      found =
          returned_more (del nat_cmp) c.args.map.now now next c.args.keys.now c.loop-at.at k i.left key c.loop-at-test.true (λ pairs k. if has nat_cmp pairs k then 1 else 0)
          c.args.found.now c.loop-at.found c.del_mark.result c.requires.found i.found c.del_mark.ensures.mark;
    }
