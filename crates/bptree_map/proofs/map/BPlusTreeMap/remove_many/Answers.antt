use Rattle.std.proofs.Common.{arith}
use Rattle.bptree_keys.specs.Contents.{del, value}
use Rattle.bptree_map.proofs.ManyLemmas.{after_more, returned_more}
use Rattle.bptree_map.proofs.map.BPlusTreeMap.remove_many.Goals as goal

pub keys-preserved : goal.keys-preserved
keys-preserved g c =
    let cmp = g.K.Ord.cmp in
    let pairs = c.args.self.now in
    let now = c.keys.self in
    let next = c.remove.new.self in
    let k = c.index-keys-at.result in
    let i = c.keys.invariant in
    let reported = c.in-Ok.ensures.ok in
    record {
      within = omega arith;
      left = after_more (del cmp) pairs now next c.args.keys.now c.keys.at k i.left c.index-keys-at.is c.keys-test.true reported.1;
      removed = returned_more (del cmp) pairs now next c.args.keys.now c.keys.at k i.left c.index-keys-at.is c.keys-test.true (value cmp) c.args.removed.now c.keys.removed c.in-Ok.value c.requires i.removed reported.0;
    }
