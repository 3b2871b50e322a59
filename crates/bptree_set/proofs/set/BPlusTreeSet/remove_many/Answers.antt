use Rattle.std.proofs.Common.{arith}
use Rattle.bptree_map.specs.Keys.{holds, without_key}
use Rattle.bptree_map.proofs.ManyLemmas.{after_more, returned_more}
use Rattle.bptree_set.proofs.set.BPlusTreeSet.remove_many.Goals as goal

pub keys-preserved : goal.keys-preserved
keys-preserved g c =
    let cmp = g.K.Ord.cmp in
    let old = c.args.self.now in
    let now = c.keys.self in
    let next = c.remove.new.self in
    let k = c.index-keys-at.result in
    let i = c.keys.invariant in
    let reported = c.in-Ok.ensures.ok in
    record {
      within = omega arith;
      left = after_more (without_key cmp) old now next c.args.keys.now c.keys.at k i.left c.index-keys-at.is c.keys-test.true reported.1;
      removed = returned_more (without_key cmp) old now next c.args.keys.now c.keys.at k i.left c.index-keys-at.is c.keys-test.true (holds cmp) c.args.removed.now c.keys.removed c.in-Ok.was c.requires.removed i.removed reported.0;
    }
