use Rattle.std.proofs.Common.{arith}
use Rattle.bptree_bulk_load.proofs.LeafIds.{keeps_others, taken_on, there}
use Rattle.bptree_bulk_load.proofs.leaves.take_leaves.Goals as goal

pub take_leaf-requires : goal.take_leaf-requires
take_leaf-requires g c =
    let slots = g.S.NodeStore.slots in
    there (slots c.args.store.now) (slots c.ids.store) (slots c.ids.store) c.args.ids.now c.ids.i (record { 0 = 0 }) c.ids-test.true c.requires.once c.requires.present c.ids.invariant.others

pub ids-preserved : goal.ids-preserved
ids-preserved g c =
    let slots = g.S.NodeStore.slots in
    record {
      within = omega (arith, c.ids-test.true);
      len = omega (arith, c.push_reserved.ensures.len, c.ids.invariant.len);
      capacity = rw c.push_reserved.ensures.capacity c.ids.invariant.capacity;
      leaves = taken_on (slots c.args.store.now) (slots c.ids.store) (slots c.take_leaf.new.self) c.args.ids.now c.ids.i (record { 0 = 0 }) c.ids-test.true c.requires.once c.requires.present c.ids.invariant.others c.take_leaf.result c.args.leaves.now.items c.ids.leaves.items c.push_reserved.new.self.items c.take_leaf.ensures.value c.push_reserved.ensures.items c.ids.invariant.leaves;
      others = keeps_others (slots c.args.store.now) (slots c.ids.store) (slots c.take_leaf.new.self) c.args.ids.now c.ids.i (record { 0 = 0 }) c.ids-test.true c.requires.once c.requires.present c.ids.invariant.others c.take_leaf.ensures.updates;
    }
