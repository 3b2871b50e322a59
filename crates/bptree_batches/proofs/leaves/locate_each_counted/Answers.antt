use Rattle.std.proofs.Common.{arith}
use Rattle.bptree_keys.specs.declared.node_id.NodeId.TheVariants.{Inner}
use Rattle.bptree_batches.specs.Slots.{IsSlotOfLeaf}
use Rattle.bptree_batches.proofs.SlotLemmas.{slots_from_zip, there_at, three_all, three_more, three_start}
use Rattle.bptree_batches.proofs.leaves.locate_each_counted.Goals as goal

pub keys-init : goal.keys-init
keys-init g c =
    let slots = g.S.NodeStore.slots c.args.store.now in
    record {
      within = omega arith;
      slots = three_start (λ at slot. IsSlotOfLeaf g.S.K.Ord.cmp slots at.0 at.1 slot) c.args.nodes.now c.args.keys.now c.args.slots.now c.requires.nodes c.requires.slots;
      counts_on = omega arith;
      count = omega arith;
    }

pub locate_in-requires : goal.locate_in-requires
locate_in-requires g c = there_at (g.S.NodeStore.slots c.args.store.now) c.keys.at c.args.nodes.now (Inner record { 0 = 0 }) (omega (arith, c.requires.nodes, c.keys-test.true)) c.requires.there

pub keys-preserved : goal.keys-preserved
keys-preserved g c =
    let slots = g.S.NodeStore.slots c.args.store.now in
    let cmp = g.S.K.Ord.cmp in
    let i = c.keys.invariant in
    record {
      within = omega arith;
      slots =
          three_more (λ at slot. IsSlotOfLeaf cmp slots at.0 at.1 slot) (λ at slot. Unit {0}) c.keys.at c.args.nodes.now c.args.keys.now c.keys.slots (Inner record { 0 = 0 }) c.index-keys-at.result c.locate_in.result c.keys-test.true c.requires.nodes
          c.index-keys-at.is i.slots c.locate_in.ensures.slot;
      counts_on = omega (arith, i.counts_on, c.locate_in.ensures.counts_on);
      count = omega (arith, i.count, c.locate_in.ensures.count);
    }

pub returns : goal.returns
returns g c =
    let slots = g.S.NodeStore.slots c.args.store.now in
    let cmp = g.S.K.Ord.cmp in
    let i = c.keys.invariant in
    record {
      slots =
          slots_from_zip g.met.S.K.Ord.total slots c.args.nodes.now c.args.keys.now c.keys.slots c.requires.nodes
          (three_all (λ at slot. IsSlotOfLeaf cmp slots at.0 at.1 slot) (λ at slot. Unit {0}) c.keys.at c.args.nodes.now c.args.keys.now c.keys.slots (omega arith) c.requires.nodes i.slots);
      counts_on = i.counts_on;
      count = omega (arith, i.count, i.within);
    }
