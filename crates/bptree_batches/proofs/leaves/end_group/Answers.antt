use Rattle.std.proofs.Common.{arith}
use Rattle.bptree_keys.specs.declared.node_id.NodeId.TheVariants.{Inner}
use Rattle.bptree_batches.specs.Slots.{IsSlotOfLeaf, IsSpanOf}
use Rattle.bptree_batches.proofs.SlotLemmas.{slots_from_zip, there_at, three_all, three_length, three_more, three_read, three_start}
use Rattle.bptree_batches.proofs.leaves.end_group.Goals as goal

pub keys-init : goal.keys-init
keys-init g c =
    let slots = g.S.NodeStore.slots c.args.store.now in
    record {
      within = omega arith;
      slots = three_start (λ at slot. IsSlotOfLeaf g.S.K.Ord.cmp slots at.0 at.1 slot) c.args.nodes.now c.args.keys.now c.args.slots.now c.requires.nodes c.requires.slots;
      counts_on = omega arith;
      count = omega arith;
    }

pub bounds-spans-at : goal.bounds-spans-at
bounds-spans-at g c =
    let slots = g.S.NodeStore.slots c.args.store.now in
    let long = three_length (IsSpanOf g.S.K.Ord.cmp slots 1) c.args.nodes.now c.args.keys.now c.args.spans.now c.requires.nodes c.requires.spans in
    omega (arith, long, c.keys-test.true)

pub slot_in-requires-clause-there : goal.slot_in-requires-clause-there
slot_in-requires-clause-there g c = there_at (g.S.NodeStore.slots c.args.store.now) c.keys.at c.args.nodes.now (Inner record { 0 = 0 }) (omega (arith, c.requires.nodes, c.keys-test.true)) c.requires.there

pub slot_in-requires-clause-span : goal.slot_in-requires-clause-span
slot_in-requires-clause-span g c =
    let slots = g.S.NodeStore.slots c.args.store.now in
    three_read (IsSpanOf g.S.K.Ord.cmp slots 1) c.keys.at c.args.nodes.now c.args.keys.now c.args.spans.now (Inner record { 0 = 0 }) c.index-keys-at.result (0, 0) c.keys-test.true c.requires.nodes
    c.index-keys-at.is c.requires.spans

pub keys-preserved : goal.keys-preserved
keys-preserved g c =
    let slots = g.S.NodeStore.slots c.args.store.now in
    let i = c.keys.invariant in
    record {
      within = omega arith;
      slots =
          three_more (λ at slot. IsSlotOfLeaf g.S.K.Ord.cmp slots at.0 at.1 slot) (λ at slot. Unit {0}) c.keys.at c.args.nodes.now c.args.keys.now c.keys.slots (Inner record { 0 = 0 }) c.index-keys-at.result c.slot_in.result c.keys-test.true
          c.requires.nodes c.index-keys-at.is i.slots c.slot_in.ensures.slot;
      counts_on = omega (arith, i.counts_on, c.slot_in.ensures.counts_on);
      count = omega (arith, i.count, c.slot_in.ensures.count);
    }

pub returns-clause-slots : goal.returns-clause-slots
returns-clause-slots g c =
    let slots = g.S.NodeStore.slots c.args.store.now in
    slots_from_zip g.met.S.K.Ord.total slots c.args.nodes.now c.args.keys.now c.keys.slots c.requires.nodes
    (three_all (λ at slot. IsSlotOfLeaf g.S.K.Ord.cmp slots at.0 at.1 slot) (λ at slot. Unit {0}) c.keys.at c.args.nodes.now c.args.keys.now c.keys.slots (omega arith) c.requires.nodes c.keys.invariant.slots)
