use Rattle.std.proofs.Common.{get_or, arith}
use Rattle.std.proofs.lemmas.List.{get_or_default}
use Rattle.bptree_keys.specs.declared.node_id.NodeId.TheVariants.{Inner}
use Rattle.bptree_batches.specs.Slots.{IsSpanOf}
use Rattle.bptree_batches.proofs.FindLemmas.{member_of}
use Rattle.bptree_batches.proofs.SlotLemmas.{there_at, three_all, three_more, three_start}
use Rattle.bptree_batches.proofs.leaves.begin_group.Goals as goal

pub keys-init : goal.keys-init
keys-init g c =
    let slots = g.S.NodeStore.slots c.args.store.now in
    record {
      within = omega arith;
      spans = three_start (IsSpanOf g.S.K.Ord.cmp slots 64) c.args.nodes.now c.args.keys.now c.args.spans.now c.requires.nodes c.requires.spans;
    }

pub span_of-requires : goal.span_of-requires
span_of-requires g c = there_at (g.S.NodeStore.slots c.args.store.now) c.keys.at c.args.nodes.now (Inner record { 0 = 0 }) (omega (arith, c.requires.nodes, c.keys-test.true)) c.requires.there

pub keys-preserved : goal.keys-preserved
keys-preserved g c =
    let slots = g.S.NodeStore.slots c.args.store.now in
    let keys = c.args.keys.now in
    let n = c.keys.at in
    let key = get_or keys n (member_of keys n c.keys-test.true) in
    record {
      within = omega arith;
      spans =
          three_more (IsSpanOf g.S.K.Ord.cmp slots 64) (λ at span. Unit {0}) n c.args.nodes.now keys c.keys.spans (Inner record { 0 = 0 }) key c.span_of.result c.keys-test.true c.requires.nodes
          (get_or_default keys n (member_of keys n c.keys-test.true) key c.keys-test.true) c.keys.invariant.spans (c.span_of.ensures key);
    }

pub returns : goal.returns
returns g c =
    let slots = g.S.NodeStore.slots c.args.store.now in
    three_all (IsSpanOf g.S.K.Ord.cmp slots 64) (λ at span. Unit {0}) c.keys.at c.args.nodes.now c.args.keys.now c.keys.spans (omega arith) c.requires.nodes c.keys.invariant.spans
