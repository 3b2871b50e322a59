use Rattle.std.proofs.Common.{◌+◌, arith, ◌∙◌}
use Rattle.std.proofs.lemmas.List.{length-set}
use Rattle.bptree_keys.specs.declared.node_id.NodeId.TheVariants.{Inner}
use Rattle.bptree_batches.specs.Slots.{IsSpanOf}
use Rattle.bptree_batches.proofs.SlotLemmas.{there_at, three_all, three_at, three_length, three_more, three_none}
use Rattle.bptree_batches.proofs.leaves.halve_group.Goals as goal

pub keys-init : goal.keys-init
keys-init g c =
    let slots = g.S.NodeStore.slots c.args.store.now in
    let P = IsSpanOf g.S.K.Ord.cmp slots c.args.most in
    let Q = IsSpanOf g.S.K.Ord.cmp slots (c.args.most + c.args.most) in
    record {
      within = omega arith;
      len = three_length Q c.args.nodes.now c.args.keys.now c.args.spans.now c.requires.nodes c.requires.spans;
      spans = three_none P Q c.args.nodes.now c.args.keys.now c.args.spans.now c.requires.spans;
      counts_on = omega arith;
      count = omega arith;
    }

pub halve_span-requires-clause-there : goal.halve_span-requires-clause-there
halve_span-requires-clause-there g c = there_at (g.S.NodeStore.slots c.args.store.now) c.keys.at c.args.nodes.now (Inner record { 0 = 0 }) (omega (arith, c.requires.nodes, c.keys-test.true)) c.requires.there

pub halve_span-requires-clause-span : goal.halve_span-requires-clause-span
halve_span-requires-clause-span g c =
    let slots = g.S.NodeStore.slots c.args.store.now in
    let P = IsSpanOf g.S.K.Ord.cmp slots c.args.most in
    let Q = IsSpanOf g.S.K.Ord.cmp slots (c.args.most + c.args.most) in
    three_at P Q c.keys.at c.args.nodes.now c.args.keys.now c.keys.spans (Inner record { 0 = 0 }) c.index-keys-at.result (0, 0) c.keys-test.true c.requires.nodes c.index-keys-at.is c.keys.invariant.spans

pub keys-preserved : goal.keys-preserved
keys-preserved g c =
    let slots = g.S.NodeStore.slots c.args.store.now in
    let P = IsSpanOf g.S.K.Ord.cmp slots c.args.most in
    let Q = IsSpanOf g.S.K.Ord.cmp slots (c.args.most + c.args.most) in
    let i = c.keys.invariant in
    record {
      within = omega arith;
      len = length-set c.keys.spans c.keys.at c.halve_span.result ∙ i.len;
      spans =
          three_more P Q c.keys.at c.args.nodes.now c.args.keys.now c.keys.spans (Inner record { 0 = 0 }) c.index-keys-at.result c.halve_span.result c.keys-test.true c.requires.nodes c.index-keys-at.is i.spans
          c.halve_span.ensures.span;
      counts_on = omega (arith, i.counts_on, c.halve_span.ensures.counts_on);
      count = omega (arith, i.count, c.halve_span.ensures.count);
    }

pub returns-clause-spans : goal.returns-clause-spans
returns-clause-spans g c =
    let slots = g.S.NodeStore.slots c.args.store.now in
    let P = IsSpanOf g.S.K.Ord.cmp slots c.args.most in
    let Q = IsSpanOf g.S.K.Ord.cmp slots (c.args.most + c.args.most) in
    three_all P Q c.keys.at c.args.nodes.now c.args.keys.now c.keys.spans (omega arith) c.requires.nodes c.keys.invariant.spans
