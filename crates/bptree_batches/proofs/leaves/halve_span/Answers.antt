use Rattle.std.proofs.Common.{sym, subst, ◌∙◌, ◌+◌, ◌*◌, ◌-◌, ◌/◌, arith}
use Rattle.bptree_batches.specs.Slots.{IsSearchSpan}
use Rattle.bptree_batches.proofs.SlotLemmas.{keys_there}
use Rattle.bptree_batches.proofs.SpanLemmas.{span_halved}
use Rattle.bptree_batches.proofs.leaves.halve_span.Goals as goal

pub returns-clause-span : goal.returns-clause-span
returns-clause-span g c = λ other there is_other present_other.
    let slots = g.S.NodeStore.slots c.args.store.now in
    let leaf = c.leaf_id_unchecked.result in
    let node = c.get_leaf-leaf.result.now in
    let ord = λ (y : g.row.S-K.Denot). g.S.K.Ord.cmp y c.args.key.now in
    let half = c.args.span.1 / 2 in
    let old = c.requires.span leaf node c.leaf_id_unchecked.ensures c.get_leaf-leaf.ensures in
    let new = span_halved g.S.K.Ord.cmp c.keys.result.now c.args.key.now c.args.span c.args.most c.from.result c.index-keys-first.result c.compare.result c.is_le-is_past.result (omega arith) c.index-keys-first.is c.compare.ensures.order c.is_le-is_past.ensures c.from.ensures (subst (λ xs. IsSearchSpan ord xs (c.args.most + c.args.most) c.args.span) (sym c.keys.ensures.value) old) in
    subst (λ xs. IsSearchSpan ord xs c.args.most (c.args.span.0 + c.from.result * half, c.args.span.1 - half)) (c.keys.ensures.value ∙ (sym (keys_there slots c.args.id leaf node c.leaf_id_unchecked.ensures c.get_leaf-leaf.ensures) ∙ keys_there slots c.args.id other there is_other present_other)) new
