use Rattle.std.proofs.Common.{◌≡◌, ◌<◌, ◌+◌, List, length, sym, subst, ◌∙◌, arith, ap, Ok, Err}
use Rattle.std.specs.List.Sorted.{IsStrictlySortedBy}
use Rattle.std.specs.Map.{keys_of}
use Rattle.bptree_keys.specs.Locate.{locate}
use Rattle.bptree_batches.specs.Slots.{IsSearchSpan}
use Rattle.bptree_batches.proofs.SlotLemmas.{slot_located}
use Rattle.bptree_batches.proofs.SpanLemmas.{span_empty, span_ended, span_found}
use Rattle.bptree_batches.proofs.leaves.slot_in.Goals as goal

pub returns-then-width-eq0-clause-slot : goal.returns-then-width-eq0-clause-slot
returns-then-width-eq0-clause-slot g c = λ leaf node is present ascending.
    span_empty g.S.K.Ord.cmp (keys_of node.pairs) c.args.key.now c.args.span (c.requires.span leaf node is present) c.if-width-eq0.true

pub returns-then-is_eq-clause-slot : goal.returns-then-is_eq-clause-slot
returns-then-is_eq-clause-slot g c =
    let cmp = g.S.K.Ord.cmp in
    let key = c.args.key.now in
    let left = c.requires.span c.leaf_id_unchecked.result c.get_leaf-leaf.result.now c.leaf_id_unchecked.ensures c.get_leaf-leaf.ensures in
    let within : c.args.span.0 < length c.keys.result.now = omega (arith, left.within, ap length c.keys.ensures.value, c.if-width-eq0.false) in
    slot_located g.met.S.K.Ord.total (g.S.NodeStore.slots c.args.store.now) c.args.id c.leaf_id_unchecked.result c.get_leaf-leaf.result.now key (Ok c.args.span.0) c.leaf_id_unchecked.ensures c.get_leaf-leaf.ensures
    (subst (λ (xs : List g.row.S-K.Denot). IsStrictlySortedBy cmp xs → Ok c.args.span.0 ≡ locate cmp xs key) c.keys.ensures.value
    (span_found cmp c.keys.result.now key c.args.span g.met.S.K.Ord.total c.index-keys-first.result c.compare-ordering.result c.is_eq.result within c.index-keys-first.is c.compare-ordering.ensures.order c.is_eq.ensures c.if-is_eq.true))

pub returns-else-is_eq-clause-slot : goal.returns-else-is_eq-clause-slot
returns-else-is_eq-clause-slot g c =
    let cmp = g.S.K.Ord.cmp in
    let key = c.args.key.now in
    let left = c.requires.span c.leaf_id_unchecked.result c.get_leaf-leaf.result.now c.leaf_id_unchecked.ensures c.get_leaf-leaf.ensures in
    let within : c.args.span.0 < length c.keys.result.now = omega (arith, left.within, ap length c.keys.ensures.value, c.if-width-eq0.false) in
    let read = subst (λ (xs : List g.row.S-K.Denot). IsSearchSpan (λ y. cmp y key) xs 1 c.args.span) (sym c.keys.ensures.value) left in
    slot_located g.met.S.K.Ord.total (g.S.NodeStore.slots c.args.store.now) c.args.id c.leaf_id_unchecked.result c.get_leaf-leaf.result.now key (Err (c.args.span.0 + c.from.result)) c.leaf_id_unchecked.ensures c.get_leaf-leaf.ensures
    (subst (λ (xs : List g.row.S-K.Denot). IsStrictlySortedBy cmp xs → Err (c.args.span.0 + c.from.result) ≡ locate cmp xs key) c.keys.ensures.value
    (span_ended cmp c.keys.result.now key c.args.span g.met.S.K.Ord.total c.index-keys-first.result c.from.result c.compare-ordering.result c.is_eq.result c.is_lt.result within c.index-keys-first.is c.compare-ordering.ensures.order c.is_eq.ensures (c.is_eq.ensures ∙ sym c.if-is_eq.ensures) c.is_lt.ensures c.from.ensures read))
