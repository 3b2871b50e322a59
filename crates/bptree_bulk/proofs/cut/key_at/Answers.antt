use Rattle.std.proofs.Common.{◌≡◌, ◌∙◌, ◌+◌, ◌-◌, ◌++◌, arith, ap, drop, sym}
use Rattle.bptree_invariant.specs.Leaves.{pairs_of}
use Rattle.bptree_invariant.specs.Shape.{leaf_pairs}
use Rattle.bptree_bulk.proofs.Cuts.{drop_past, key_here, pairs_from}
use Rattle.bptree_bulk.specs.Cut.{first_key}
use Rattle.bptree_bulk.proofs.cut.key_at.Goals as goal

pub returns-then-left-len : goal.returns-then-left-len
returns-then-left-len g c =
    let slots = g.S.NodeStore.slots c.args.store.now in
    let node = c.get_leaf-leaf.result.now in
    let rest = pairs_of slots (drop (c.ids.i + 1) c.args.ids.now) in
    let from : pairs_of slots (drop c.ids.i c.args.ids.now) ≡ node.pairs ++ rest = pairs_from slots c.args.ids.now c.ids.i (record { 0 = 0 }) c.ids-test.true ∙ ap (λ l. leaf_pairs l ++ rest) c.get_leaf-leaf.ensures in
    sym (key_here node.pairs rest c.ids.left c.data_at.result.0.now c.data_at.result.1.now c.data_at.ensures.value) ∙ (ap (λ l. first_key (drop c.ids.left l)) (sym from) ∙ ap first_key c.ids.invariant.same)

pub ids-preserved : goal.ids-preserved
ids-preserved g c =
    let slots = g.S.NodeStore.slots c.args.store.now in
    let node = c.get_leaf-leaf.result.now in
    let rest = pairs_of slots (drop (c.ids.i + 1) c.args.ids.now) in
    let from : pairs_of slots (drop c.ids.i c.args.ids.now) ≡ node.pairs ++ rest = pairs_from slots c.args.ids.now c.ids.i (record { 0 = 0 }) c.ids-test.true ∙ ap (λ l. leaf_pairs l ++ rest) c.get_leaf-leaf.ensures in
    record {
      within = omega (arith, c.ids-test.true);
      same = ap (λ n. drop (c.ids.left - n) rest) c.len-left.ensures.value ∙ (sym (drop_past node.pairs rest c.ids.left (omega (arith, c.if-left-len.false, c.len.ensures.value))) ∙ (ap (drop c.ids.left) (sym from) ∙ c.ids.invariant.same));
    }
