use Rattle.std.proofs.Common.{◌≡◌, ◌∙◌, ◌+◌, ◌-◌, ◌++◌, ◌<◌, ap, arith, drop, length, sym, take}
use Rattle.std.specs.Map.{keys_of}
use Rattle.bptree_bulk.specs.Positions.{index_of_position, rest_of}
use Rattle.bptree_bulk.proofs.Tails.{from_index}
use Rattle.bptree_bulk.proofs.Weaves.{keys_here}
use Rattle.bptree_invariant.specs.Leaves.{pairs_of}
use Rattle.bptree_invariant.specs.Shape.{leaf_pairs, pairs_at}
use Rattle.bptree_bulk.proofs.ahead.key_slice_in.Goals as goal

pub returns : goal.returns
returns g c =
    let tree = c.args.tree.now in
    let slots = g.S.NodeStore.slots tree.store in
    let at = c.args.at in
    let node = c.args.leaf.now in
    let stored = c.requires.at.on.stored in
    let rest = pairs_of slots stored.after in
    let leaf : leaf_pairs (slots.leaf at.leaf.0) ≡ node.pairs = ap leaf_pairs c.requires.leaf in
    let here : rest_of g.S.NodeStore.slots tree at ≡ drop at.slot (node.pairs ++ rest) =
    ap (drop (index_of_position g.S.NodeStore.slots tree at)) c.recall.ensures.whole.contents ∙ (from_index g.S.Argument.Argument.is_summary slots tree.height tree.root c.recall.ensures.whole.shape at.leaf stored at.slot ∙ ap (λ l. drop at.slot (l ++ rest)) leaf) in
    let some : index_of_position g.S.NodeStore.slots tree at < length (pairs_at slots tree.height tree.root) = omega (arith, c.requires.some, ap length c.recall.ensures.whole.contents) in
    let inside : at.slot < length node.pairs = omega (arith, c.requires.at.pair some, ap length leaf) in
    let one : at.slot + 1 - at.slot ≡ 1 = omega arith in
    ap (λ n. take n (drop at.slot c.keys.result.now)) one ∙ (ap (λ l. take 1 (drop at.slot l)) c.keys.ensures.value ∙ (sym (keys_here node.pairs rest at.slot inside) ∙ ap (λ l. keys_of (take 1 l)) (sym here)))
