use Rattle.std.proofs.Common.{◌≡◌, ◌∙◌, ◌++◌, ◌<◌, ap, arith, drop, length, sym}
use Rattle.bptree_bulk_load.proofs.Standing.{drop_all}
use Rattle.bptree_bulk.specs.Cut.{first_key}
use Rattle.bptree_bulk.specs.Positions.{index_of_position}
use Rattle.bptree_bulk.proofs.Cuts.{key_here}
use Rattle.bptree_bulk.proofs.Tails.{from_index}
use Rattle.bptree_invariant.specs.Leaves.{pairs_of}
use Rattle.bptree_invariant.specs.Shape.{leaf_pairs, pairs_at}
use Rattle.bptree_bulk.proofs.ahead.key_in.Goals as goal

pub returns-then-at-len : goal.returns-then-at-len
returns-then-at-len g c =
    let tree = c.args.tree.now in
    let slots = g.S.NodeStore.slots tree.store in
    let at = c.args.at in
    let node = c.args.leaf.now in
    let stored = c.requires.at.on.stored in
    let rest = pairs_of slots stored.after in
    let leaf : leaf_pairs (slots.leaf at.leaf.0) ≡ node.pairs = ap leaf_pairs c.requires.leaf in
    let here : drop (index_of_position g.S.NodeStore.slots tree at) tree.contents ≡ drop at.slot (node.pairs ++ rest) =
    ap (drop (index_of_position g.S.NodeStore.slots tree at)) c.recall.ensures.whole.contents ∙ (from_index g.S.Argument.Argument.is_summary slots tree.height tree.root c.recall.ensures.whole.shape at.leaf stored at.slot ∙ ap (λ l. drop at.slot (l ++ rest)) leaf) in
    sym (ap first_key here ∙ key_here node.pairs rest at.slot c.data_at.result.0.now c.data_at.result.1.now c.data_at.ensures.value)

pub returns-else-at-len : goal.returns-else-at-len
returns-else-at-len g c =
    let tree = c.args.tree.now in
    let slots = g.S.NodeStore.slots tree.store in
    let at = c.args.at in
    let size : c.len.result ≡ length (leaf_pairs (slots.leaf at.leaf.0)) = c.len.ensures.value ∙ ap (λ l. length (leaf_pairs l)) (sym c.requires.leaf) in
    let past : index_of_position g.S.NodeStore.slots tree at < length (pairs_at slots tree.height tree.root) → ⊥ = λ less. omega (arith, c.requires.at.pair less, size, c.if-at-len.false) in
    sym (ap first_key (drop_all tree.contents (index_of_position g.S.NodeStore.slots tree at) (omega (arith, past, ap length c.recall.ensures.whole.contents))))
