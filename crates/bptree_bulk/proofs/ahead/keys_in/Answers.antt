use Rattle.std.proofs.Common.{◌≡◌, ◌∙◌, ◌++◌, ◌<◌, ap, arith, drop, length, subst, sym}
use Rattle.std.proofs.lemmas.List.{length-drop, take_rest}
use Rattle.std.specs.Map.{keys_of}
use Rattle.bptree_bulk.specs.Positions.{index_of_position, rest_of}
use Rattle.bptree_bulk.specs.Weave.{AreFirstKeys}
use Rattle.bptree_bulk.proofs.Steps.{first_keys}
use Rattle.bptree_bulk.proofs.Tails.{from_index}
use Rattle.bptree_invariant.specs.Leaves.{pairs_of}
use Rattle.bptree_invariant.specs.Shape.{leaf_pairs}
use Rattle.bptree_bulk.proofs.ahead.keys_in.Goals as goal

pub returns-clause-keys : goal.returns-clause-keys
returns-clause-keys g c =
    let tree = c.args.tree.now in
    let slots = g.S.NodeStore.slots tree.store in
    let at = c.args.at in
    let node = c.args.leaf.now in
    let stored = c.requires.at.on.stored in
    let rest = pairs_of slots stored.after in
    let index = index_of_position g.S.NodeStore.slots tree at in
    let leaf : leaf_pairs (slots.leaf at.leaf.0) ≡ node.pairs = ap leaf_pairs c.requires.leaf in
    let here : rest_of g.S.NodeStore.slots tree at ≡ drop at.slot (node.pairs ++ rest) =
    ap (drop index) c.recall.ensures.whole.contents ∙ (from_index g.S.Argument.Argument.is_summary slots tree.height tree.root c.recall.ensures.whole.shape at.leaf stored at.slot ∙ ap (λ l. drop at.slot (l ++ rest)) leaf) in
    let inside : 0 < length (drop at.slot (node.pairs ++ rest)) → at.slot < length node.pairs =
    λ some. omega (arith, c.requires.at.pair (omega (arith, some, ap length here, length-drop index tree.contents, ap length c.recall.ensures.whole.contents)), ap length leaf) in
    let keys = take_rest c.keys.result.now at.slot ∙ ap (drop at.slot) c.keys.ensures.value in
    subst (λ l. AreFirstKeys l (rest_of g.S.NodeStore.slots tree at)) (sym keys) (subst (AreFirstKeys (drop at.slot (keys_of node.pairs))) (sym here) (first_keys node.pairs rest at.slot inside))
