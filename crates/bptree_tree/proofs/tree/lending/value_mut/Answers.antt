use Rattle.std.proofs.Common.{◌≡◌, ◌⊎◌, ap, sym, inr, inl, Err, None, Ok, ◌∙◌, refl}
use Rattle.bptree_keys.specs.Contents.{IsAscending}
use Rattle.bptree_nodes.specs.Leaf.{set_value_at}
use Rattle.bptree_nodes.proofs.LeafContents.{value_at_index}
use Rattle.bptree_invariant.specs.Shape.{root_least, pairs_at}
use Rattle.bptree_propagation.proofs.Borrowed.{borrowed_pairs, borrowed_store}
use Rattle.bptree_search.proofs.Beside.{slot_there, value_missing}
use Rattle.bptree_invariant.proofs.Spot.{value_in_leaf, leaf_ascends}
use Rattle.bptree_invariant.proofs.Walk.{tree_ascends}
use Rattle.bptree_tree.proofs.BorrowedAt.{borrowed_right}
use Rattle.bptree_tree.proofs.tree.lending.value_mut.Goals as goal

-- two borrows from one owner with the same result of each write are equal
same_lending : {N W L M : Type 0} {n : N} {F G : W → L} → ((w : W) → F w ≡ G w) → ◌≡◌ {A = (N × (W → L)) ⊎ M} (inl (n, F)) (inl (n, G))
same_lending {n = n} same = λ i. inl (n, λ w. same w i)

pub get_mut_leaf-requires : goal.get_mut_leaf-requires
get_mut_leaf-requires g c = c.in-Ok.ensures.for_key.stored.present

pub value_at_mut-requires : goal.value_at_mut-requires
value_at_mut-requires g c =
    let tree = c.tree.inside in
    slot_there g.met.S.K.Ord.total g.S.Argument.Argument.is_summary (g.S.NodeStore.slots tree.store) tree.height tree.root c.tree.invariant.0 c.args.k.now c.in-Ok.at.leaf (Ok c.in-Ok.at.slot) c.in-Ok.ensures c.get_mut_leaf.result.now c.get_mut_leaf.ensures.value c.in-Ok.at.slot refl

-- if any value is written, the tree is well shaped
pub invariant_of-tree-lent : goal.invariant_of-tree-lent
invariant_of-tree-lent g c = λ w.
    let tree = c.tree.inside in
    let slots = g.S.NodeStore.slots in
    let leaf = c.in-Ok.at.leaf in
    let slot = c.in-Ok.at.slot in
    let node = c.get_mut_leaf.result.now in
    let stored = c.in-Ok.ensures.for_key.stored in
    let written = record node { pairs = set_value_at node.pairs slot w } in
    borrowed_right g.S.K.Ord.cmp g.S.Argument.Argument.is_summary (slots tree.store) (slots (g.S.NodeStore.with_leaf tree.store leaf.0 written)) tree.height tree.root c.tree.invariant.0 leaf node c.get_mut_leaf.ensures.value stored slot w (g.met.S.NodeStore.with_leaf_updates tree.store leaf.0 written stored.present)
    tree.len c.tree.invariant.1 tree.summary c.tree.invariant.2

-- the value that is borrowed is the one at the key, and the tree ends with what is written there
pub returns-in-Ok : goal.returns-in-Ok
returns-in-Ok g c =
    let total = g.met.S.K.Ord.total in
    let cmp = g.S.K.Ord.cmp in
    let tree = c.tree.inside in
    let slots = g.S.NodeStore.slots tree.store in
    let sum = g.S.Argument.Argument.is_summary in
    let leaf = c.in-Ok.at.leaf in
    let slot = c.in-Ok.at.slot in
    let leads = c.in-Ok.ensures.for_key in
    let node = c.get_mut_leaf.result.now in
    let read = c.get_mut_leaf.ensures.value in
    let k = c.args.k.now in
    let ascending : IsAscending cmp (pairs_at slots tree.height tree.root) = tree_ascends total slots (root_least tree.height) tree.height tree.root None None c.tree.invariant.0.tree in
    let found = rw read at c.in-Ok.ensures.index_is in
    let pairs = λ (w : g.row.S-V.Denot).
    let written = record node { pairs = set_value_at node.pairs slot w } in
    let updates = g.met.S.NodeStore.with_leaf_updates tree.store leaf.0 written leads.stored.present in
    borrowed_pairs total sum slots (g.S.NodeStore.slots (g.S.NodeStore.with_leaf tree.store leaf.0 written)) tree.height tree.root c.tree.invariant.0 ascending k leaf node read leads slot found w updates in
    let stores = borrowed_store total sum g.S.NodeStore.slots g.S.NodeStore.with_leaf tree.store tree.height tree.root ascending k leaf node read leads slot found c.tree.invariant.0 in
    let sorted = leaf_ascends total slots tree.height tree.root leaf node leads.stored ascending read in
    rw (← c.tree.view_is) (
      same_lending (λ w i. record { contents = pairs w i; store = stores w i; root = tree.root; height = tree.height; root_argument = tree.summary }),
      record {
        writes_back = tt;
        value = sym c.value_at_mut.ensures.value ∙ (value_at_index cmp total node.pairs sorted k slot found ∙ sym (value_in_leaf total slots tree.height tree.root k leaf node leads read));
      },
    )

-- nothing is borrowed
pub returns-in-Err : goal.returns-in-Err
returns-in-Err g c =
    let tree = c.tree.inside in (
      ap inr c.tree.view_is,
      record {
        writes_back = tt;
        value = rw (← c.tree.view_is) (value_missing g.met.S.K.Ord.total g.S.Argument.Argument.is_summary (g.S.NodeStore.slots tree.store) tree.height tree.root c.tree.invariant.0 c.args.k.now c.in-Err.field-0.leaf (Err c.in-Err.field-0.slot) c.in-Err.ensures c.in-Err.field-0.slot refl);
      },
    )
