use Rattle.std.proofs.Common.{◌≡◌, ◌<◌, ◌-◌, ◌∙◌, ap, arith, cond, length, refl, slice_get, sym}
use Rattle.bptree_invariant.proofs.Low.{low_tree}
use Rattle.bptree_keys.specs.Ends.{is_back}
use Rattle.bptree_invariant.specs.Shape.{leaf_pairs, pairs_at}
use Rattle.bptree_invariant.proofs.Ends.{end_pair, end_within}
use Rattle.bptree_search.proofs.Summed.{whole_subtree}
use Rattle.bptree_removal.proofs.EndPaths.{entry_there, few_of, left_there, none_at_end, none_here, pair_there, some_here}
use Rattle.bptree_removal.proofs.removal.remove_end.Goals as goal

pub end_path-leaf-requires-clause-subtree : goal.end_path-leaf-requires-clause-subtree
end_path-leaf-requires-clause-subtree g c =
    whole_subtree g.met.S.K.Ord.total g.S.Argument.Argument.is_summary (g.S.NodeStore.slots c.tree.inside.store) c.tree.inside.height c.tree.inside.root _ c.tree.invariant.0 refl (few_of c.tree.inside.len _ c.tree.invariant.1 (omega arith))

pub end_path-leaf-requires-clause-room : goal.end_path-leaf-requires-clause-room
end_path-leaf-requires-clause-room g c =
    let low = low_tree g.S.K.Ord.cmp g.S.Argument.Argument.is_summary (g.S.NodeStore.slots c.tree.inside.store) c.tree.inside.height c.tree.inside.root c.tree.invariant.0 (few_of c.tree.inside.len _ c.tree.invariant.1 (omega arith)) in
    omega (arith, low, ap length c.clear.ensures)

pub take_entry_by-requires : goal.take_entry_by-requires
take_entry_by-requires g c =
    let total = g.met.S.K.Ord.total in
    let sum = g.S.Argument.Argument.is_summary in
    let tree = c.tree.inside in
    let old = g.S.NodeStore.slots tree.store in
    let leaf = c.end_path-leaf.result in
    let slot = c.end_index-slot.result in
    let few = few_of c.tree.inside.len _ c.tree.invariant.1 (omega arith) in
    let some : 0 < length c.get_leaf.result.now.pairs = omega (arith, c.len-len.ensures.value) in
    let within : slot < length (leaf_pairs (old.leaf leaf.0)) = rw c.get_leaf.ensures (end_within (is_back c.args.end) (length c.get_leaf.result.now.pairs) slot some (rw c.len-len.ensures.value at c.end_index-slot.ensures)) in
    rw (← c.tree.view_is) (
      (pair_there total sum old tree.height tree.root c.tree.invariant.0 few leaf slot within c.clear.new.self c.end_path-leaf.new.path c.clear.ensures (c.end_path-leaf.ensures.way slot)).0.0,
      entry_there total sum old tree.height tree.root c.tree.invariant.0 few leaf slot within c.clear.new.self c.end_path-leaf.new.path c.clear.ensures (c.end_path-leaf.ensures.way slot),
    )

pub returns-then-len-eq0-clause-removed : goal.returns-then-len-eq0-clause-removed
returns-then-len-eq0-clause-removed g c =
    let old = g.S.NodeStore.slots c.tree.inside.store in
    let node = c.get_leaf.result.now in
    let at = end_pair g.S.K.Ord.cmp old c.tree.inside.height c.tree.inside.root c.tree.invariant.0.tree c.end_path-leaf.result node c.get_leaf.ensures (is_back c.args.end) c.end_path-leaf.ensures.leaf in
    rw (← c.tree.view_is) (none_at_end (is_back c.args.end) _ (sym at ∙ none_here node.pairs _ (omega (arith, c.len-len.ensures.value))), refl)

pub returns-clause-removed : goal.returns-clause-removed
returns-clause-removed g c =
    let total = g.met.S.K.Ord.total in
    let sum = g.S.Argument.Argument.is_summary in
    let tree = c.tree.inside in
    let old = g.S.NodeStore.slots tree.store in
    let leaf = c.end_path-leaf.result in
    let node = c.get_leaf.result.now in
    let slot = c.end_index-slot.result in
    let few = few_of c.tree.inside.len _ c.tree.invariant.1 (omega arith) in
    let index = cond (is_back c.args.end) (length (pairs_at old tree.height tree.root) - 1) 0 in
    let some : 0 < length node.pairs = omega (arith, c.len-len.ensures.value) in
    let stored : slot ≡ cond (is_back c.args.end) (length node.pairs - 1) 0 = rw c.len-len.ensures.value at c.end_index-slot.ensures in
    let within : slot < length (leaf_pairs (old.leaf leaf.0)) = rw c.get_leaf.ensures (end_within (is_back c.args.end) (length node.pairs) slot some stored) in
    let at = end_pair g.S.K.Ord.cmp old tree.height tree.root c.tree.invariant.0.tree leaf node c.get_leaf.ensures (is_back c.args.end) c.end_path-leaf.ensures.leaf in
    let here : slice_get (leaf_pairs (old.leaf leaf.0)) slot ≡ slice_get (pairs_at old tree.height tree.root) index = rw (c.get_leaf.ensures, stored) at in
    let pair = pair_there total sum old tree.height tree.root c.tree.invariant.0 few leaf slot within c.clear.new.self c.end_path-leaf.new.path c.clear.ensures (c.end_path-leaf.ensures.way slot) in
    let there = entry_there total sum old tree.height tree.root c.tree.invariant.0 few leaf slot within c.clear.new.self c.end_path-leaf.new.path c.clear.ensures (c.end_path-leaf.ensures.way slot) in
    let taken = c.in_ok-take_entry_by.ensures.taken pair.0.0 (rw (← c.tree.view_is) there) in
    rw (← c.tree.view_is) (left_there total sum old tree.height tree.root c.tree.invariant.0 few leaf slot within c.clear.new.self c.end_path-leaf.new.path c.clear.ensures (c.end_path-leaf.ensures.way slot) _ _ index here (rw (← c.tree.view_is) at taken.0) taken.1 (rw (← c.tree.view_is) at taken.2))

pub returns-in_err-take_entry_by-clause-empty : goal.returns-in_err-take_entry_by-clause-empty
returns-in_err-take_entry_by-clause-empty g c empty =
    let tree = c.tree.inside in
    let node = c.get_leaf.result.now in
    let at = end_pair g.S.K.Ord.cmp (g.S.NodeStore.slots tree.store) tree.height tree.root c.tree.invariant.0.tree c.end_path-leaf.result node c.get_leaf.ensures (is_back c.args.end) c.end_path-leaf.ensures.leaf in
    let some : 0 < length node.pairs = omega (arith, c.len-len.ensures.value) in
    absurd (some_here node.pairs _ (end_within (is_back c.args.end) (length node.pairs) _ some refl) (at ∙ none_here _ _ (ap length (rw (← c.tree.view_is) at empty))))

pub returns-clause-empty : goal.returns-clause-empty
returns-clause-empty g c empty =
    let tree = c.tree.inside in
    let node = c.get_leaf.result.now in
    let at = end_pair g.S.K.Ord.cmp (g.S.NodeStore.slots tree.store) tree.height tree.root c.tree.invariant.0.tree c.end_path-leaf.result node c.get_leaf.ensures (is_back c.args.end) c.end_path-leaf.ensures.leaf in
    let some : 0 < length node.pairs = omega (arith, c.len-len.ensures.value) in
    absurd (some_here node.pairs _ (end_within (is_back c.args.end) (length node.pairs) _ some refl) (at ∙ none_here _ _ (ap length (rw (← c.tree.view_is) at empty))))

pub returns-clause-untouched : goal.returns-clause-untouched
returns-clause-untouched g c empty =
    let tree = c.tree.inside in
    let node = c.get_leaf.result.now in
    let at = end_pair g.S.K.Ord.cmp (g.S.NodeStore.slots tree.store) tree.height tree.root c.tree.invariant.0.tree c.end_path-leaf.result node c.get_leaf.ensures (is_back c.args.end) c.end_path-leaf.ensures.leaf in
    let some : 0 < length node.pairs = omega (arith, c.len-len.ensures.value) in
    absurd (some_here node.pairs _ (end_within (is_back c.args.end) (length node.pairs) _ some refl) (at ∙ none_here _ _ (ap length (rw (← c.tree.view_is) at empty))))
