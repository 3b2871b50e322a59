use Rattle.std.proofs.Common.{◌≡◌, ◌∙◌, ◌-◌, ◌≤◌, ◌++◌, [], ap, arith, drop, length, map, subst, sym, take}
use Rattle.std.proofs.lemmas.List.{length-drop}
use Rattle.std.specs.Vec.Iter.{into_iter_items}
use Rattle.bptree_bulk_load.specs.Plans.{Frames}
use Rattle.bptree_bulk_load.specs.Rooms.{id_count, joined, pairs_under, parts_of, IsPresentAt}
use Rattle.bptree_bulk.specs.Moving.{poured}
use Rattle.bptree_bulk.proofs.Dealt.{lower_dealt, lower_pairs, poured_border, upper_dealt, upper_pairs}
use Rattle.bptree_bulk.proofs.OwnLeaves.{all_read, own_once, own_pairs, own_present, pairs_read}
use Rattle.bptree_bulk.proofs.Sides.{border, border_len}
use Rattle.bptree_bulk.proofs.splitting.deal.Given.{Over}
use Rattle.bptree_bulk.proofs.splitting.deal.Goals.{After-into_iter-items, After-pass}
use Rattle.bptree_bulk.proofs.splitting.deal.Goals as goal

pub take_leaves-requires-clause-present : goal.take_leaves-requires-clause-present
take_leaves-requires-clause-present g c =
    all_read g.S.NodeStore.slots (ap (λ t. t.store) c.tree.view_is) c.deref.ensures.value IsPresentAt (own_present c.recall.ensures.whole c.requires.1.ids)

pub take_leaves-requires-clause-once : goal.take_leaves-requires-clause-once
take_leaves-requires-clause-once g c n = subst (λ l. id_count l n ≤ 1) (sym c.deref.ensures.value) (own_once c.recall.ensures.whole c.requires.1.ids n)

-- the leaves that were taken out are those under the leaf ids
taken : (g : Over) (c : After-pass g) → parts_of c.take_leaves.new.leaves.items ≡ map (pairs_under (g.S.NodeStore.slots c.args.tree.store)) c.args.split.ids.items
taken g c = pairs_read g.S.NodeStore.slots (ap (λ t. t.store) c.tree.view_is) c.deref.ensures.value (parts_of c.take_leaves.new.leaves.items) (parts_of c.args.split.leaves.items) [] (ap parts_of c.requires.1.leaves.0) c.take_leaves.ensures.leaves

-- the leaves that are left come behind those of the lower side
passed : (g : Over) (c : After-pass g) → into_iter_items c.pass.new.items ≡ drop c.args.split.cut.from c.take_leaves.new.leaves.items
passed g c = c.pass.ensures.rest ∙ ap (drop c.args.split.cut.from) c.into_iter-boxes.ensures.rest

-- the pairs of the next leaves are the border's
edge : (g : Over) (c : After-pass g) → poured (c.args.split.cut.to - c.args.split.cut.from) (into_iter_items c.pass.new.items) ≡ border (g.S.NodeStore.slots c.args.tree.store) c.args.split.ids.items c.args.split.cut c.requires.1.cut
edge g c =
    let split = c.args.split in
    ap (poured (split.cut.to - split.cut.from)) (passed g c) ∙ poured_border (g.S.NodeStore.slots c.args.tree.store) split.ids.items split.cut c.requires.1.cut c.take_leaves.new.leaves.items (taken g c)

-- the pairs that are dealt are those of these leaves
dealt : (g : Over) (c : After-into_iter-items g) → into_iter_items c.into_iter-items.result ≡ poured (c.args.split.cut.to - c.args.split.cut.from) (into_iter_items c.pass.new.items)
dealt g c =
    let cut = c.args.split.cut in
    c.into_iter-items.ensures.rest ∙ (c.pour.ensures.moved ∙ ap (λ l. l ++ poured (cut.to - cut.from) (into_iter_items c.pass.new.items)) c.requires.1.pairs.0)

pub pour-requires-clause-room : goal.pour-requires-clause-room
pour-requires-clause-room g c =
    let split = c.args.split in
    let s = c.requires.1 in
    omega (arith, ap length (edge g (goal.at.pour-requires-clause-room g c).After-pass), border_len (g.S.NodeStore.slots c.args.tree.store) split.ids.items split.cut s.cut, s.pairs.1, s.pairs.2)

pub fill_pieces-requires-clause-some : goal.fill_pieces-requires-clause-some
fill_pieces-requires-clause-some g c =
    let at = goal.at.fill_pieces-requires-clause-some g c in
    omega (arith, ap length (dealt g at.After-into_iter-items), ap length (edge g at.After-pass), border_len (g.S.NodeStore.slots c.args.tree.store) c.args.split.ids.items c.args.split.cut c.requires.1.cut)

pub fill_pieces-requires-2-clause-some : goal.fill_pieces-requires-2-clause-some
fill_pieces-requires-2-clause-some g c =
    let split = c.args.split in
    let at = goal.at.fill_pieces-requires-2-clause-some g c in
    omega (arith, ap length (dealt g at.After-into_iter-items), ap length (edge g at.After-pass), border_len (g.S.NodeStore.slots c.args.tree.store) split.ids.items split.cut c.requires.1.cut, ap length c.fill_pieces.ensures.rest, length-drop split.cut.below (into_iter_items c.into_iter-items.result))

pub returns-clause-lower : goal.returns-clause-lower
returns-clause-lower g c n s =
    let at = goal.at.returns-clause-lower g c in
    let split = c.args.split in
    let slots = g.S.NodeStore.slots c.args.tree.store in
    let ids = split.ids.items in
    let cut = split.cut in
    let boxes = c.take_leaves.new.leaves.items in
    let low = split.lower.leaves.items in
    let are = lower_dealt slots ids cut s.cut boxes (taken g at.After-pass) low c.pass.new.to.items c.fill_pieces.new.leaves.items (into_iter_items c.into_iter-items.result) s.lower_room.list.0
    (c.pass.ensures.moved ∙ ap (λ b. low ++ take cut.from b) c.into_iter-boxes.ensures.rest) (dealt g at.After-into_iter-items ∙ edge g at.After-pass) c.fill_pieces.ensures.leaves in
    record {
      framed = subst (Frames g.S.K.Ord.cmp g.S.Argument.Argument.is_summary g.S.NodeStore.slots split.lower.frame) (sym are) s.lower;
      are = ap joined are ∙ (lower_pairs slots ids cut s.cut n s.index ∙ ap (take n) (own_pairs c.recall.ensures.whole s.ids));
    }

pub returns-clause-upper : goal.returns-clause-upper
returns-clause-upper g c n s =
    let at = goal.at.returns-clause-upper g c in
    let split = c.args.split in
    let slots = g.S.NodeStore.slots c.args.tree.store in
    let ids = split.ids.items in
    let cut = split.cut in
    let boxes = c.take_leaves.new.leaves.items in
    let are = upper_dealt slots ids cut s.cut boxes (taken g at.After-pass) split.upper.leaves.items c.fill_pieces-2.new.leaves.items c.pass-2.new.to.items (into_iter_items c.pour.new.leaves) (into_iter_items c.fill_pieces.new.items) (into_iter_items c.into_iter-items.result) (c.len.result - cut.to) s.upper_room.list.0
    (dealt g at.After-into_iter-items ∙ edge g at.After-pass) c.fill_pieces.ensures.rest c.fill_pieces-2.ensures.leaves (c.pour.ensures.rest ∙ ap (drop (cut.to - cut.from)) (passed g at.After-pass)) (omega (arith, c.len.ensures)) c.pass-2.ensures.moved in
    record {
      framed = subst (Frames g.S.K.Ord.cmp g.S.Argument.Argument.is_summary g.S.NodeStore.slots split.upper.frame) (sym are) s.upper;
      are = ap joined are ∙ (upper_pairs slots ids cut s.cut n s.index ∙ ap (drop n) (own_pairs c.recall.ensures.whole s.ids));
    }
