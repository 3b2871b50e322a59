use Rattle.std.proofs.Common.{◌≡◌, ◌∙◌, ◌-◌, ◌≤◌, ◌++◌, [], ap, arith, drop, length, map, subst, sym, take}
use Rattle.std.specs.Vec.Iter.{into_iter_items}
use Rattle.bptree_bulk_load.specs.Plans.{Frames}
use Rattle.bptree_bulk_load.specs.Rooms.{id_count, joined, pairs_under, parts_of, IsPresentAt}
use Rattle.bptree_bulk.specs.Filling.{AreParts}
use Rattle.bptree_bulk.specs.Gap.{gap_ends, without_part}
use Rattle.bptree_bulk.specs.Moving.{poured}
use Rattle.bptree_bulk.specs.Removing.{border_kept}
use Rattle.bptree_bulk.proofs.Gaps.{edge, kept_is, kept_len}
use Rattle.bptree_bulk.proofs.OwnLeaves.{all_read, own_once, own_pairs, own_present, pairs_read}
use Rattle.bptree_bulk.proofs.Removals.{around_all, around_dealt, poured_edge}
use Rattle.bptree_invariant.specs.Leaves.{pairs_of}
use Rattle.bptree_bulk.proofs.removing.deal_around.Given.{Over}
use Rattle.bptree_bulk.proofs.removing.deal_around.Goals.{After-pass}
use Rattle.bptree_bulk.proofs.removing.deal_around.Goals as goal

pub take_leaves-requires-clause-present : goal.take_leaves-requires-clause-present
take_leaves-requires-clause-present g c =
    all_read g.S.NodeStore.slots (ap (λ t. t.store) c.tree.view_is) c.deref.ensures.value IsPresentAt (own_present c.recall.ensures.whole c.requires.2.ids)

pub take_leaves-requires-clause-once : goal.take_leaves-requires-clause-once
take_leaves-requires-clause-once g c n = subst (λ l. id_count l n ≤ 1) (sym c.deref.ensures.value) (own_once c.recall.ensures.whole c.requires.2.ids n)

-- the leaves that were taken out are those under the leaf ids
taken : (g : Over) (c : After-pass g) → parts_of c.take_leaves.new.leaves.items ≡ map (pairs_under (g.S.NodeStore.slots c.args.tree.store)) c.args.removal.ids.items
taken g c = pairs_read g.S.NodeStore.slots (ap (λ t. t.store) c.tree.view_is) c.deref.ensures.value (parts_of c.take_leaves.new.leaves.items) (parts_of c.args.removal.old.items) [] (ap parts_of c.requires.2.old.0) c.take_leaves.ensures.leaves

-- the leaves that are left come behind those that stay before the border
passed : (g : Over) (c : After-pass g) → into_iter_items c.pass.new.items ≡ drop c.args.removal.gap.from c.take_leaves.new.leaves.items
passed g c = c.pass.ensures.rest ∙ ap (drop c.args.removal.gap.from) c.into_iter-boxes.ensures.rest

-- the border's pairs that stay
stays : (g : Over) (c : After-pass g)
    → without_part c.args.removal.gap.before c.args.removal.gap.behind (poured (c.args.removal.gap.to - c.args.removal.gap.from) (into_iter_items c.pass.new.items)) ≡ border_kept (g.S.NodeStore.slots c.args.tree.store) c.args.removal.ids.items c.args.removal.gap
stays g c =
    let slots = g.S.NodeStore.slots c.args.tree.store in
    let ids = c.args.removal.ids.items in
    let gap = c.args.removal.gap in
    let is = c.requires.2.gap in
    let whole : poured (gap.to - gap.from) (into_iter_items c.pass.new.items) ≡ edge slots ids gap is = ap (poured (gap.to - gap.from)) (passed g c) ∙ poured_edge slots ids gap is c.take_leaves.new.leaves.items (taken g c) in
    ap (without_part gap.before gap.behind) whole ∙ sym (kept_is slots ids gap is)

pub pour_around-requires-clause-room : goal.pour_around-requires-clause-room
pour_around-requires-clause-room g c =
    let at = (goal.at.pour_around-requires-clause-room g c).After-pass in
    let s = c.requires.2 in
    omega (arith, ap length (stays g at), kept_len (g.S.NodeStore.slots c.args.tree.store) c.args.removal.ids.items c.args.removal.gap s.gap, s.pairs.1, s.pairs.2)

pub fill_all-requires-clause-parts : goal.fill_all-requires-clause-parts
fill_all-requires-clause-parts g c =
    let at = (goal.at.fill_all-requires-clause-parts g c).After-pass in
    let s = c.requires.2 in
    let pairs = c.into_iter.ensures.rest ∙ (c.pour_around.ensures.moved ∙ (ap (λ l. l ++ without_part c.args.removal.gap.before c.args.removal.gap.behind (poured (c.args.removal.gap.to - c.args.removal.gap.from) (into_iter_items c.pass.new.items))) s.pairs.0 ∙ stays g at)) in
    (s.parts, subst (λ l. AreParts l s.parts []) (sym pairs) s.are, ap length c.into_iter-2.ensures.rest ∙ s.as_many)

pub returns : goal.returns
returns g c from to s =
    let at = (goal.at.returns g c).After-pass in
    let tree = c.args.tree in
    let slots = g.S.NodeStore.slots in
    let ids = c.args.removal.ids.items in
    let gap = c.args.removal.gap in
    let boxes = c.take_leaves.new.leaves.items in
    let pairs = c.into_iter.ensures.rest ∙ (c.pour_around.ensures.moved ∙ (ap (λ l. l ++ without_part gap.before gap.behind (poured (gap.to - gap.from) (into_iter_items c.pass.new.items))) s.pairs.0 ∙ stays g at)) in
    let filled = c.fill_all.ensures.leaves s.parts (subst (λ l. AreParts l s.parts []) (sym pairs) s.are) in
    let dealt = around_dealt (slots tree.store) ids gap s.gap boxes (taken g at) c.args.removal.leaves.items c.pass.new.to.items c.fill_all.new.leaves.items c.pass-2.new.to.items (into_iter_items c.pour_around.new.leaves) s.parts (c.len.result - gap.to) s.leaves.0
    (c.pass.ensures.moved ∙ ap (λ b. c.args.removal.leaves.items ++ take gap.from b) c.into_iter-boxes.ensures.rest) filled (c.pour_around.ensures.rest ∙ ap (drop (gap.to - gap.from)) (passed g at)) (omega (arith, c.len.ensures)) c.pass-2.ensures.moved in
    record {
      framed = subst (Frames g.S.K.Ord.cmp g.S.Argument.Argument.is_summary slots c.args.removal.frame) (sym dealt) s.framed;
      are = ap joined dealt ∙ (around_all (slots tree.store) ids gap s.gap s.parts s.are
          ∙ (ap (λ n. without_part n (gap_ends (slots tree.store) ids gap) (pairs_of (slots tree.store) ids)) s.begins ∙ (ap (λ n. without_part from n (pairs_of (slots tree.store) ids)) s.ends ∙ ap (without_part from to) (own_pairs c.recall.ensures.whole s.ids))));
    }
