use Rattle.std.proofs.Common.{◌≡◌, ◌∙◌, ◌≤◌, ◌++◌, [], ap, arith, length, length-append, map, subst, sym}
use Rattle.bptree_bulk_load.specs.Plans.{Frames}
use Rattle.bptree_bulk_load.specs.Rooms.{id_count, joined, pairs_under, parts_of, IsPresentAt}
use Rattle.bptree_bulk.specs.Joining.{parts_of_both}
use Rattle.bptree_bulk.proofs.Joins.{joined_both}
use Rattle.bptree_bulk.proofs.OwnLeaves.{all_read, own_once, own_pairs, own_present, pairs_read}
use Rattle.bptree_keys.specs.Contents.{IsAscending}
use Rattle.bptree_invariant.specs.Leaves.{pairs_of}
use Rattle.bptree_bulk.proofs.joining.join.Given.{Over}
use Rattle.bptree_bulk.proofs.joining.join.Goals.{After-take_leaves-2}
use Rattle.bptree_bulk.proofs.joining.join.Goals as goal

pub take_leaves-requires-clause-present : goal.take_leaves-requires-clause-present
take_leaves-requires-clause-present g c =
    all_read g.S.NodeStore.slots (ap (λ t. t.store) c.first.view_is) c.deref.ensures.value IsPresentAt (own_present c.recall.ensures.whole c.requires.joint.first)

pub take_leaves-requires-clause-once : goal.take_leaves-requires-clause-once
take_leaves-requires-clause-once g c n = subst (λ l. id_count l n ≤ 1) (sym c.deref.ensures.value) (own_once c.recall.ensures.whole c.requires.joint.first n)

pub take_leaves-requires-2-clause-present : goal.take_leaves-requires-2-clause-present
take_leaves-requires-2-clause-present g c =
    all_read g.S.NodeStore.slots (ap (λ t. t.store) c.second.view_is) c.deref-2.ensures.value IsPresentAt (own_present c.recall-2.ensures.whole c.requires.joint.second)

pub take_leaves-requires-2-clause-once : goal.take_leaves-requires-2-clause-once
take_leaves-requires-2-clause-once g c n = subst (λ l. id_count l n ≤ 1) (sym c.deref-2.ensures.value) (own_once c.recall-2.ensures.whole c.requires.joint.second n)

-- the leaves that were taken out are those of both trees
taken : (g : Over) (c : After-take_leaves-2 g) → parts_of c.take_leaves-2.new.leaves.items ≡ parts_of_both (g.S.NodeStore.slots c.args.first.store) c.args.joint.first.items (g.S.NodeStore.slots c.args.second.store) c.args.joint.second.items
taken g c =
    let slots = g.S.NodeStore.slots in
    let one = map (pairs_under (slots c.args.first.store)) c.args.joint.first.items in
    let first = pairs_read slots (ap (λ t. t.store) c.first.view_is) c.deref.ensures.value (parts_of c.take_leaves.new.leaves.items) (parts_of c.args.joint.leaves.items) [] (ap parts_of c.requires.joint.room.0) c.take_leaves.ensures.leaves in
    pairs_read slots (ap (λ t. t.store) c.second.view_is) c.deref-2.ensures.value (parts_of c.take_leaves-2.new.leaves.items) (parts_of c.take_leaves.new.leaves.items) one first c.take_leaves-2.ensures.leaves

-- the pairs of these leaves are those of both trees
pairs : (g : Over) (c : After-take_leaves-2 g) → joined (parts_of c.take_leaves-2.new.leaves.items) ≡ c.args.first.contents ++ c.args.second.contents
pairs g c =
    let slots = g.S.NodeStore.slots in
    let one = c.args.first in
    let other = c.args.second in
    let ids = c.args.joint.first.items in
    let others = c.args.joint.second.items in
    ap joined (taken g c)
    ∙ (joined_both (slots one.store) ids (slots other.store) others
    ∙ (ap (λ m. m ++ pairs_of (slots other.store) others) (own_pairs c.recall.ensures.whole c.requires.joint.first) ∙ ap (λ m. one.contents ++ m) (own_pairs c.recall-2.ensures.whole c.requires.joint.second)))

pub plant-requires-clause-framed : goal.plant-requires-clause-framed
plant-requires-clause-framed g c = subst (Frames g.S.K.Ord.cmp g.S.Argument.Argument.is_summary g.S.NodeStore.slots c.args.joint.frame) (sym (taken g c)) c.requires.joint.framed

pub plant-requires-clause-ascending : goal.plant-requires-clause-ascending
plant-requires-clause-ascending g c = subst (IsAscending g.S.K.Ord.cmp) (sym (pairs g c)) c.requires.below

pub plant-requires-clause-len : goal.plant-requires-clause-len
plant-requires-clause-len g c =
    omega (arith, ap length (pairs g c), length-append c.args.first.contents c.args.second.contents, c.first.invariant.1, c.second.invariant.1, ap (λ t. length t.contents) c.first.view_is, ap (λ t. length t.contents) c.second.view_is)

pub returns-clause-contents : goal.returns-clause-contents
returns-clause-contents g c = c.plant.ensures.contents ∙ pairs g (goal.at.returns-clause-contents g c).After-take_leaves-2
