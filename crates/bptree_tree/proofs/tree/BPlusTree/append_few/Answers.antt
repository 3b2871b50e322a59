use Rattle.std.proofs.Common.{◌≡◌, ◌∙◌, ◌∷◌, ◌++◌, [], arith, ap, length, length-append, reverse, subst, sym}
use Rattle.bptree_bulk.specs.Filling.{IsFilling}
use Rattle.bptree_bulk.specs.Weave.{put_all, put_pair}
use Rattle.bptree_tree.proofs.UndoLemmas.{all_back, filling_with}
use Rattle.bptree_tree.proofs.tree.BPlusTree.append_few.Given.{Over}
use Rattle.bptree_tree.proofs.tree.BPlusTree.append_few.Goals.{After-take_back}
use Rattle.bptree_tree.proofs.tree.BPlusTree.append_few.Goals as goal

pub take_back-requires-clause-put : goal.take_back-requires-clause-put
take_back-requires-clause-put g c =
    let err = c.in-Err.ensures.err in
    (err.0, c.args.self.now.contents, c.recall_whole.ensures.ascending, err.2)

pub take_back-requires-clause-room : goal.take_back-requires-clause-room
take_back-requires-clause-room g c =
    let err = c.in-Err.ensures.err in
    let room = c.in_ok-tail.ensures.room in
    omega (arith, c.push_reserved.ensures.len, c.push_reserved.ensures.capacity, c.move_back.ensures.len, c.move_back.ensures.capacity, room.1, room.2, err.3, ap length err.1, length-append err.0 (c.in-Err.pair ∷ c.put_each.new.rest), ap length c.into_iter-rest.ensures.rest, ap (λ t. length t.contents) c.replace.ensures.value, ap (λ t. length t.contents) c.other.view_is)

-- the first tree has the pairs it had, and those that were moved are behind the others
undone : (g : Over) (c : After-take_back g) → (c.take_back.new.self.contents ≡ c.args.self.now.contents) × (c.take_back.new.pairs.items ≡ c.push_reserved.new.self.items ++ reverse c.in-Err.ensures.err.0)
undone g c =
    let err = c.in-Err.ensures.err in
    c.take_back.ensures.undone err.0 c.args.self.now.contents c.recall_whole.ensures.ascending err.2

-- the pairs that were taken back are all pairs of the second tree, the last one first
back : (g : Over) (c : After-take_back g) → reverse c.take_back.new.pairs.items ≡ c.args.other.now.contents
back g c =
    let err = c.in-Err.ensures.err in
    let pair = c.in-Err.pair in
    let items = (undone g c).1 ∙ ap (λ l. l ++ reverse err.0) (c.push_reserved.ensures.items ∙ ap (λ l. l ++ pair ∷ []) c.move_back.ensures.moved) in
    all_back err.0 c.put_each.new.rest pair c.in_ok-tail.tail.pairs.items c.take_back.new.pairs.items c.in_ok-tail.ensures.room.0 items ∙ (sym err.1 ∙ (c.into_iter-rest.ensures.rest ∙ ap (λ t. t.contents) c.replace.ensures.value))

pub plant_tail-requires : goal.plant_tail-requires
plant_tail-requires g c =
    let tail = c.in_ok-tail.tail in
    let is_filling = IsFilling g.S.K.Ord.cmp g.S.Argument.Argument.is_summary g.S.NodeStore.slots (record tail { pairs = c.take_back.new.pairs }) in
    let view = ap (λ t. t.contents) c.other.view_is in
    subst is_filling (view ∙ sym (back g (goal.at.plant_tail-requires g c).After-take_back)) (filling_with g.S.K.Ord.cmp g.S.Argument.Argument.is_summary g.S.NodeStore.slots tail c.take_back.new.pairs c.other.inside.nodes.contents c.in_ok-tail.ensures.filling)

pub returns-in-Ok-clause-ok : goal.returns-in-Ok-clause-ok
returns-in-Ok-clause-ok g c = c.in-Ok.ensures.ok ∙ ap (put_all (put_pair g.S.K.Ord.cmp) c.args.self.now.contents) (c.into_iter-rest.ensures.rest ∙ ap (λ t. t.contents) c.replace.ensures.value)

pub returns-in-Err-clause-unchanged : goal.returns-in-Err-clause-unchanged
returns-in-Err-clause-unchanged g c = (undone g (goal.at.returns-in-Err-clause-unchanged g c).After-take_back).0

pub returns-in-Err-clause-other_unchanged : goal.returns-in-Err-clause-other_unchanged
returns-in-Err-clause-other_unchanged g c =
    ap (λ i. i.nodes.contents) c.drop-in-Err-2.view_is
    ∙ (ap (λ t. t.contents) c.drop-in-Err.view_is ∙ (ap (λ t. t.contents) c.of_nodes.ensures ∙ (c.plant_tail.ensures.contents ∙ back g (goal.at.returns-in-Err-clause-other_unchanged g c).After-take_back)))
