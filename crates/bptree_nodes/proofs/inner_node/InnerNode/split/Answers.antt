use Rattle.std.proofs.Common.{refl, arith, rules}
use Rattle.std.specs.List.{insert}
use Rattle.std.specs.Prelude.{vec_len}
use Rattle.std.proofs.lemmas.List.{take-append-drop}
use Rattle.bptree_nodes.proofs.Splits.{around_element, last_taken, splits_by_table}
use Rattle.bptree_nodes.proofs.inner_node.InnerNode.split.Goals as goal

pub returns-clause-keys : goal.returns-clause-keys
returns-clause-keys g c =
    let cut = c.insert_and_cut.ensures in
    let last = c.take_last-promoted.ensures in
    let middle = last_taken (insert c.self.inside.keys.items c.args.slot c.args.key) c.insert_and_cut.new.from.items c.take_last-promoted.new.from.items 33 (vec_len c.insert_and_cut.new.from) c.take_last-promoted.result (omega arith) cut.kept cut.len last.value last.items in
    rw (← c.self.view_is, middle.1, cut.moved) (around_element _ 32 33 _ middle.0 refl)

pub returns-clause-children : goal.returns-clause-children
returns-clause-children g c =
    let cut = c.insert_and_cut_children.ensures in
    rw (← c.self.view_is, cut.kept, cut.moved) (take-append-drop 33 _)

pub returns-clause-arguments : goal.returns-clause-arguments
returns-clause-arguments g c =
    let cut = c.insert_and_cut-2.ensures in
    rw (← c.self.view_is, cut.kept, cut.moved) (take-append-drop 33 _)

pub returns-clause-table : goal.returns-clause-table
returns-clause-table g c =
    let cut = c.insert_and_cut.ensures in
    let last = c.take_last-promoted.ensures in
    let up = (last_taken (insert c.self.inside.keys.items c.args.slot c.args.key) c.insert_and_cut.new.from.items c.take_last-promoted.new.from.items 33 (vec_len c.insert_and_cut.new.from) c.take_last-promoted.result (omega arith) cut.kept cut.len last.value last.items).0 in
    let children = c.insert_and_cut_children.ensures in
    let arguments = c.insert_and_cut-2.ensures in
    let full = rw (← c.self.view_is) at c.requires.full in
    rw (← c.self.view_is) (splits_by_table c.args.slot c.args.key c.args.child c.args.argument _ _ _ _ (omega (arith, full)) (omega (arith, full)) (omega (arith, full)) (omega arith) up children.kept arguments.kept children.moved arguments.moved)

pub returns-clause-left : goal.returns-clause-left
returns-clause-left g c =
    let cut = c.insert_and_cut.ensures in
    let last = c.take_last-promoted.ensures in
    rw (← c.self.view_is, (last_taken (insert c.self.inside.keys.items c.args.slot c.args.key) c.insert_and_cut.new.from.items c.take_last-promoted.new.from.items 33 (vec_len c.insert_and_cut.new.from) c.take_last-promoted.result (omega arith) cut.kept cut.len last.value last.items).1, c.insert_and_cut_children.ensures.kept, c.insert_and_cut-2.ensures.kept) refl

pub returns-clause-right : goal.returns-clause-right
returns-clause-right g c = rw (← c.self.view_is, c.insert_and_cut.ensures.moved, c.insert_and_cut_children.ensures.moved, c.insert_and_cut-2.ensures.moved) refl

pub returns-clause-left_size : goal.returns-clause-left_size
returns-clause-left_size g c = search rules

pub returns-clause-right_size : goal.returns-clause-right_size
returns-clause-right_size g c = search rules

pub returns-clause-promoted : goal.returns-clause-promoted
returns-clause-promoted g c =
    let cut = c.insert_and_cut.ensures in
    let last = c.take_last-promoted.ensures in
    rw (← c.self.view_is) (last_taken (insert c.self.inside.keys.items c.args.slot c.args.key) c.insert_and_cut.new.from.items c.take_last-promoted.new.from.items 33 (vec_len c.insert_and_cut.new.from) c.take_last-promoted.result (omega arith) cut.kept cut.len last.value last.items).0

pub invariant_of-right : goal.invariant_of-right
invariant_of-right g c = search rules

pub invariant_of-self : goal.invariant_of-self
invariant_of-self g c = search rules
