use Rattle.std.proofs.Common.{sym, arith}
use Rattle.bptree_nodes.proofs.Pairs.{take_inserted_before, drop_inserted_before, take_inserted_behind, drop_inserted_behind}
use Rattle.bptree_nodes.proofs.moves.insert_and_cut.Goals as goal

pub returns-then-index-at-clause-kept : goal.returns-then-index-at-clause-kept
returns-then-index-at-clause-kept g c =
    rw (c.insert_reserved.ensures.items, c.move_tail.ensures.kept) (sym (take_inserted_before c.args.from.now.items c.args.index c.args.at c.args.element (omega arith) (omega arith)))

pub returns-then-index-at-clause-moved : goal.returns-then-index-at-clause-moved
returns-then-index-at-clause-moved g c =
    rw c.move_tail.ensures.moved (sym (drop_inserted_before c.args.from.now.items c.args.index c.args.at c.args.element (omega arith) (omega arith)))

pub returns-clause-kept : goal.returns-clause-kept
returns-clause-kept g c =
    rw c.move_tail-2.ensures.kept (sym (take_inserted_behind c.args.from.now.items c.args.index c.args.at c.args.element (omega arith) (omega arith)))

pub returns-clause-moved : goal.returns-clause-moved
returns-clause-moved g c =
    rw (c.insert_reserved-2.ensures.items, c.move_tail-2.ensures.moved) (sym (drop_inserted_behind c.args.from.now.items c.args.index c.args.at c.args.element (omega arith) (omega arith)))
