use Rattle.std.proofs.Common.{◌≡◌, ◌≤◌, ◌++◌, length, map, vec_len, vec_capacity}
use Rattle.std.specs.Vec.Iter.{into_iter_items}
use Rattle.bptree_tree.specs.Cursor.{cursor_key}
use Rattle.bptree_commands.specs.Steps.{Run}
use Rattle.bptree_commands.proofs.commands.carry_out_each.Given as goal

-- The commands so far were carried out.
abbrev pub invariant-loop-command : goal.invariant-loop-command
invariant-loop-command g l =
    (goal.iterator-loop-command g).can_next l.command-iterator × (goal.iterator-loop-command g).is_finite l.command-iterator
    × (l.fn.commands.items ≡ l.yielded ++ into_iter_items l.command-iterator)
    × (vec_len l.replies ≡ length l.yielded)
    × (vec_len l.fn.commands ≤ vec_capacity l.replies)
    × Run g.S.K.Ord.cmp g.S.Argument.SearchArgument.selects g.S.Argument.RankArgument.ranks l.initial.tree.contents (map cursor_key l.initial.cursors.items) l.yielded l.replies.items l.tree.contents (map cursor_key l.cursors.items)
