use Rattle.std.proofs.Common.{false, true, not, sym, ◌∙◌, ap}
use mathlib.Core.Bool.{true≢false}
use Rattle.bptree_tree.proofs.Counted.{has_read}
use Rattle.bptree_sharded_map.proofs.whole.lacks_room.Goals as goal

pub returns-clause-absent : goal.returns-clause-absent
returns-clause-absent g c = λ none. has_read g.S.K.Ord.cmp (g.S.Shard.pairs c.args.own.now) c.args.k.now c.get.result false c.get.ensures (c.is_none.ensures ∙ ap not none)

pub returns-clause-room : goal.returns-clause-room
returns-clause-room g c = λ some absent. absurd (true≢false (sym (has_read g.S.K.Ord.cmp (g.S.Shard.pairs c.args.own.now) c.args.k.now c.get.result true c.get.ensures (c.is_none.ensures ∙ ap not some)) ∙ absent))
