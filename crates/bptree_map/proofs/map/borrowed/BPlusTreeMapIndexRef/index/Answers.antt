use Rattle.std.proofs.Common.{ap, is_some, sym, ◌∙◌}
use mathlib.Core.Bool.{true≢false}
use Rattle.bptree_keys.proofs.Equal.{has_where_value}
use Rattle.bptree_map.proofs.map.borrowed.BPlusTreeMapIndexRef.index.Goals as goal

pub unreachable-requires : goal.unreachable-requires
unreachable-requires g c =
    true≢false (sym c.requires ∙ sym (has_where_value g.K.Ord.cmp c.args.self.now c.args.k.now) ∙ ap is_some (sym c.in-None.ensures))
