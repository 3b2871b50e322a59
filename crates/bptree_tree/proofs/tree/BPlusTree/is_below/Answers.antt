use Rattle.std.proofs.Common.{sym, ◌∙◌}
use Rattle.bptree_tree.proofs.BelowLemmas.{ascending_both}
use Rattle.bptree_tree.proofs.tree.BPlusTree.is_below.Goals as goal

pub returns-in-Less : goal.returns-in-Less
returns-in-Less g c t =
    let last : g.row.S-K.Denot × g.row.S-V.Denot = (c.in-Some-Some.last.now, c.in-Some-Some.field-0-1-0.now) in
    let first : g.row.S-K.Denot × g.row.S-V.Denot = (c.in-Some-Some.first.now, c.in-Some-Some.field-0-1-1.now) in
    ascending_both g.met.S.K.Ord.total c.args.self.now.contents c.args.other.now.contents last first (sym c.in-Some-Some.ensures) (sym c.in-Some-Some.ensures') (sym c.cmp.ensures ∙ c.in-Less.is) c.recall_whole.ensures.ascending c.recall_whole-2.ensures.ascending
