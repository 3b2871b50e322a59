use Rattle.std.proofs.Common.{◌∙◌, ap, length}
use Rattle.std.specs.Option.{option_copied}
use Rattle.bptree_arguments.specs.CountLaws.{CountsKeys}
use Rattle.bptree_ranges.proofs.Counts.{between_len}
use Rattle.bptree_ranges.proofs.counting.len_between.Goals as goal

pub count_before-from-requires : goal.count_before-from-requires
count_before-from-requires g c = rw (← c.tree.view_is) at c.requires

pub count_upto-to-requires-clause-subtree : goal.count_upto-to-requires-clause-subtree
count_upto-to-requires-clause-subtree g c = rw (← c.tree.view_is) at c.requires

pub count_upto-to-requires-clause-all : goal.count_upto-to-requires-clause-all
count_upto-to-requires-clause-all g c = rw (← c.tree.view_is) at (c.len-len.ensures.value ∙ ap length c.len-len.ensures.whole.contents)

pub returns : goal.returns
returns g c =
    let tree = c.tree.inside in
    rw (← c.tree.view_is)
    (c.saturating_sub.ensures
    ∙ between_len g.met.S.K.Ord.total CountsKeys (g.S.NodeStore.slots tree.store) tree.height tree.root (rw (← c.tree.view_is) at c.requires) (option_copied c.args.lo) (option_copied c.args.hi) c.count_before-from.result c.count_upto-to.result c.count_before-from.ensures c.count_upto-to.ensures)
