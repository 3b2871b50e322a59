use Rattle.std.proofs.Common.{[], ◌∷◌, append-nil}
use Rattle.bptree_unit_tests.proofs.callers.groups.counts_the_groups_of_two_leaves.Goals as goal

pub returns : goal.returns
returns g c = rw (append-nil c.args.right.now) at (c.group_count.ensures.different _ (c.in_ok-both.ensures.summary (c.args.left.now ∷ c.args.right.now ∷ []) c.requires.pieces c.requires.summaries))
