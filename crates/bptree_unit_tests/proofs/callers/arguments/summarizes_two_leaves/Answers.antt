use Rattle.std.proofs.Common.{[], ◌∷◌, append-nil}
use Rattle.bptree_unit_tests.proofs.callers.arguments.summarizes_two_leaves.Goals as goal

pub returns : goal.returns
returns g c =
    let left = c.args.left.now in
    let right = c.args.right.now in
    rw (append-nil right) at (c.in_ok-both.ensures.summary (left ∷ right ∷ []) c.requires.pieces c.requires.summaries)
