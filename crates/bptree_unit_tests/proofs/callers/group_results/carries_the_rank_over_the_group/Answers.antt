use Rattle.std.proofs.Common.{◌≢◌, []}
use Rattle.bptree_unit_tests.proofs.GroupKinds.{carried_past_one}
use Rattle.bptree_unit_tests.proofs.callers.group_results.carries_the_rank_over_the_group.Goals as goal

pub returns : goal.returns
returns g c =
    let some : c.args.arguments.now ≢ [] = rw c.requires.child (λ e. cc) in
    rw (← carried_past_one g.G.Ord.cmp (g.G.FromRef.group_of c.args.k.now) c.args.group c.args.child.now c.args.carried c.args.size c.requires.carries c.requires.same)
    (rw c.requires.child at (c.fold_inner.ensures.capped some))
