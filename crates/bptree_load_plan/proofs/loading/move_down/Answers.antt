use Rattle.std.proofs.Common.{arith, ◌≡◌}
use Rattle.bptree_load_plan.proofs.RunLemmas.{take_more}
use Rattle.bptree_load_plan.proofs.loading.move_down.Goals as goal

pub returns-else-kept-at-clause-kept : goal.returns-else-kept-at-clause-kept
returns-else-kept-at-clause-kept g c =
    let same : c.args.kept ≡ c.args.at = omega arith in
    rw same (take_more c.args.items.now.items c.args.at c.requires.1)
