use Rattle.bptree_load_plan.proofs.RunLemmas.{run_ends}
use Rattle.bptree_load_plan.proofs.loading.is_last_of_run.Goals as goal

pub returns-then-at-pairs : goal.returns-then-at-pairs
returns-then-at-pairs g c = run_ends g.K.Ord.cmp c.args.pairs.now c.args.at c.if-at-pairs.true
