use Rattle.bptree_bulk_load.proofs.PlanLemmas.{framed}
use Rattle.bptree_bulk_load.proofs.plan.frame.Goals as goal

pub returns : goal.returns
returns g c = framed g.S.K.Ord.cmp g.S.Argument.Argument.is_summary (g.S.NodeStore.slots c.args.plan.store) (g.S.NodeStore.slots c.raise_all.new.store) c.args.plan.ids.items c.args.plan.trees.items c.in_ok-built.built c.in_ok-built.ensures
