use Rattle.std.proofs.lemmas.Result.{IfOk-weaker}
use Rattle.bptree_bulk_load.proofs.PlanLemmas.{planned_more}
use Rattle.bptree_bulk_load.proofs.plan.plan_part.Goals as goal

pub returns : goal.returns
returns g c =
    let slots = g.S.NodeStore.slots in
    IfOk-weaker c.add_room.result _ _ (λ done added parts part planned most starts reported.
    planned_more g.S.K.Ord.cmp g.S.Argument.Argument.is_summary (slots c.args.plan.now.store) _ c.args.plan.now.ids.items _ c.args.plan.now.trees.items _ c.args.first c.args.summary added parts part planned most starts reported) c.add_room.ensures
