use Rattle.std.proofs.Common.{◌∙◌}
use Rattle.std.proofs.lemmas.Result.{IfOk-weaker}
use Rattle.bptree_map.proofs.gathering.gather_tree.Goals as goal

-- the pairs that are loaded are those that were sorted
pub returns : goal.returns
returns g c = IfOk-weaker c.bulk_load.result _ _ (λ tree is. is ∙ c.in_ok-sort_for_load.ensures.gather) c.bulk_load.ensures.contents
