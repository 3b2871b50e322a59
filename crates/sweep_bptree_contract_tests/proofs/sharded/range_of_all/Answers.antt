use Rattle.std.proofs.Common.{None, take, ap, ◌∙◌}
use Rattle.std.proofs.lemmas.Result.{IfOk-weaker}
use Rattle.bptree_keys.specs.Ranges.{between}
use Rattle.bptree_sharded_map.specs.Whole.{contents}
use Rattle.sweep_bptree_contract_tests.proofs.Cuts.{all_between, no_ends}
use Rattle.sweep_bptree_contract_tests.proofs.sharded.range_of_all.Goals as goal

pub returns : goal.returns
returns g c =
    let cmp = g.S.K.Ord.cmp in
    let l = contents c.args.whole.now in
    IfOk-weaker c.range.result _ _ (λ found is. is ∙ ap (λ n. take n (between cmp l None None)) c.len.ensures.value ∙ all_between cmp l None None ∙ no_ends cmp l) c.range.ensures
