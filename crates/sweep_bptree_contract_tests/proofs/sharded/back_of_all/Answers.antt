use Rattle.std.proofs.Common.{◌++◌, not, take, reverse, ap, ◌∙◌}
use Rattle.std.proofs.lemmas.Result.{IfOk-weaker}
use Rattle.std.specs.Ordering.{is_gt}
use Rattle.bptree_keys.specs.Contents.{pairs_above}
use Rattle.bptree_shard_routing.specs.Shards.{back_from}
use Rattle.bptree_sharded_map.specs.Whole.{contents}
use Rattle.sweep_bptree_contract_tests.proofs.Cuts.{all_back, cut_behind}
use Rattle.sweep_bptree_contract_tests.proofs.sharded.back_of_all.Goals as goal

pub returns : goal.returns
returns g c =
    let cmp = g.S.K.Ord.cmp in
    let l = contents c.args.whole.now in
    let k = c.args.k.now in
    IfOk-weaker c.back.result _ _ (λ found is.
    ap (λ m. reverse m ++ pairs_above cmp l k) (is ∙ ap (λ n. take n (back_from cmp l k)) c.len.ensures.value) ∙ ap (λ m. m ++ pairs_above cmp l k) (all_back (λ pair. not (is_gt (cmp pair.0 k))) l)
    ∙ cut_behind cmp g.met.S.K.Ord.total k l c.len.ensures.ascending) c.back.ensures
