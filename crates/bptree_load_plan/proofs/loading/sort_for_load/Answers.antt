use Rattle.std.proofs.Common.{ap, ◌∙◌}
use Rattle.std.specs.Ordering.{is_lt}
use Rattle.std.proofs.lemmas.List.MinMax.{ranks_by}
use Rattle.std.proofs.lemmas.List.Sorted.{answers_always}
use Rattle.std.proofs.lemmas.Result.{on_ok_weaker}
use Rattle.bptree_load_plan.proofs.OrderLemmas.{load_is_gather}
use Rattle.bptree_load_plan.proofs.SortLemmas.{by_keys, gather_stable, ordered_if_sorted}
use Rattle.bptree_load_plan.proofs.loading.sort_for_load.Goals as goal

pub returns-clause-order : goal.returns-clause-order
returns-clause-order g c = on_ok_weaker c.sort_by.result (λ sorted. ordered_if_sorted g.K.Ord.cmp g.met.K.Ord.total c.sort_by.new.self.items (sorted (by_keys g.K.Ord.cmp) (ranks_by g.met.K.Ord.total (λ pair. pair.0)) (answers_always _ _ _ (λ f a r f' called. ap is_lt called.met)))) c.sort_by.ensures.sorted

pub returns-clause-gather : goal.returns-clause-gather
returns-clause-gather g c =
    let cmp = g.K.Ord.cmp in
    let total = g.met.K.Ord.total in
    let ys = c.sort_by.new.self.items in
    let order = ranks_by g.met.K.Ord.total (λ pair. pair.0) in
    let stable = c.sort_by.ensures.stable (by_keys cmp) order (answers_always _ _ _ (λ f a r f' called. ap is_lt called.met)) in
    on_ok_weaker c.sort_by.result (λ sorted. load_is_gather cmp total ys (ordered_if_sorted cmp total ys (sorted (by_keys cmp) order (answers_always _ _ _ (λ f a r f' called. ap is_lt called.met)))) ∙ gather_stable cmp total c.args.pairs.now.items ys stable) c.sort_by.ensures.sorted
