use Rattle.std.proofs.lemmas.Result.{IfOk-weaker}
use Rattle.bptree_tree.proofs.PageLemmas.{page_is}
use Rattle.bptree_map.proofs.map.pages.BPlusTreeMap+K+V+Count.page.Goals as goal

pub returns-clause-rest : goal.returns-clause-rest
returns-clause-rest g c =
    IfOk-weaker c.range_by_argument.result _ _ (λ pairs selected. page_is c.args.self.now c.args.p c.args.s _ pairs c.saturating_mul.ensures c.recall.ensures.fits selected) c.range_by_argument.ensures.rest
