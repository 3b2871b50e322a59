use Rattle.std.proofs.Common.{◌≡◌, ◌∙◌, refl}
use Rattle.std.proofs.lemmas.Iterator.Consumers.{YieldsList-from_rest}
use Rattle.std.proofs.lemmas.Iterator.Search.{cmp_from_yields_List}
use Rattle.std.specs.Ordering.{ordering_then}
use Rattle.bptree_map.proofs.comparing.BPlusTreeMapOrd.cmp.Goals as goal

pub returns : goal.returns
returns g c =
    let pair_cmp : g.row.K.Denot × g.row.V.Denot → g.row.K.Denot × g.row.V.Denot → _ = λ p q. ordering_then (g.K.Ord.cmp p.0 q.0) (g.V.Ord.cmp p.1 q.1) in
    cmp_from_yields_List (λ x y. y ≡ x) _ pair_cmp _ c.cmp.ensures.ran (YieldsList-from_rest _ c.iter.ensures.rest) (λ it e. YieldsList-from_rest _ (e ∙ c.iter-2.ensures.rest)) (λ x y. refl)
