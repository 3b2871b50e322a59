use Rattle.std.proofs.Common.{◌∙◌}
use Rattle.std.specs.Ordering.{is_eq}
use Rattle.std.proofs.lemmas.Result.{IfOk-weaker}
use Rattle.bptree_arguments.specs.Groups.{of_group}
use Rattle.bptree_tree.proofs.PageLemmas.{part_is_page, filter_fits}
use Rattle.bptree_map.proofs.map.BPlusTreeMap.group_page.Goals as goal

pub returns-clause-rest : goal.returns-clause-rest
returns-clause-rest g c =
    let group_of = g.G.FromRef.group_of in
    let pairs = of_group g.G.Ord.cmp group_of c.args.group.now c.args.self.now in
    let few = filter_fits (λ pair. is_eq (g.G.Ord.cmp (group_of pair.0) c.args.group.now)) c.args.self.now c.recall.ensures.fits in
    IfOk-weaker c.group_part.result _ _ (λ found is. is ∙ part_is_page pairs c.args.p c.args.s _ c.saturating_mul.ensures few) c.group_part.ensures.rest
