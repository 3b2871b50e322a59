use Rattle.std.proofs.Common.{◌∙◌, ap, slice_get}
use Rattle.bptree_probes.proofs.CursorLemmas.{get_drop, returns_at}
use Rattle.bptree_probes.proofs.cursors.lower_bound_by.Goals as goal

pub returns : goal.returns
returns g c =
    let e = c.cursor_at.ensures in
    returns_at g.K.Ord.cmp _ c.args.map.now c.start_by.result _ _ (get_drop c.start_by.result c.args.map.now ∙ ap (λ l. slice_get l 0) c.start_by.ensures.from) e.cursor e.value e.past e.infallible
