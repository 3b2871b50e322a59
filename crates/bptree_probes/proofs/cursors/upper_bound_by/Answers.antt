use Rattle.std.proofs.Common.{◌∙◌, ◌+◌, ap, arith, sym}
use Rattle.std.specs.Result.{is_ok}
use Rattle.bptree_probes.proofs.CursorLemmas.{returns_at}
use Rattle.bptree_probes.proofs.IndexLemmas.{next_absent, next_there, index_within}
use Rattle.bptree_probes.proofs.cursors.upper_bound_by.Goals as goal

pub overflow_add-index : goal.overflow_add-index
overflow_add-index g c =
    let there = sym c.rank_by.ensures.present ∙ ap is_ok c.in-Ok.is in
    omega (arith, c.rank_by.ensures.fits, index_within g.met.K.Ord.total c.args.map.now c.rank_by.ensures.ascending (g.P.Probe.meant c.args.probe.now) there c.in-Ok.index c.in-Ok.ensures.rank)

pub returns-in-Ok : goal.returns-in-Ok
returns-in-Ok g c =
    let there = sym c.rank_by.ensures.present ∙ ap is_ok c.in-Ok.is in
    let e = c.cursor_at.ensures in
    returns_at g.K.Ord.cmp _ c.args.map.now (c.in-Ok.index + 1) _ _ (next_there g.met.K.Ord.total c.args.map.now c.rank_by.ensures.ascending (g.P.Probe.meant c.args.probe.now) there c.in-Ok.index c.in-Ok.ensures.rank) e.cursor e.value e.past e.infallible

pub returns-in-Err : goal.returns-in-Err
returns-in-Err g c =
    let absent = sym c.rank_by.ensures.present ∙ ap is_ok c.in-Err.is in
    let e = c.cursor_at-in-Err.ensures in
    returns_at g.K.Ord.cmp _ c.args.map.now c.in-Err.index _ _ (next_absent g.met.K.Ord.total c.args.map.now c.rank_by.ensures.ascending (g.P.Probe.meant c.args.probe.now) absent c.in-Err.index c.in-Err.ensures.rank) e.cursor e.value e.past e.infallible
