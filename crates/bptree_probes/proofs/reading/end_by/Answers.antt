use Rattle.std.proofs.Common.{◌∙◌, ap, arith, sym}
use Rattle.std.specs.Result.{is_ok}
use Rattle.bptree_probes.proofs.PartLemmas.{up_to_there, up_to_absent, within_absent}
use Rattle.bptree_probes.proofs.IndexLemmas.{index_within}
use Rattle.bptree_probes.proofs.reading.end_by.Goals as goal

pub overflow_add-result : goal.overflow_add-result
overflow_add-result g c =
    let there = sym c.rank_by.ensures.present ∙ ap is_ok c.in-Ok.is in
    omega (arith, c.rank_by.ensures.fits, index_within g.met.K.Ord.total c.args.map.now c.rank_by.ensures.ascending (g.P.Probe.meant c.args.probe.now) there c.in-Ok.index c.in-Ok.ensures.rank)

pub returns-in-Ok-clause-within : goal.returns-in-Ok-clause-within
returns-in-Ok-clause-within g c =
    let there = sym c.rank_by.ensures.present ∙ ap is_ok c.in-Ok.is in
    omega (arith, index_within g.met.K.Ord.total c.args.map.now c.rank_by.ensures.ascending (g.P.Probe.meant c.args.probe.now) there c.in-Ok.index c.in-Ok.ensures.rank)

pub returns-in-Ok-clause-up_to : goal.returns-in-Ok-clause-up_to
returns-in-Ok-clause-up_to g c =
    let there = sym c.rank_by.ensures.present ∙ ap is_ok c.in-Ok.is in
    up_to_there g.met.K.Ord.total c.args.map.now c.rank_by.ensures.ascending (g.P.Probe.meant c.args.probe.now) c.in-Ok.index c.in-Ok.ensures.rank there

pub returns-in-Err-clause-within : goal.returns-in-Err-clause-within
returns-in-Err-clause-within g c =
    let absent = sym c.rank_by.ensures.present ∙ ap is_ok c.in-Err.is in
    within_absent g.met.K.Ord.total c.args.map.now c.rank_by.ensures.ascending (g.P.Probe.meant c.args.probe.now) c.in-Err.index c.in-Err.ensures.rank absent

pub returns-in-Err-clause-up_to : goal.returns-in-Err-clause-up_to
returns-in-Err-clause-up_to g c =
    let absent = sym c.rank_by.ensures.present ∙ ap is_ok c.in-Err.is in
    up_to_absent g.met.K.Ord.total c.args.map.now c.rank_by.ensures.ascending (g.P.Probe.meant c.args.probe.now) c.in-Err.index c.in-Err.ensures.rank absent
