use Rattle.std.proofs.Common.{ap, ◌∙◌, arith}
use Rattle.std.specs.List.{sum_by}
use Rattle.std.proofs.lemmas.List.{take_all}
use Rattle.std.proofs.lemmas.List.Sums.{sum_by_more_le}
use Rattle.bptree_shard_routing.specs.declared.combining.Part.{Part}
use Rattle.bptree_unit_tests.proofs.ShardSums.{parts_count}
use Rattle.bptree_unit_tests.proofs.callers.shards.combining.counts_its_parts.Goals as goal

pub overflow_add-count : goal.overflow_add-count
overflow_add-count c =
    let all = parts_count c.args.lengths.now c.in_ok-found.found.items c.args.index c.args.n c.in_ok-found.ensures in
    let same = ap (sum_by (λ (p : Part). p.count)) c.deref-part-items.ensures.value in
    let fits = sum_by_more_le (λ (p : Part). p.count) c.deref-part-items.result.now c.loop-part.part-index (record { shard = 0; from = 0; count = 0 }) c.loop-part-test.true in
    omega (arith, all, same, fits, c.loop-part.invariant, c.ranges.n.fits)

pub returns : goal.returns
returns c =
    let all = parts_count c.args.lengths.now c.in_ok-found.found.items c.args.index c.args.n c.in_ok-found.ensures in
    c.loop-part.invariant ∙ ap (sum_by (λ (p : Part). p.count)) (take_all c.loop-part.part-index c.deref-part-items.result.now c.loop-part-test.false ∙ c.deref-part-items.ensures.value) ∙ all
