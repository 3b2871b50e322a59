use Rattle.std.proofs.Common.{◌+◌, ◌-◌, ◌/◌, sym, arith, ◌∙◌}
use Rattle.bptree_keys.proofs.Steps.{all_before, all_after, half_taken}
use Rattle.bptree_keys.proofs.compares.search_halves.Goals as goal

pub halves-init : goal.halves-init
halves-init g c =
    record {
      order = omega arith;
      within = c.requires.within;
      below = λ up k d a b. absurd (omega arith);
      above = c.requires.above;
      counts = λ some fewer. absurd (omega (arith, some, fewer));
      counted = record { from_there = omega arith; steps = λ n h. record { left = n; is = omega (arith, h); within = omega arith } };
    }

pub halves-preserved-in-Less : goal.halves-preserved-in-Less
halves-preserved-in-Less g c =
    let low = c.halves.low in
    let high = c.halves.high in
    let middle = low + (high - low) / 2 in
    record {
      order = omega arith;
      within = c.halves.invariant.within;
      below = all_before (λ (y : g.row.K.Denot). g.K.Ord.cmp y c.args.key.now) c.args.keys.now middle c.index-keys-middle.result (omega (arith, c.halves.invariant.within)) c.index-keys-middle.is (sym c.compare.ensures.order ∙ c.in-Less.is);
      above = c.halves.invariant.above;
      counts = λ some fewer. omega (arith, c.compare.ensures.count, c.halves.invariant.counted.from_there);
      counted = half_taken c.args.compares.now (c.args.end + 1) (high - low + 1) (high - (middle + 1) + 1) c.halves.compares c.compare.new.self c.halves.invariant.counted c.compare.ensures.counts_on (omega (arith, c.compare.ensures.count)) (omega arith) (omega arith);
    }

pub halves-preserved : goal.halves-preserved
halves-preserved g c =
    let low = c.halves.low in
    let high = c.halves.high in
    let middle = low + (high - low) / 2 in
    record {
      order = omega arith;
      within = omega (arith, c.halves.invariant.within);
      below = c.halves.invariant.below;
      above = all_after (λ (y : g.row.K.Denot). g.K.Ord.cmp y c.args.key.now) c.args.keys.now middle c.index-keys-middle.result (omega (arith, c.halves.invariant.within)) c.index-keys-middle.is (sym c.compare.ensures.order ∙ c.in-Greater.is);
      counts = λ some fewer. omega (arith, c.compare.ensures.count, c.halves.invariant.counted.from_there);
      counted = half_taken c.args.compares.now (c.args.end + 1) (high - low + 1) (middle - low + 1) c.halves.compares c.compare.new.self c.halves.invariant.counted c.compare.ensures.counts_on (omega (arith, c.compare.ensures.count)) (omega arith) (omega arith);
    }
