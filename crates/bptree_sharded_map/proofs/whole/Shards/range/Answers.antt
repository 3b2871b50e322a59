use Rattle.std.proofs.Common.{◌≡◌, ◌++◌, ◌+◌, ◌-◌, ◌≤◌, take, length, ap, ◌∙◌, arith}
use Rattle.std.specs.Option.{option_copied}
use Rattle.std.specs.Map.Iter.{deref_pair}
use Rattle.std.proofs.lemmas.List.{length-map}
use Rattle.bptree_keys.specs.Ranges.{between}
use Rattle.bptree_shard_routing.specs.Shards.{first_shard, last_shard}
use Rattle.bptree_sharded_map.specs.Shown.{shown}
use Rattle.bptree_sharded_map.specs.Whole.{contents}
use Rattle.bptree_sharded_map.proofs.Pages.{has_shard, has_length, range_skip, range_more, range_full, range_all, range_end}
use Rattle.bptree_sharded_map.proofs.whole.Shards.range.Goals as goal

pub returns-then-len-n : goal.returns-then-len-n
returns-then-len-n g c =
    let it = c.self.inside in
    let cmp = g.S.K.Ord.cmp in
    let lo = option_copied c.args.lo in
    let hi = option_copied c.args.hi in
    let found = shown c.loop-shard.found.items in
    let first = c.route_range-first.result.0 in
    let last = c.route_range-first.result.1 in
    let near : c.loop-shard.shard ≤ length it.bounds.items = omega (arith, c.loop-shard-test.true, c.route_range-first.ensures.last_in_range, ap length c.deref.ensures.value) in
    let there = has_shard cmp g.S.Shard.pairs it.bounds.items it.shards.items it.lengths.items c.self.invariant g.met.S.K.Ord.total c.loop-shard.shard near in
    let up : c.loop-shard.shard ≤ last + 1 = omega (arith, c.loop-shard-test.true) in
    let full : c.args.n ≤ length found = omega (arith, c.len.ensures, c.if-len-n.true, length-map c.loop-shard.found.items deref_pair) in
    let starts : first ≡ first_shard cmp it.bounds.items lo = c.route_range-first.ensures.first ∙ ap (λ bounds. first_shard cmp bounds lo) c.deref.ensures.value in
    let ends : last ≡ last_shard cmp it.bounds.items hi = c.route_range-first.ensures.last ∙ ap (λ bounds. last_shard cmp bounds hi) c.deref.ensures.value in
    range_all cmp g.S.Shard.pairs it.bounds.items it.shards.items it.lengths.items c.self.invariant g.met.S.K.Ord.total lo hi c.args.n found first last starts ends
    (range_full cmp g.S.Shard.pairs it.bounds.items it.shards.items it.lengths.items c.self.invariant lo hi first c.args.n c.loop-shard.shard found c.loop-shard.auto.shard there c.loop-shard.invariant.found (last + 1) up full)
    ∙ ap (λ l. take c.args.n (between cmp l lo hi)) (ap contents c.self.view_is)

pub index-requires : goal.index-requires
index-requires g c =
    let it = c.self.inside in
    let near : c.loop-shard.shard ≤ length it.bounds.items = omega (arith, c.loop-shard-test.true, c.route_range-first.ensures.last_in_range, ap length c.deref.ensures.value) in
    let there = has_length g.S.K.Ord.cmp g.S.Shard.pairs it.bounds.items it.shards.items it.lengths.items c.self.invariant g.met.S.K.Ord.total c.loop-shard.shard near in
    omega (arith, there)

pub loop-shard-preserved-then-index-eq0 : goal.loop-shard-preserved-then-index-eq0
loop-shard-preserved-then-index-eq0 g c =
    let it = c.self.inside in
    let cmp = g.S.K.Ord.cmp in
    let near : c.loop-shard.shard ≤ length it.bounds.items = omega (arith, c.loop-shard-test.true, c.route_range-first.ensures.last_in_range, ap length c.deref.ensures.value) in
    let there = has_shard cmp g.S.Shard.pairs it.bounds.items it.shards.items it.lengths.items c.self.invariant g.met.S.K.Ord.total c.loop-shard.shard near in record {
      found = range_skip cmp g.S.Shard.pairs it.bounds.items it.shards.items it.lengths.items c.self.invariant (option_copied c.args.lo) (option_copied c.args.hi) c.route_range-first.result.0 c.args.n
          c.loop-shard.shard (shown c.loop-shard.found.items) c.loop-shard.auto.shard there c.loop-shard.invariant.found c.index.result.now c.index.ensures c.if-index-eq0.true;
      near = omega (arith, c.loop-shard-test.true);
    }

pub index-requires-in-loop-shard : goal.index-requires-in-loop-shard
index-requires-in-loop-shard g c =
    let it = c.self.inside in
    let near : c.loop-shard.shard ≤ length it.bounds.items = omega (arith, c.loop-shard-test.true, c.route_range-first.ensures.last_in_range, ap length c.deref.ensures.value) in
    let there = has_shard g.S.K.Ord.cmp g.S.Shard.pairs it.bounds.items it.shards.items it.lengths.items c.self.invariant g.met.S.K.Ord.total c.loop-shard.shard near in
    omega (arith, there)

pub loop-shard-preserved : goal.loop-shard-preserved
loop-shard-preserved g c =
    let it = c.self.inside in
    let cmp = g.S.K.Ord.cmp in
    let lo = option_copied c.args.lo in
    let hi = option_copied c.args.hi in
    let found = shown c.loop-shard.found.items in
    let near : c.loop-shard.shard ≤ length it.bounds.items = omega (arith, c.loop-shard-test.true, c.route_range-first.ensures.last_in_range, ap length c.deref.ensures.value) in
    let there = has_shard cmp g.S.Shard.pairs it.bounds.items it.shards.items it.lengths.items c.self.invariant g.met.S.K.Ord.total c.loop-shard.shard near in
    let many : c.len-in-loop-shard.result ≡ length found = omega (arith, c.len-in-loop-shard.ensures, length-map c.loop-shard.found.items deref_pair) in record {
      found = c.in_ok-range.ensures ∙ ap (λ m. found ++ take (c.args.n - m) (between cmp (g.S.Shard.pairs c.index-in-loop-shard.result.now) lo hi)) many
          ∙ range_more cmp g.S.Shard.pairs it.bounds.items it.shards.items it.lengths.items c.self.invariant lo hi c.route_range-first.result.0 c.args.n
          c.loop-shard.shard found c.loop-shard.auto.shard there c.loop-shard.invariant.found c.index-in-loop-shard.result.now c.index-in-loop-shard.ensures;
      near = omega (arith, c.loop-shard-test.true);
    }

pub returns : goal.returns
returns g c =
    let it = c.self.inside in
    let cmp = g.S.K.Ord.cmp in
    let lo = option_copied c.args.lo in
    let hi = option_copied c.args.hi in
    let first = c.route_range-first.result.0 in
    let last = c.route_range-first.result.1 in
    let starts : first ≡ first_shard cmp it.bounds.items lo = c.route_range-first.ensures.first ∙ ap (λ bounds. first_shard cmp bounds lo) c.deref.ensures.value in
    let ends : last ≡ last_shard cmp it.bounds.items hi = c.route_range-first.ensures.last ∙ ap (λ bounds. last_shard cmp bounds hi) c.deref.ensures.value in
    range_end cmp g.S.Shard.pairs it.bounds.items it.shards.items it.lengths.items c.self.invariant g.met.S.K.Ord.total lo hi c.args.n (shown c.loop-shard.found.items) first last starts ends
    c.loop-shard.shard c.loop-shard-test.false c.loop-shard.invariant.near c.loop-shard.invariant.found
    ∙ ap (λ l. take c.args.n (between cmp l lo hi)) (ap contents c.self.view_is)
