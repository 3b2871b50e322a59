use Rattle.std.proofs.Common.{arith, map, ap, subst, sym, ◌∙◌}
use Rattle.bptree_keys.specs.Pieces.{flatten}
use Rattle.bptree_sharded_map.specs.Whole.{contents, IsWholeOfShards}
use Rattle.bptree_sharded_map.proofs.Asked.{on_err, same_parts, routed_counted}
use Rattle.bptree_sharded_map.proofs.Moved.{split_whole, split_list, same_shards, same_whole}
use Rattle.bptree_sharded_map.proofs.whole.Shards.split.Goals as goal

pub index_mut-requires-2 : goal.index_mut-requires-2
index_mut-requires-2 g c =
    let whole = same_parts g.S.Shard.pairs c.self.inside.shards.items c.reserve-2.new.self.items c.reserve.ensures.items c.reserve-2.ensures.items c.reserve-3.ensures.items c.self.invariant in
    omega (arith, routed_counted g.met.S.K.Ord.total g.S.Shard.pairs c.reserve-2.new.self.items whole c.args.k c.route-at.result c.route-at.ensures.shard c.deref.ensures.value)

pub insert_reserved-requires-clause-within : goal.insert_reserved-requires-clause-within
insert_reserved-requires-clause-within g c =
    let whole = same_parts g.S.Shard.pairs c.self.inside.shards.items c.reserve-2.new.self.items c.reserve.ensures.items c.reserve-2.ensures.items c.reserve-3.ensures.items c.self.invariant in
    omega (arith, routed_counted g.met.S.K.Ord.total g.S.Shard.pairs c.reserve-2.new.self.items whole c.args.k c.route-at.result c.route-at.ensures.shard c.deref.ensures.value)

pub invariant_of-self-in_err-there : goal.invariant_of-self-in_err-there
invariant_of-self-in_err-there g c =
    let whole = same_parts g.S.Shard.pairs c.self.inside.shards.items c.reserve-2.new.self.items c.reserve.ensures.items c.reserve-2.ensures.items c.reserve-3.ensures.items c.self.invariant in
    let same = same_shards g.met.S.K.Ord.total g.S.Shard.pairs c.reserve-2.new.self.items whole c.args.k c.route-at.result c.route-at.ensures.shard c.deref.ensures.value c.index_mut.result.now c.index_mut.ensures.value c.split_off.new.self c.in_err-there.ensures.unchanged in
    subst (λ shards. IsWholeOfShards g.S.K.Ord.cmp c.reserve.new.self.items shards c.reserve-3.new.self.items) (sym same) whole

pub returns-in_err-there-clause-unchanged : goal.returns-in_err-there-clause-unchanged
returns-in_err-there-clause-unchanged g c =
    let whole = same_parts g.S.Shard.pairs c.self.inside.shards.items c.reserve-2.new.self.items c.reserve.ensures.items c.reserve-2.ensures.items c.reserve-3.ensures.items c.self.invariant in
    let same = same_shards g.met.S.K.Ord.total g.S.Shard.pairs c.reserve-2.new.self.items whole c.args.k c.route-at.result c.route-at.ensures.shard c.deref.ensures.value c.index_mut.result.now c.index_mut.ensures.value c.split_off.new.self c.in_err-there.ensures.unchanged in
    on_err c.from_residual-in_err-there.result (same_whole c.reserve.ensures.items (same ∙ ap (map g.S.Shard.pairs) c.reserve-2.ensures.items) ∙ c.self.view_is)

pub invariant_of-self-2 : goal.invariant_of-self-2
invariant_of-self-2 g c =
    let whole = same_parts g.S.Shard.pairs c.self.inside.shards.items c.reserve-2.new.self.items c.reserve.ensures.items c.reserve-2.ensures.items c.reserve-3.ensures.items c.self.invariant in
    rw (c.insert_reserved-3.ensures, c.insert_reserved-2.ensures, c.insert_reserved.ensures)
    (split_whole g.met.S.K.Ord.total g.S.Shard.pairs c.reserve-2.new.self.items whole c.args.k c.route-at.result c.route-at.ensures.shard c.deref.ensures.value c.index_mut.result.now c.index_mut.ensures.value c.split_off.new.self c.in_ok-there.there c.in_ok-there.ensures.ok.0 c.in_ok-there.ensures.ok.1 c.len.result c.index.result.now c.len.ensures c.index.ensures c.len-2.result c.len-2.ensures)

pub returns-clause-ok : goal.returns-clause-ok
returns-clause-ok g c =
    let whole = same_parts g.S.Shard.pairs c.self.inside.shards.items c.reserve-2.new.self.items c.reserve.ensures.items c.reserve-2.ensures.items c.reserve-3.ensures.items c.self.invariant in
    ap (λ items. flatten (map g.S.Shard.pairs items)) c.insert_reserved-2.ensures
    ∙ split_list g.met.S.K.Ord.total g.S.Shard.pairs c.reserve-2.new.self.items whole c.args.k c.route-at.result c.route-at.ensures.shard c.deref.ensures.value c.index_mut.result.now c.index_mut.ensures.value c.split_off.new.self c.in_ok-there.there c.in_ok-there.ensures.ok.0 c.in_ok-there.ensures.ok.1
    ∙ ap (λ items. flatten (map g.S.Shard.pairs items)) c.reserve-2.ensures.items ∙ (ap contents c.self.view_is)
