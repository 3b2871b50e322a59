use Rattle.std.proofs.Common.{◌+◌, ◌<◌, [], length, cond, ap, refl, subst, sym, ◌∙◌, append-nil, arith}
use Rattle.bptree_sharded_map.specs.Whole.{contents, descends_at, IsWholeOfShards}
use Rattle.bptree_sharded_map.proofs.Moved.{merge_whole, merge_list, next_there, put_again, same_whole}
use Rattle.bptree_sharded_map.proofs.whole.Shards.merge.Goals as goal

pub remove-next-requires : goal.remove-next-requires
remove-next-requires g c =
    let inside : c.args.shard < length c.self.inside.bounds.items = omega (arith, c.if-shard-len.false, c.len.ensures) in
    omega (arith, next_there g.met.S.K.Ord.total g.S.Shard.pairs c.self.inside.shards.items c.self.invariant c.args.shard inside)

pub invariant_of-self : goal.invariant_of-self
invariant_of-self g c =
    let inside : c.args.shard < length c.self.inside.bounds.items = omega (arith, c.if-shard-len.false, c.len.ensures) in
    let same = put_again g.met.S.K.Ord.total g.S.Shard.pairs c.self.inside.shards.items c.self.invariant c.args.shard inside c.index_mut.result.now c.remove-next.result c.remove-next.ensures.items c.index_mut.ensures.value c.remove-next.ensures.value c.append.new.self c.append.new.other c.insert_reserved.new.to.items c.insert_reserved.ensures c.in-Err.ensures.unchanged.0 c.in-Err.ensures.unchanged.1 in
    subst (λ shards. IsWholeOfShards g.S.K.Ord.cmp c.self.inside.bounds.items shards c.self.inside.lengths.items) (sym same) c.self.invariant

pub returns-in-Err-clause-unchanged : goal.returns-in-Err-clause-unchanged
returns-in-Err-clause-unchanged g c =
    let inside : c.args.shard < length c.self.inside.bounds.items = omega (arith, c.if-shard-len.false, c.len.ensures) in
    let same = put_again g.met.S.K.Ord.total g.S.Shard.pairs c.self.inside.shards.items c.self.invariant c.args.shard inside c.index_mut.result.now c.remove-next.result c.remove-next.ensures.items c.index_mut.ensures.value c.remove-next.ensures.value c.append.new.self c.append.new.other c.insert_reserved.new.to.items c.insert_reserved.ensures c.in-Err.ensures.unchanged.0 c.in-Err.ensures.unchanged.1 in
    same_whole {bounds = c.self.inside.bounds.items} refl same ∙ c.self.view_is

pub invariant_of-self-2 : goal.invariant_of-self-2
invariant_of-self-2 g c =
    let inside : c.args.shard < length c.self.inside.bounds.items = omega (arith, c.if-shard-len.false, c.len.ensures) in
    let goes = c.bound_to_go-bound.ensures.bound ∙ ap (λ bounds. cond (descends_at g.S.K.Ord.cmp bounds c.args.shard) (c.args.shard + 1) c.args.shard) c.deref.ensures.value in
    merge_whole g.met.S.K.Ord.total g.S.Shard.pairs c.self.inside.shards.items c.self.invariant c.args.shard inside c.index_mut.result.now c.remove-next.result c.remove-next.ensures.items c.index_mut.ensures.value c.remove-next.ensures.value c.append.new.self (g.S.Shard.pairs c.remove-next.result) [] (sym (append-nil (g.S.Shard.pairs c.remove-next.result))) c.in-Ok.ensures.ok.0 c.len-2.result c.index.result.now c.len-2.ensures c.index.ensures c.bound_to_go-bound.result c.remove.ensures.items goes c.remove-2.ensures.items

pub returns-clause-ok : goal.returns-clause-ok
returns-clause-ok g c =
    let inside : c.args.shard < length c.self.inside.bounds.items = omega (arith, c.if-shard-len.false, c.len.ensures) in
    merge_list g.met.S.K.Ord.total g.S.Shard.pairs c.self.inside.shards.items c.self.invariant c.args.shard inside c.index_mut.result.now c.remove-next.result c.remove-next.ensures.items c.index_mut.ensures.value c.remove-next.ensures.value c.append.new.self (g.S.Shard.pairs c.remove-next.result) [] (sym (append-nil (g.S.Shard.pairs c.remove-next.result))) c.in-Ok.ensures.ok.0 ∙ (ap contents c.self.view_is)
