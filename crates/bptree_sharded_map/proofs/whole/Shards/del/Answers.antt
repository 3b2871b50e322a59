use Rattle.std.proofs.Common.{ap, subst, ◌∙◌, Ok}
use Rattle.bptree_keys.specs.Contents.{has, value, del}
use Rattle.bptree_sharded_map.specs.Failures.{InOwnShard}
use Rattle.bptree_sharded_map.specs.Whole.{contents}
use Rattle.bptree_sharded_map.proofs.Asked.{value_asked, absent_asked, absent_is_ok, on_err, memory_asked, del_asked, del_whole, same_partition, same_whole}
use Rattle.bptree_sharded_map.proofs.whole.Shards.del.Goals as goal

pub invariant_of-self : goal.invariant_of-self
invariant_of-self g c =
    same_whole g.met.S.K.Ord.total g.S.Shard.pairs c.self.inside.shards.items c.self.invariant c.args.k.now c.route-at.result c.route-at.ensures.shard c.deref.ensures.value c.index_mut.result.now c.index_mut.ensures.value c.del.new.self c.in_err-old.ensures.unchanged

pub returns-in_err-old-clause-absent : goal.returns-in_err-old-clause-absent
returns-in_err-old-clause-absent g c = λ absent. absurd (absent_is_ok g.met.S.K.Ord.total g.S.Shard.pairs c.self.inside.shards.items c.self.invariant c.args.k.now c.route-at.result c.route-at.ensures.shard c.deref.ensures.value c.index_mut.result.now c.index_mut.ensures.value c.in_err-old.field-0.0 c.in_err-old.ensures.absent (ap (λ it. has g.S.K.Ord.cmp (contents it) c.args.k.now) c.self.view_is ∙ absent))

pub returns-in_err-old-clause-memory : goal.returns-in_err-old-clause-memory
returns-in_err-old-clause-memory g c =
    on_err c.from_residual.result (subst (λ it. InOwnShard g.S.K.Ord.cmp g.S.Shard.can_fail it c.args.k.now) c.self.view_is (memory_asked g.met.S.K.Ord.total g.S.Shard.pairs c.self.inside.shards.items c.self.invariant c.args.k.now c.route-at.result c.route-at.ensures.shard c.deref.ensures.value c.index_mut.result.now c.index_mut.ensures.value g.S.Shard.can_fail (λ T. T) c.in_err-old.ensures.memory))

pub returns-in_err-old-clause-unchanged : goal.returns-in_err-old-clause-unchanged
returns-in_err-old-clause-unchanged g c =
    on_err c.from_residual.result (same_partition g.met.S.K.Ord.total g.S.Shard.pairs c.self.inside.shards.items c.self.invariant c.args.k.now c.route-at.result c.route-at.ensures.shard c.deref.ensures.value c.index_mut.result.now c.index_mut.ensures.value c.del.new.self c.in_err-old.ensures.unchanged ∙ c.self.view_is)

pub returns-clause-absent : goal.returns-clause-absent
returns-clause-absent g c = λ absent. absent_asked g.met.S.K.Ord.total g.S.Shard.pairs c.self.inside.shards.items c.self.invariant c.args.k.now c.route-at.result c.route-at.ensures.shard c.deref.ensures.value c.index_mut.result.now c.index_mut.ensures.value (Ok c.in_ok-old.old) c.in_ok-old.ensures.absent (ap (λ it. has g.S.K.Ord.cmp (contents it) c.args.k.now) c.self.view_is ∙ absent)

pub invariant_of-self-2 : goal.invariant_of-self-2
invariant_of-self-2 g c =
    del_whole g.met.S.K.Ord.total g.S.Shard.pairs c.self.inside.shards.items c.self.invariant c.args.k.now c.route-at.result c.route-at.ensures.shard c.deref.ensures.value c.index_mut.result.now c.index_mut.ensures.value c.del.new.self c.len.result c.index.result.now c.len.ensures c.index.ensures c.in_ok-old.ensures.ok

pub returns-clause-old : goal.returns-clause-old
returns-clause-old g c =
    c.in_ok-old.ensures.old ∙ value_asked g.met.S.K.Ord.total g.S.Shard.pairs c.self.inside.shards.items c.self.invariant c.args.k.now c.route-at.result c.route-at.ensures.shard c.deref.ensures.value c.index_mut.result.now c.index_mut.ensures.value ∙ ap (λ l. value g.S.K.Ord.cmp l c.args.k.now) (ap contents c.self.view_is)

pub returns-clause-ok : goal.returns-clause-ok
returns-clause-ok g c =
    del_asked g.met.S.K.Ord.total g.S.Shard.pairs c.self.inside.shards.items c.self.invariant c.args.k.now c.route-at.result c.route-at.ensures.shard c.deref.ensures.value c.index_mut.result.now c.index_mut.ensures.value c.del.new.self c.in_ok-old.ensures.ok ∙ ap (λ l. del g.S.K.Ord.cmp l c.args.k.now) (ap contents c.self.view_is)
