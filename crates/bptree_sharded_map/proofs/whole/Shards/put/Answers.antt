use Rattle.std.proofs.Common.{◌≡◌, true, false, IsTrue, ap, sym, subst, ◌∙◌, refl, Ok, Err}
use Rattle.bptree_keys.specs.Contents.{has, value, put}
use Rattle.bptree_sharded_map.specs.Failures.{InOwnShard, NoMemoryOnlyIf}
use Rattle.bptree_sharded_map.specs.Whole.{contents}
use Rattle.bptree_tree.specs.Changes.{IsFull, FailsIfFull}
use Rattle.bptree_sharded_map.proofs.Asked.{most, value_asked, absent_whole, present_asked, memory_asked, full_asked, full_of_shard, room_asked, put_asked, put_whole, same_partition, same_whole}
use Rattle.bptree_sharded_map.proofs.whole.Shards.put.Goals as goal

pub returns-then-lacks_room-clause-present : goal.returns-then-lacks_room-clause-present
returns-then-lacks_room-clause-present g c = λ there.
    sym (absent_whole g.met.S.K.Ord.total g.S.Shard.pairs c.self.inside.shards.items c.self.invariant c.args.k c.route-at.result c.route-at.ensures.shard c.deref.ensures.value c.index.result.now c.index.ensures (c.if-lacks_room.ensures.absent refl)) ∙ ap (λ it. has g.S.K.Ord.cmp (contents it) c.args.k) c.self.view_is ∙ there

pub returns-then-lacks_room-clause-full : goal.returns-then-lacks_room-clause-full
returns-then-lacks_room-clause-full g c = (
  λ is. subst (λ it. IsFull g.S.K.Ord.cmp most (contents it) c.args.k) c.self.view_is
      (full_asked g.met.S.K.Ord.total g.S.Shard.pairs c.self.inside.shards.items c.self.invariant c.args.k c.route-at.result c.route-at.ensures.shard c.deref.ensures.value c.index.result.now c.index.ensures c.deref-2.ensures.value (c.if-lacks_room.ensures.full refl) (c.if-lacks_room.ensures.absent refl)),
  λ full. refl,
)

pub invariant_of-self : goal.invariant_of-self
invariant_of-self g c =
    same_whole g.met.S.K.Ord.total g.S.Shard.pairs c.self.inside.shards.items c.self.invariant c.args.k c.route-at.result c.route-at.ensures.shard c.deref.ensures.value c.index_mut.result.now c.index_mut.ensures.value c.put.new.self c.in-Err.ensures.unchanged

pub returns-in-Err-clause-present : goal.returns-in-Err-clause-present
returns-in-Err-clause-present g c =
    subst (λ it. IsTrue (has g.S.K.Ord.cmp (contents it) c.args.k) → false ≡ true) c.self.view_is (present_asked g.met.S.K.Ord.total g.S.Shard.pairs c.self.inside.shards.items c.self.invariant c.args.k c.route-at.result c.route-at.ensures.shard c.deref.ensures.value c.index_mut.result.now c.index_mut.ensures.value c.in-Err.ensures.present)

pub returns-in-Err-clause-full : goal.returns-in-Err-clause-full
returns-in-Err-clause-full g c =
    subst (λ it. FailsIfFull g.S.K.Ord.cmp most (contents it) c.args.k c.args.v (Err c.in-Err.error)) c.self.view_is
    (full_of_shard g.met.S.K.Ord.total g.S.Shard.pairs c.self.inside.shards.items c.self.invariant c.args.k c.route-at.result c.route-at.ensures.shard c.deref.ensures.value c.index_mut.result.now c.index_mut.ensures.value c.args.v (Err c.in-Err.error)
    (room_asked g.met.S.K.Ord.total g.S.Shard.pairs c.self.inside.shards.items c.self.invariant c.args.k c.route-at.result c.route-at.ensures.shard c.deref.ensures.value c.index.result.now c.index.ensures c.deref-2.ensures.value (c.if-lacks_room.ensures.room refl)) c.in-Err.ensures.full)

pub returns-in-Err-clause-memory : goal.returns-in-Err-clause-memory
returns-in-Err-clause-memory g c =
    subst (λ it. NoMemoryOnlyIf (InOwnShard g.S.K.Ord.cmp g.S.Shard.can_fail it c.args.k) c.in-Err.error) c.self.view_is
    (memory_asked g.met.S.K.Ord.total g.S.Shard.pairs c.self.inside.shards.items c.self.invariant c.args.k c.route-at.result c.route-at.ensures.shard c.deref.ensures.value c.index_mut.result.now c.index_mut.ensures.value g.S.Shard.can_fail (λ T. NoMemoryOnlyIf T c.in-Err.error) c.in-Err.ensures.memory)

pub returns-in-Err-clause-unchanged : goal.returns-in-Err-clause-unchanged
returns-in-Err-clause-unchanged g c = same_partition g.met.S.K.Ord.total g.S.Shard.pairs c.self.inside.shards.items c.self.invariant c.args.k c.route-at.result c.route-at.ensures.shard c.deref.ensures.value c.index_mut.result.now c.index_mut.ensures.value c.put.new.self c.in-Err.ensures.unchanged ∙ c.self.view_is

pub returns-clause-full : goal.returns-clause-full
returns-clause-full g c =
    subst (λ it. FailsIfFull g.S.K.Ord.cmp most (contents it) c.args.k c.args.v (Ok c.in-Ok.old)) c.self.view_is
    (full_of_shard g.met.S.K.Ord.total g.S.Shard.pairs c.self.inside.shards.items c.self.invariant c.args.k c.route-at.result c.route-at.ensures.shard c.deref.ensures.value c.index_mut.result.now c.index_mut.ensures.value c.args.v (Ok c.in-Ok.old)
    (room_asked g.met.S.K.Ord.total g.S.Shard.pairs c.self.inside.shards.items c.self.invariant c.args.k c.route-at.result c.route-at.ensures.shard c.deref.ensures.value c.index.result.now c.index.ensures c.deref-2.ensures.value (c.if-lacks_room.ensures.room refl)) c.in-Ok.ensures.full)

pub invariant_of-self-2 : goal.invariant_of-self-2
invariant_of-self-2 g c =
    put_whole g.met.S.K.Ord.total g.S.Shard.pairs c.self.inside.shards.items c.self.invariant c.args.k c.route-at.result c.route-at.ensures.shard c.deref.ensures.value c.index_mut.result.now c.index_mut.ensures.value c.put.new.self c.len.result c.index-2.result.now c.len.ensures c.index-2.ensures c.args.v c.in-Ok.ensures.ok
    (room_asked g.met.S.K.Ord.total g.S.Shard.pairs c.self.inside.shards.items c.self.invariant c.args.k c.route-at.result c.route-at.ensures.shard c.deref.ensures.value c.index.result.now c.index.ensures c.deref-2.ensures.value (c.if-lacks_room.ensures.room refl))

pub returns-clause-old : goal.returns-clause-old
returns-clause-old g c =
    c.in-Ok.ensures.old ∙ value_asked g.met.S.K.Ord.total g.S.Shard.pairs c.self.inside.shards.items c.self.invariant c.args.k c.route-at.result c.route-at.ensures.shard c.deref.ensures.value c.index_mut.result.now c.index_mut.ensures.value ∙ ap (λ l. value g.S.K.Ord.cmp l c.args.k) (ap contents c.self.view_is)

pub returns-clause-ok : goal.returns-clause-ok
returns-clause-ok g c =
    put_asked g.met.S.K.Ord.total g.S.Shard.pairs c.self.inside.shards.items c.self.invariant c.args.k c.route-at.result c.route-at.ensures.shard c.deref.ensures.value c.index_mut.result.now c.index_mut.ensures.value c.put.new.self c.args.v c.in-Ok.ensures.ok ∙ ap (λ l. put g.S.K.Ord.cmp l c.args.k c.args.v) (ap contents c.self.view_is)
