use Rattle.std.proofs.Common.{ap, ◌∙◌}
use Rattle.bptree_keys.specs.Contents.{next}
use Rattle.bptree_sharded_map.specs.Whole.{contents}
use Rattle.bptree_sharded_map.proofs.Asked.{next_own, next_none, next_some}
use Rattle.bptree_sharded_map.proofs.whole.Shards.next.Goals as goal

pub returns-then-is_some : goal.returns-then-is_some
returns-then-is_some g c =
    next_own g.met.S.K.Ord.total g.S.Shard.pairs c.self.inside.shards.items c.self.invariant c.args.k.now c.route-at.result c.route-at.ensures.shard c.deref.ensures.value c.index.result.now c.index.ensures (λ pair. (pair.0.now, pair.1.now)) c.next-own.result c.next-own.ensures c.if-is_some.ensures ∙ ap (λ l. next g.S.K.Ord.cmp l c.args.k.now) (ap contents c.self.view_is)

pub returns-in-None : goal.returns-in-None
returns-in-None g c =
    next_none g.met.S.K.Ord.total g.S.Shard.pairs c.self.inside.shards.items c.self.invariant c.args.k.now c.route-at.result c.route-at.ensures.shard c.deref.ensures.value c.index.result.now c.index.ensures (λ pair. (pair.0.now, pair.1.now)) c.next-own.result c.next-own.ensures c.deref-2.ensures.value c.if-is_some.ensures c.in-None.ensures
    ∙ ap (λ l. next g.S.K.Ord.cmp l c.args.k.now) (ap contents c.self.view_is)

pub returns-in-Some : goal.returns-in-Some
returns-in-Some g c =
    c.at.ensures ∙ next_some g.met.S.K.Ord.total g.S.Shard.pairs c.self.inside.shards.items c.self.invariant c.args.k.now c.route-at.result c.route-at.ensures.shard c.deref.ensures.value c.index.result.now c.index.ensures (λ pair. (pair.0.now, pair.1.now)) c.next-own.result c.next-own.ensures c.deref-2.ensures.value c.if-is_some.ensures c.in-Some.behind c.index-in-Some.result.now c.in-Some.ensures c.index-in-Some.ensures
    ∙ ap (λ l. next g.S.K.Ord.cmp l c.args.k.now) (ap contents c.self.view_is)
