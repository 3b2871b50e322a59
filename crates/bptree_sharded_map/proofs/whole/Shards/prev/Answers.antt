use Rattle.std.proofs.Common.{map, take, ap, ◌∙◌}
use Rattle.std.specs.Map.Iter.{deref_pair}
use Rattle.bptree_keys.specs.Contents.{previous, last_member}
use Rattle.bptree_keys.specs.Pieces.{flatten}
use Rattle.bptree_sharded_map.specs.Whole.{contents}
use Rattle.bptree_sharded_map.proofs.Asked.{previous_own, previous_none}
use Rattle.bptree_sharded_map.proofs.whole.Shards.prev.Goals as goal

pub returns-in-Some : goal.returns-in-Some
returns-in-Some g c =
    previous_own g.met.S.K.Ord.total g.S.Shard.pairs c.self.inside.shards.items c.self.invariant c.args.k.now c.route_below-at.result c.route_below-at.ensures.shard c.deref.ensures.value c.index.result.now c.index.ensures (deref_pair c.in-Some.pair) c.in-Some.ensures ∙ ap (λ l. previous g.S.K.Ord.cmp l c.args.k.now) (ap contents c.self.view_is)

pub returns-in-None : goal.returns-in-None
returns-in-None g c =
    c.last_before.ensures ∙ ap (λ items. last_member (flatten (take c.route_below-at.result (map g.S.Shard.pairs items)))) c.deref-in-None.ensures.value
    ∙ previous_none g.met.S.K.Ord.total g.S.Shard.pairs c.self.inside.shards.items c.self.invariant c.args.k.now c.route_below-at.result c.route_below-at.ensures.shard c.deref.ensures.value c.index.result.now c.index.ensures c.in-None.ensures ∙ ap (λ l. previous g.S.K.Ord.cmp l c.args.k.now) (ap contents c.self.view_is)
