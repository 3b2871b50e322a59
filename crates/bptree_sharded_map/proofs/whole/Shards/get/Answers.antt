use Rattle.std.proofs.Common.{ap, ◌∙◌}
use Rattle.bptree_keys.specs.Contents.{value}
use Rattle.bptree_sharded_map.specs.Whole.{contents}
use Rattle.bptree_sharded_map.proofs.Asked.{value_asked}
use Rattle.bptree_sharded_map.proofs.whole.Shards.get.Goals as goal

pub returns : goal.returns
returns g c =
    c.get.ensures ∙ value_asked g.met.S.K.Ord.total g.S.Shard.pairs c.self.inside.shards.items c.self.invariant c.args.k.now c.route.result c.route.ensures.shard c.deref.ensures.value c.index.result.now c.index.ensures
    ∙ ap (λ l. value g.S.K.Ord.cmp l c.args.k.now) (ap contents c.self.view_is)
