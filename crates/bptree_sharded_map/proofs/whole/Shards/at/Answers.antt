use Rattle.std.proofs.Common.{◌∙◌, ap, slice_get}
use Rattle.bptree_sharded_map.specs.Whole.{contents}
use Rattle.bptree_sharded_map.proofs.Asked.{at_none, at_asked}
use Rattle.bptree_sharded_map.proofs.whole.Shards.at.Goals as goal

pub returns-in-None : goal.returns-in-None
returns-in-None g c =
    at_none g.met.S.K.Ord.total g.S.Shard.pairs c.self.inside.shards.items c.self.invariant c.deref.ensures.value c.args.index c.in-None.ensures ∙ ap (λ l. slice_get l c.args.index) (ap contents c.self.view_is)

pub returns-in-Some : goal.returns-in-Some
returns-in-Some g c =
    c.at.ensures ∙ at_asked g.met.S.K.Ord.total g.S.Shard.pairs c.self.inside.shards.items c.self.invariant c.deref.ensures.value c.args.index c.in-Some.shard c.in-Some.own c.index.result.now c.in-Some.ensures c.index.ensures
    ∙ ap (λ l. slice_get l c.args.index) (ap contents c.self.view_is)
