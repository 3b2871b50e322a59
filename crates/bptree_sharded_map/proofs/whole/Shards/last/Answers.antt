use Rattle.std.proofs.Common.{◌≡◌, length, ap, ◌∙◌, arith}
use Rattle.bptree_keys.specs.Contents.{last_member}
use Rattle.bptree_sharded_map.specs.Whole.{contents}
use Rattle.bptree_sharded_map.proofs.Asked.{last_asked}
use Rattle.bptree_sharded_map.proofs.whole.Shards.last.Goals as goal

pub returns : goal.returns
returns g c =
    let all : c.len.result ≡ length c.self.inside.shards.items = omega (arith, c.len.ensures, c.deref.ensures) in
    c.last_before.ensures ∙ last_asked g.met.S.K.Ord.total g.S.Shard.pairs c.self.inside.shards.items c.self.invariant c.deref.result.now c.len.result c.deref.ensures.value all
    ∙ ap (λ l. last_member l) (ap contents c.self.view_is)
