use Rattle.std.proofs.Common.{◌≡◌, ◌++◌, OnOk, subst}
use Rattle.bptree_sharded_map.specs.Shown.{shown}
use Rattle.bptree_sharded_map.proofs.Taken.{part-found}
use Rattle.bptree_sharded_map.proofs.map_shard.BPlusTreeMapCountShard.page.Goals as goal

pub returns : goal.returns
returns g c =
    subst (λ l. OnOk c.put_from.result (shown c.put_from.new.found.items ≡ shown c.args.found.now.items ++ l))
    (part-found c.args.self.now c.args.from c.args.count c.in_ok-pairs.pairs c.in_ok-pairs.ensures.rest) c.put_from.ensures
