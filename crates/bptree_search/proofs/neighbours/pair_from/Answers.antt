use Rattle.std.specs.Option.{option_map}
use Rattle.bptree_search.specs.Neighbours.{pair_read}
use Rattle.bptree_search.proofs.Beside.{first_after, first_here}
use Rattle.bptree_search.proofs.neighbours.pair_from.Goals as goal

pub returns-in-Some : goal.returns-in-Some
returns-in-Some g c = first_here (g.S.NodeStore.slots c.args.store.now) c.args.leaf.now c.args.at c.requires (c.in-Some.pair.0.now, c.in-Some.pair.1.now) c.in-Some.ensures.value

pub returns-in-None : goal.returns-in-None
returns-in-None g c = first_after (g.S.NodeStore.slots c.args.store.now) c.args.leaf.now c.args.at c.requires c.next.result (option_map pair_read c.first_of.result) c.in-None.ensures.variant.1 c.next.ensures c.first_of.ensures
