use Rattle.bptree_batches.proofs.RankSlotLemmas.{rank_at_slot}
use Rattle.bptree_batches.proofs.ranks.rank_in_leaf.Goals as goal

pub returns : goal.returns
returns g c =
    rank_at_slot g.met.S.K.Ord.total (g.S.NodeStore.slots c.args.store.now) c.args.key.now c.args.way.0 c.args.way.1 c.args.slot c.ranked.result c.requires.subtree c.requires.slot (c.ranked.ensures c.args.key.now)
