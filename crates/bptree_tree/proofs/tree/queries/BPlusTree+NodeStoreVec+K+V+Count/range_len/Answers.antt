use Rattle.bptree_search.proofs.Summed.{known_subtree}
use Rattle.bptree_tree.proofs.tree.queries.BPlusTree+NodeStoreVec+K+V+Count.range_len.Goals as goal

pub len_between-requires : goal.len_between-requires
len_between-requires g c = known_subtree _ c.recall.ensures.whole c.recall.ensures.fits
