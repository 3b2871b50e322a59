-- The pairs that came so far are put.
use Rattle.std.proofs.Common.{◌≡◌}
use Rattle.bptree_bulk.specs.Weave.{put_all, put_pair}
use Rattle.bptree_map.proofs.map.BPlusTreeMap.extend.Given as goal

abbrev pub invariant-loop-k : goal.invariant-loop-k
invariant-loop-k g l = l.self ≡ put_all (put_pair g.K.Ord.cmp) l.fn.self l.yielded
