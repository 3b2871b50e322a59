-- The keys that came so far are in the set.
use Rattle.std.proofs.Common.{◌≡◌}
use Rattle.bptree_map.specs.Keys.{with_key}
use Rattle.bptree_bulk.specs.Weave.{put_all}
use Rattle.bptree_set.proofs.set.BPlusTreeSet.extend.Given as goal

abbrev pub invariant-loop-k : goal.invariant-loop-k
invariant-loop-k g l = l.self ≡ put_all (with_key g.K.Ord.cmp) l.fn.self l.yielded
