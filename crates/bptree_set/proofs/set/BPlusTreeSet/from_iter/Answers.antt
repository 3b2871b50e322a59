use Rattle.std.proofs.Common.{◌∙◌, ap}
use Rattle.std.specs.Map.{keys_of}
use Rattle.bptree_map.specs.Keys.{gathered}
use Rattle.bptree_map.proofs.KeyLemmas.{keys_gather}
use Rattle.bptree_set.proofs.set.BPlusTreeSet.from_iter.Goals as goal

pub returns : goal.returns
returns g c = (
  c.into_iter-keys.result,
  c.loop-k.yielded,
  c.into_iter-keys.ensures.into_iter_gives,
  (c.loop-k.k-iterator, rw (c.into_iter-k-iterator.ensures.into_iter_gives) at c.loop-k.yielded_by, λ _. (c.next.new.self, c.in-None.ensures.steps)),
  ap keys_of c.in_ok-gather_map.ensures ∙ keys_gather g.K.Ord.cmp c.loop-k.pairs.items ∙ ap (gathered g.K.Ord.cmp) c.loop-k.invariant,
)
