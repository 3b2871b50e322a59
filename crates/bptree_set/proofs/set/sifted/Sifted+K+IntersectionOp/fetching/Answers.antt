use Rattle.std.proofs.lemmas.List.Kept.{IsStrictlySortedBy-filter}
use Rattle.bptree_map.specs.Keys.{holds}
use Rattle.bptree_set.proofs.set.sifted.Sifted+K+IntersectionOp.fetching.Goals as goal

pub returns-clause-ascending : goal.returns-clause-ascending
returns-clause-ascending g c = IsStrictlySortedBy-filter g.K.Ord.cmp (λ key. holds g.K.Ord.cmp c.args.second.now key) c.args.first.now c.recall.ensures.ascending
