use Rattle.std.proofs.lemmas.List.Kept.{IsStrictlySortedBy-filter}
use Rattle.bptree_map.specs.Keys.{holds}
use Rattle.bptree_set.proofs.set.sifted.Sifted.new.Goals as goal

pub returns-then-len-clause-ascending : goal.returns-then-len-clause-ascending
returns-then-len-clause-ascending g c = IsStrictlySortedBy-filter g.K.Ord.cmp (λ key. g.W.SetOp.keeps (holds g.K.Ord.cmp c.args.other.now key)) c.args.first.now c.len.ensures.ascending

pub returns-clause-ascending : goal.returns-clause-ascending
returns-clause-ascending g c = IsStrictlySortedBy-filter g.K.Ord.cmp (λ key. g.W.SetOp.keeps (holds g.K.Ord.cmp c.args.other.now key)) c.args.first.now c.len.ensures.ascending
