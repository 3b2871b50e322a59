use Rattle.bptree_iter.proofs.SpanLemmas.{IsSome-front}
use Rattle.bptree_iter.proofs.iterator.Iter.new.Goals as goal

pub leaf_at-leaf-requires : goal.leaf_at-leaf-requires
leaf_at-leaf-requires g c = IsSome-front _ _ _ _ _ _ _ c.requires.span
