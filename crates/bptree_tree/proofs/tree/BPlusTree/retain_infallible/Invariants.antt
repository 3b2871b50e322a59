-- The closure was called for the first pairs, and those of them that do not stay are removed.
use Rattle.bptree_tree.proofs.RetainLemmas.{AreAsked}
use Rattle.bptree_tree.proofs.tree.BPlusTree.retain_infallible.Given as goal

abbrev pub invariant-pairs : goal.invariant-pairs
invariant-pairs g l = record {
  callable : goal.F-IsAlwaysCallable g l.f;
  asked : AreAsked g.F.FnMut g.S.K.Ord.cmp l.fn.f l.fn.self.contents l.f l.self.contents l.left l.at;
}

abbrev pub decreases-pairs : goal.decreases-pairs
decreases-pairs g l = l.left
