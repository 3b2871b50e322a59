use Rattle.std.proofs.Common.{refl, drop, arith, length-drop}
use Rattle.std.proofs.lemmas.List.{take_all}
use Rattle.bptree_arguments.proofs.GroupOrderLemmas.{size_between}
use Rattle.bptree_arguments.proofs.group_size.ExtractGroupSizeDescendVisitGroupCount.visit_leaf.Goals as goal

pub returns : goal.returns
returns g c = record {
  outcome = λ pairs keys_are values_are ascending.
      let size = size_between g.K.Ord.cmp g.G.Ord.cmp g.G.FromRef.group_of g.met.G.Ord.total c.self.inside.group c.args.keys.now ascending c.in_ok-start.start c.in_ok-size.size _ (take_all _ (drop c.in_ok-start.start c.args.keys.now) (omega (arith, length-drop c.in_ok-start.start c.args.keys.now))) (c.in_ok-start.ensures.border ascending) c.in_ok-size.ensures.in_range c.in_ok-size.ensures.border in
      rw (keys_are, ← c.self.view_is, c.saturating_add-counted.ensures, size) refl;
}
