use Rattle.std.proofs.Common.{◌++◌, ap, ◌∙◌, arith}
use Rattle.std.specs.Option.{option_to_list}
use Rattle.bptree_bulk_load.specs.Layer.{with_leaves}
use Rattle.bptree_bulk_load.proofs.Raised.{built}
use Rattle.bptree_bulk_load.proofs.building.raise_all.Goals as goal

pub returns : goal.returns
returns g c = (
  c.layers.invariant.leaves,
  λ leaves pairs ascending fits layer.
      built g.S.K.Ord.cmp g.S.Argument.Argument.is_summary (with_leaves (g.S.NodeStore.slots c.layers.store) leaves) c.layers.height c.unwrap-root.result pairs c.layers.layer.items c.pop.new.self.items
      (c.pop.ensures.items ∙ ap (λ o. c.pop.new.self.items ++ option_to_list o) c.unwrap-root.ensures) (omega (arith, c.len.ensures, c.layers-test.false)) (c.layers.invariant.layer leaves pairs ascending fits layer),
)
