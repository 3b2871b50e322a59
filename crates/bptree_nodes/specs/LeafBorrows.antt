-- The final state of a leaf after a mutable borrow of one of its values.
use Rattle.std.specs.Prelude.{ℕ}
use Rattle.std.specs.Borrow.{Lends, Fml, RattleType, MutBor}
use Rattle.bptree_nodes.specs.Leaf.{Leaf, set_value_at}
use Rattle.bptree_nodes.specs.contracts.leaf_node.LeafNode.{the_row}

module _ (K V : RattleType) (l : MutBor (Leaf K.Denot V.Denot)) where
  -- once the borrow r ends, the slot has the last value written through r
  abbrev pub borrows_value : ℕ → MutBor V.Denot → Fml
  borrows_value i r = Lends (the_row K V) V l r (λ w. record l.now { pairs = set_value_at l.now.pairs i w })
