-- The first pairs between the two keys were removed.
use Rattle.std.proofs.Common.{◌≡◌, ◌++◌, List, length}
use Rattle.std.specs.Option.{option_copied}
use Rattle.bptree_keys.specs.Ranges.{between}
use Rattle.bptree_tree.specs.RangeRemoval.{outside}
use Rattle.bptree_tree.proofs.tree.BPlusTree.remove_each.Given as goal

abbrev pub invariant-pairs : goal.invariant-pairs
invariant-pairs g l = record {
  left : List (g.row.S-K.Denot × g.row.S-V.Denot);
  count : l.gone ≡ length left;
  parts : between g.S.K.Ord.cmp l.fn.self.contents (option_copied l.fn.lo) (option_copied l.fn.hi) ≡ left ++ between g.S.K.Ord.cmp l.self-inside.nodes.contents (option_copied l.fn.lo) (option_copied l.fn.hi);
  others : outside g.S.K.Ord.cmp l.self-inside.nodes.contents (option_copied l.fn.lo) (option_copied l.fn.hi) ≡ outside g.S.K.Ord.cmp l.fn.self.contents (option_copied l.fn.lo) (option_copied l.fn.hi);
}

abbrev pub decreases-pairs : goal.decreases-pairs
decreases-pairs g l = length (between g.S.K.Ord.cmp l.self-inside.nodes.contents (option_copied l.fn.lo) (option_copied l.fn.hi))
