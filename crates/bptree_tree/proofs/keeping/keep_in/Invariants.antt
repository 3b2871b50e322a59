-- The closure was called for the pairs of the leaves that were taken.
use Rattle.std.proofs.Common.{◌≡◌, ◌+◌, ◌*◌, ◌≤◌, ◌++◌, List, length}
use Rattle.std.specs.Prelude.{vec_capacity, vec_len}
use Rattle.bptree_nodes.specs.Retaining.{RetainsFirst}
use Rattle.bptree_tree.specs.Keeping.{pairs_to_last, AreOpen}
use Rattle.bptree_tree.proofs.keeping.keep_in.Given as goal

abbrev pub invariant-leaves : goal.invariant-leaves
invariant-leaves g l = record {
  taken : List (g.row.S-K.Denot × g.row.S-V.Denot);
  parts : l.fn.chain ≡ taken ++ l.chain;
  retained : RetainsFirst g.F.FnMut l.fn.f taken l.f (pairs_to_last l.leaves.items l.last);
  opened : AreOpen l.leaves.items l.last;
  count : 16 * vec_len l.leaves + (length l.last.value.pairs + length l.chain) ≤ length l.fn.chain;
  capacity : vec_capacity l.leaves ≡ vec_capacity l.fn.leaves;
  callable : goal.F-IsAlwaysCallable g l.f;
}

abbrev pub decreases-leaves : goal.decreases-leaves
decreases-leaves g l = length l.chain
