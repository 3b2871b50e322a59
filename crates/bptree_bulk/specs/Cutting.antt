-- How a tree is cut in two at a key.
use Rattle.std.specs.Prelude.{◌≡◌, ℕ, ◌+◌, List, [], length, take, drop}
use Rattle.std.specs.declared.cmp.Ordering.{Ordering}
use Rattle.bptree_bulk.specs.Split.{HasLeavesFor, IsTreeSplit, PartsAt}
use Rattle.bptree_bulk.specs.Filling.{IsFilling}
use Rattle.bptree_bulk.specs.declared.splitting.Cutting.{Cutting}
use Rattle.bptree_bulk.specs.declared.splitting.Cutting.TheVariants.{Last, Moves, Parts, Stays}
use Rattle.bptree_bulk.specs.declared.filling.Filling.{Filling}
use Rattle.bptree_keys.specs.Keys.{AllInfallible}
use Rattle.bptree_nodes.specs.Inner.{Inner}
use Rattle.bptree_nodes.specs.Leaf.{Leaf}
use Rattle.bptree_nodes.specs.Slot.{Slots}
use Rattle.bptree_invariant.specs.NodeTree.{NodeTree}

module _ {S K V A : Type 0} (cmp : K → K → Ordering) (is_summary : A → List K → Type 0) (is_infallible : K → Type 0) (needs_no_memory : Type 0) (slots : S → Slots (Inner K A) (Leaf K V)) (tree : NodeTree S K V A) (k : K) where
  -- everything is ready to move the pairs behind the first n, and no removal can fail
  pub record IsLast (n : ℕ) (tail : Filling S K V A) : Type 0 where
    pub sum : n + tail.count ≡ length tree.contents
    pub moves : IsFilling cmp is_summary slots tail (drop n tree.contents)
    pub room : HasLeavesFor tail.count tail.pairs
    pub infallible : needs_no_memory × AllInfallible is_infallible

  -- everything is ready to cut the tree before the first pair whose key is not below k
  abbrev pub IsCutting : Cutting S K V A → Type 0
  IsCutting Stays = PartsAt cmp k tree.contents tree.contents []
  IsCutting Moves = PartsAt cmp k tree.contents [] tree.contents
  IsCutting (Parts split) = (n : ℕ) × IsTreeSplit cmp is_summary slots tree n split × PartsAt cmp k tree.contents (take n tree.contents) (drop n tree.contents)
  IsCutting (Last tail) = (n : ℕ) × IsLast n tail × PartsAt cmp k tree.contents (take n tree.contents) (drop n tree.contents)
