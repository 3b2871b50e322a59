-- The pairs of two trees in one.
use Rattle.std.specs.Prelude.{◌≡◌, List}
use Rattle.std.specs.declared.cmp.Ordering.{Ordering}
use Rattle.bptree_bulk.specs.Weave.{put_all, put_pair}
use Rattle.bptree_invariant.specs.NodeTree.{NodeTree}

module _ {K V : Type 0} (cmp : K → K → Ordering) where
  -- the pairs of a list with those of another put, one after another
  abbrev pub appended : List (K × V) → List (K × V) → List (K × V)
  appended l others = put_all (put_pair cmp) l others

  -- a tree has its own pairs with those of another put
  abbrev pub Appends : {S A : Type 0} → NodeTree S K V A → NodeTree S K V A → NodeTree S K V A → Type 0
  Appends old other new = new.contents ≡ appended old.contents other.contents
