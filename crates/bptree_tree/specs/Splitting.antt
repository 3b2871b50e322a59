-- A tree that is cut in two at a key.
use Rattle.std.specs.Prelude.{ℕ, ◌-◌, List, length, take, drop}
use Rattle.std.specs.declared.cmp.Ordering.{Ordering}
use Rattle.bptree_bulk.specs.Split.{PartsAt}
use Rattle.bptree_invariant.specs.NodeTree.{NodeTree}

-- a list without the last so many members, and these members
abbrev pub but_last : {X : Type 0} → ℕ → List X → List X
but_last count l = take (length l - count) l

abbrev pub last_pair_of : {X : Type 0} → ℕ → List X → List X
last_pair_of count l = drop (length l - count) l

-- one tree keeps the pairs below a key, and the other has the others
abbrev pub CutsAt : {S K V A : Type 0} → (K → K → Ordering) → K → NodeTree S K V A → NodeTree S K V A → NodeTree S K V A → Type 0
CutsAt cmp k old new there = PartsAt cmp k old.contents new.contents there.contents
