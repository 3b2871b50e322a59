-- Positions in a tree, and parts of its contents, as contracts see them.
use Rattle.std.specs.Prelude.{◌≡◌, ℕ, ◌-◌, ◌≤◌, List, Option, filter, length, min}
use Rattle.std.specs.Borrow.{Bor}
use Rattle.std.specs.Map.{keys_of}
use Rattle.std.specs.Option.{option_copied}
use Rattle.std.specs.declared.cmp.Ordering.{Ordering}
use Rattle.std.specs.declared.ops.Bound.{Bound}
use Rattle.bptree_arguments.specs.CountLaws.{CountsKeys}
use Rattle.bptree_arguments.specs.GroupResults.{is_before}
use Rattle.bptree_arguments.specs.Groups.{of_group}
use Rattle.bptree_arguments.specs.Selection.{IsIndexBelow}
use Rattle.bptree_arguments.specs.declared.count.Count.{Count}
use Rattle.bptree_search.specs.ByArgument.{IsSubtree}
use Rattle.bptree_iter.specs.Span.{Reports}
use Rattle.bptree_iter.specs.declared.part.PartLen.{PartLen}
use Rattle.bptree_iter.specs.declared.part.Part.{Part}
use Rattle.bptree_keys.specs.Ends.{is_back}
use Rattle.bptree_keys.specs.Ranges.{between, part, part_at}
use Rattle.bptree_keys.specs.declared.end.End.{End}
use Rattle.bptree_keys.specs.declared.node_id.Position.{Position}
use Rattle.bptree_nodes.specs.Inner.{Inner}
use Rattle.bptree_nodes.specs.Leaf.{Leaf}
use Rattle.bptree_nodes.specs.Slot.{Slots}
use Rattle.bptree_ranges.specs.Bounds.{between_bounds, bound_copied, is_before_bound}
use Rattle.bptree_ranges.specs.Indexes.{IsIndexInGroup}
use Rattle.bptree_ranges.specs.Ranges.{index_on, IsPart, IsIndexOn, IsSettled}
use Rattle.bptree_invariant.specs.NodeTree.{NodeTree}
use Rattle.bptree_invariant.specs.Shape.{pairs_at}

module _ {S K V A : Type 0} (slots : S → Slots (Inner K A) (Leaf K V)) (tree : NodeTree S K V A) where
  -- the position is that of a pair or the end of a leaf; no pair is before it; and all pairs are
  -- before it
  abbrev pub HasPosition : Position → Type 0
  HasPosition at = IsIndexOn (slots tree.store) tree.height tree.root at.leaf at.slot

  abbrev pub PartStartsAt : Position → Type 0
  PartStartsAt at = index_on (slots tree.store) tree.height tree.root at ≡ 0

  abbrev pub EndsAt : Position → Type 0
  EndsAt at = index_on (slots tree.store) tree.height tree.root at ≡ length (pairs_at (slots tree.store) tree.height tree.root)

  -- the settled position has as many pairs before it, and is at a pair unless it is the end of all
  abbrev pub HasSettled : Position → Position → Type 0
  HasSettled at settled = IsSettled (slots tree.store) tree.height tree.root (index_on (slots tree.store) tree.height tree.root at) settled

  -- the second position is not before the first, and a limit relates to the number of pairs between
  -- them as an extent says
  abbrev pub HasInOrder : Position → Position → Type 0
  HasInOrder front back = index_on (slots tree.store) tree.height tree.root front ≤ index_on (slots tree.store) tree.height tree.root back

  abbrev pub HasAsMany : Position → Position → ℕ → PartLen → Type 0
  HasAsMany front back limit extent = Reports extent limit (index_on (slots tree.store) tree.height tree.root back - index_on (slots tree.store) tree.height tree.root front)

  -- the part has these pairs
  abbrev pub HasPart : Part → List (K × V) → Type 0
  HasPart found pairs = IsPart (slots tree.store) tree.height tree.root found pairs

  -- the part between two positions, up to a limit; of n pairs from a position on; and of n pairs
  -- from an index on that a query selects
  abbrev pub HasPartUpTo : Position → Position → ℕ → Part → Type 0
  HasPartUpTo front back limit found = HasPart found (part (pairs_at (slots tree.store) tree.height tree.root) (index_on (slots tree.store) tree.height tree.root front) (min limit (index_on (slots tree.store) tree.height tree.root back - index_on (slots tree.store) tree.height tree.root front)))

  abbrev pub HasPartFrom : Position → ℕ → Part → Type 0
  HasPartFrom front n found = HasPart found (part (pairs_at (slots tree.store) tree.height tree.root) (index_on (slots tree.store) tree.height tree.root front) n)

  abbrev pub HasSelectedPart : {Q : Type 0} → (Q → List K → Option ℕ → Type 0) → Q → ℕ → Part → Type 0
  HasSelectedPart selects query n found =
      (o : Option ℕ) × IsIndexBelow tree.contents o × selects query (keys_of tree.contents) o × HasPart found (part_at tree.contents o n)

  module _ (cmp : K → K → Ordering) where
    -- n pairs are between two ends
    abbrev pub HasAsManyBetween : Option (Bor K) → Option (Bor K) → ℕ → Type 0
    HasAsManyBetween lo hi n = n ≡ length (between cmp tree.contents (option_copied lo) (option_copied hi))

    -- the part between two ends, the positions around it, the part between two bounds, and the
    -- position of a bound
    abbrev pub HasPartBetween : Option (Bor K) → Option (Bor K) → Part → Type 0
    HasPartBetween lo hi found = HasPart found (between cmp tree.contents (option_copied lo) (option_copied hi))

    abbrev pub HasIndexesBetween : Option (Bor K) → Option (Bor K) → Position × Position → Type 0
    HasIndexesBetween lo hi indexes =
        between cmp (pairs_at (slots tree.store) tree.height tree.root) (option_copied lo) (option_copied hi) ≡ part (pairs_at (slots tree.store) tree.height tree.root) (index_on (slots tree.store) tree.height tree.root indexes.0) (index_on (slots tree.store) tree.height tree.root indexes.1 - index_on (slots tree.store) tree.height tree.root indexes.0)

    abbrev pub HasPartInBounds : Bound (Bor K) → Bound (Bor K) → Part → Type 0
    HasPartInBounds lo hi found = HasPart found (between_bounds cmp tree.contents (bound_copied lo) (bound_copied hi))

    abbrev pub HasBound : End → Bound (Bor K) → Position → Type 0
    HasBound end bound at = index_on (slots tree.store) tree.height tree.root at ≡ length (filter (λ pair. is_before_bound cmp (is_back end) (bound_copied bound) pair.0) (pairs_at (slots tree.store) tree.height tree.root))

  module _ {G : Type 0} (cmp : G → G → Ordering) (group_of : K → G) (g : G) where
    -- the part of a group, or of n pairs of it from its pair i on; the position at which the group
    -- ends, or begins; and the position of its pair i
    abbrev pub HasGroup : Part → Type 0
    HasGroup found = HasPart found (of_group cmp group_of g tree.contents)

    abbrev pub HasPartOfGroup : ℕ → ℕ → Part → Type 0
    HasPartOfGroup i n found = HasPart found (part (of_group cmp group_of g tree.contents) i n)

    abbrev pub HasBorder : End → Position → Type 0
    HasBorder end at = HasPosition at × (index_on (slots tree.store) tree.height tree.root at ≡ length (filter (λ pair. is_before (is_back end) (cmp (group_of pair.0) g)) (pairs_at (slots tree.store) tree.height tree.root)))

    abbrev pub HasIndexOfGroup : ℕ → Option (Position) → Type 0
    HasIndexOfGroup i at = IsIndexInGroup (slots tree.store) cmp group_of g tree.height tree.root i at

-- each summary of a tree is the number of keys below its child
abbrev pub HasCounts : {S K V : Type 0} → (S → Slots (Inner K Count) (Leaf K V)) → NodeTree S K V Count → (K → K → Ordering) → Type 0
HasCounts slots tree cmp = IsSubtree cmp CountsKeys (slots tree.store) tree.height tree.root
