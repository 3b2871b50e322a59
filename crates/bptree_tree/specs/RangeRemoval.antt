-- The pairs between two keys that are removed.
use Rattle.std.specs.Prelude.{◌≡◌, ℕ, Bool, true, false, not, ◌&&◌, Option, None, Some, List, [], ◌∷◌, filter, length, Result, Ok}
use Rattle.std.specs.declared.cmp.Ordering.{Ordering}
use Rattle.bptree_bulk.specs.Gap.{without_part}
use Rattle.bptree_bulk.specs.Positions.{index_of_position}
use Rattle.bptree_bulk.specs.Removing.{IsRemovalBetween}
use Rattle.bptree_bulk.specs.declared.removing.Removal.{Removal}
use Rattle.bptree_keys.specs.Ranges.{falls_short, stays_below, between}
use Rattle.bptree_keys.specs.declared.node_id.Position.{Position}
use Rattle.bptree_nodes.specs.Inner.{Inner}
use Rattle.bptree_nodes.specs.Leaf.{Leaf}
use Rattle.bptree_nodes.specs.Slot.{Slots}
use Rattle.bptree_invariant.specs.NodeTree.{NodeTree}
use Rattle.std.specs.Borrow.{Bor}
use Rattle.std.specs.Option.{option_copied}

module _ {K V : Type 0} (cmp : K → K → Ordering) where
  -- the pairs whose key is below lo, if lo is given, or is not below hi, if hi is given
  abbrev pub outside : List (K × V) → Option K → Option K → List (K × V)
  outside l lo hi = filter (λ pair. not (not (falls_short cmp lo pair.0) && stays_below cmp hi pair.0)) l

  module _ (lo hi : Option K) where
    -- the first pair between two keys was removed and no other was, or there was no such pair
    abbrev pub FirstLeaves : Bool → List (K × V) → List (K × V) → Type 0
    FirstLeaves false old new = (between cmp old lo hi ≡ []) × (new ≡ old)
    FirstLeaves true old new = (pair : K × V) × (between cmp old lo hi ≡ pair ∷ between cmp new lo hi) × (outside new lo hi ≡ outside old lo hi)

  module _ (lo hi : Option (Bor K)) where
    -- the first pair between two borrowed ends was removed and no other was, or there was no such
    -- pair
    abbrev pub FirstBetweenLeaves : List (K × V) → List (K × V) → Bool → Type 0
    FirstBetweenLeaves old new found = FirstLeaves (option_copied lo) (option_copied hi) found old new

    -- the pairs that are left are those that are not between the ends
    abbrev pub KeepsOutside : List (K × V) → List (K × V) → Type 0
    KeepsOutside old new = new ≡ outside old (option_copied lo) (option_copied hi)

    -- if no pair is between the ends, no pair is found
    abbrev pub FindsNoneBetween : {E : Type 0} → List (K × V) → Result Bool E → Type 0
    FindsNoneBetween old result = between cmp old (option_copied lo) (option_copied hi) ≡ [] → result ≡ Ok false

    -- if no pair is between the ends, 0 is returned and nothing changes
    abbrev pub KeepsAllIfNone : {E : Type 0} → List (K × V) → List (K × V) → Result ℕ E → Type 0
    KeepsAllIfNone old new result = between cmp old (option_copied lo) (option_copied hi) ≡ [] → (result ≡ Ok 0) × (new ≡ old)

-- the pairs from one position up to another were removed from a tree
abbrev pub DropsBetween : {S K V A : Type 0} → (S → Slots (Inner K A) (Leaf K V)) → Position → Position → NodeTree S K V A → NodeTree S K V A → Type 0
DropsBetween slots lo hi old new = new.contents ≡ without_part (index_of_position slots old lo) (index_of_position slots old hi) old.contents

-- everything is ready to drop the pairs from one position up to another, or these are all pairs
abbrev pub PlansDrop : {S K V A : Type 0} → (K → K → Ordering) → (A → List K → Type 0) → (S → Slots (Inner K A) (Leaf K V)) → NodeTree S K V A → Position → Position → Option (Removal S K V A) → Type 0
PlansDrop cmp is_summary slots tree lo hi None = (index_of_position slots tree lo ≡ 0) × (index_of_position slots tree hi ≡ length tree.contents)
PlansDrop cmp is_summary slots tree lo hi (Some removal) = IsRemovalBetween cmp is_summary slots tree lo hi removal
