-- Summaries of some keys, or `None` if there are no keys.
use Rattle.std.specs.Prelude.{◌≡◌, ℕ, ◌<◌, ◌^◌, List, [], ◌++◌, length, Option, Some, None, MatchOption, drop}
use Rattle.std.specs.Borrow.{Bor}
use Rattle.std.specs.declared.cmp.Ordering.{Ordering}
use Rattle.std.specs.List.{AllZip, slice_range}
use Rattle.std.specs.List.Sorted.{IsStrictlySortedBy}
use Rattle.std.specs.Map.{keys_of}
use Rattle.std.specs.Option.{option_copied}
use Rattle.bptree_arguments.specs.Selection.{IsIndexBelow}
use Rattle.bptree_keys.specs.Contents.{IsAscending}
use Rattle.bptree_keys.specs.Pieces.{flatten, ArePieces}
use Rattle.bptree_keys.specs.Ranges.{between}
use Rattle.bptree_keys.specs.declared.end.Side.{Side}
use Rattle.bptree_keys.specs.declared.end.Side.TheVariants.{After, Before}
use Rattle.bptree_keys.specs.declared.node_id.NodeId.{NodeId}
use Rattle.bptree_nodes.specs.Inner.{Inner}
use Rattle.bptree_nodes.specs.Leaf.{Leaf}
use Rattle.bptree_nodes.specs.Slot.{Slots}
use Rattle.bptree_invariant.specs.Shape.{pairs_at}

module _ {K A : Type 0} (is_summary : A → List K → Type 0) where
  -- a summary of the keys, of which there is at least one; or `None` if there are no keys, since no
  -- piece is empty
  abbrev pub SumsUpSome : List K → Option A → Type 0
  SumsUpSome keys None = keys ≡ []
  SumsUpSome keys (Some a) = (0 < length keys) × is_summary a keys

  module _ (cmp : K → K → Ordering) where
    -- `found` is a summary of the pieces from one index up to another, whatever pieces have these
    -- summaries
    abbrev pub SumsUpRange : List A → ℕ → ℕ → Option A → Type 0
    SumsUpRange arguments from to found = (pieces : List (List K)) → ArePieces cmp pieces → AllZip is_summary arguments pieces → SumsUpSome (flatten (slice_range pieces from to)) found

    -- `found` is a summary of two lists, one before the other, whatever lists have these summaries
    abbrev pub SumsUpBoth : Option A → Option A → Option A → Type 0
    SumsUpBoth first second found = (front back : List K) → IsStrictlySortedBy cmp (front ++ back) → length (front ++ back) < 2 ^ 64 → SumsUpSome front first → SumsUpSome back second → SumsUpSome (front ++ back) found

-- the members from one index up to another: no members if there is no first index, and all from it
-- on if there is no second
abbrev pub run_of : {X : Type 0} → List X → Option ℕ → Option ℕ → List X
run_of xs None to = []
run_of xs (Some i) None = drop i xs
run_of xs (Some i) (Some j) = slice_range xs i j

-- `a` is a summary of the keys from an index that one query selects up to an index that another
-- selects; if the first selects no index, it is a summary of no keys
abbrev pub IsPartSummary : {K A Q : Type 0} → (A → List K → Type 0) → (Q → List K → Option ℕ → Type 0) → Q → Q → List K → A → Type 0
IsPartSummary is_summary selects from to keys a =
    (i : Option ℕ) × IsIndexBelow keys i × selects from keys i
    × MatchOption i (is_summary a []) (λ _. (j : Option ℕ) × IsIndexBelow keys j × selects to keys j × is_summary a (run_of keys i j))

module _ {K V A : Type 0} (cmp : K → K → Ordering) (is_summary : A → List K → Type 0) where
  -- a summary of the keys of a list between two ends, each of which is an optional reference
  abbrev pub SumsUpBetween : List (K × V) → Option (Bor K) → Option (Bor K) → A → Type 0
  SumsUpBetween l lo hi a = is_summary a (keys_of (between cmp l (option_copied lo) (option_copied hi)))

  module _ (slots : Slots (Inner K A) (Leaf K V)) (height : ℕ) (root : NodeId) (lo hi : Option (Bor K)) where
    -- `found` is a summary of the keys of a tree between two ends, or `None` if there are no such
    -- keys
    abbrev pub SumsUpSomeBetween : Option A → Type 0
    SumsUpSomeBetween found = SumsUpSome is_summary (keys_of (between cmp (pairs_at slots height root) (option_copied lo) (option_copied hi))) found

  -- `found` is a summary of a tree's keys on one side of a key, or `None` if there are no such
  -- keys; an equal key is on the side `After`
  abbrev pub SumsUpBeside : Slots (Inner K A) (Leaf K V) → ℕ → NodeId → K → Side → Option A → Type 0
  SumsUpBeside slots height root key Before found = SumsUpSome is_summary (keys_of (between cmp (pairs_at slots height root) None (Some key))) found
  SumsUpBeside slots height root key After found = SumsUpSome is_summary (keys_of (between cmp (pairs_at slots height root) (Some key) None)) found

  -- `found` is a summary of the keys of a leaf between two ends, or `None` if there are no such
  -- keys; the leaf's pairs are assumed to ascend
  abbrev pub SumsUpSomeIn : Leaf K V → Option (Bor K) → Option (Bor K) → Option A → Type 0
  SumsUpSomeIn leaf lo hi found = IsAscending cmp leaf.pairs → SumsUpSome is_summary (keys_of (between cmp leaf.pairs (option_copied lo) (option_copied hi))) found
