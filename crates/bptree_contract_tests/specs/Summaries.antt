-- Statements of callers about summaries of keys.
use Rattle.std.specs.Prelude.{List}
use Rattle.std.specs.Map.{keys_of}
use Rattle.std.specs.declared.cmp.Ordering.{Ordering}
use Rattle.bptree_propagation.specs.NodeTree.{NodeTree}
use Rattle.bptree_keys.specs.Contents.{below, del}
use Rattle.bptree_contract_tests.specs.Words.{keys_from}

module _ {K V A : Type 0} (cmp : K → K → Ordering) (is_summary : A → List K → Type 0) (l : List (K × V)) (k : K) where
  -- Of two summaries the first is of the keys below a key, and the second of the keys from it on.
  abbrev pub SumsBelow : A × A → Type 0
  SumsBelow sums = is_summary sums.0 (below cmp l k)

  abbrev pub SumsFrom : A × A → Type 0
  SumsFrom sums = is_summary sums.1 (keys_from cmp l k)

-- The summary at a tree's root is a summary of the keys.
abbrev pub RootSumsUp : {S K V A : Type 0} → (A → List K → Type 0) → List K → NodeTree S K V A → Type 0
RootSumsUp is_summary keys tree = is_summary tree.root_argument keys

-- The summary at a tree's root is a summary of the keys of another tree without key k.
abbrev pub RootSumsUpRest : {S K V A : Type 0} → (A → List K → Type 0) → (K → K → Ordering) → K → NodeTree S K V A → NodeTree S K V A → Type 0
RootSumsUpRest is_summary cmp k old new = RootSumsUp is_summary (keys_of (del cmp old.contents k)) new
