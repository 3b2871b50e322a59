-- Statements of callers about lists, trees and the results of calls.
use Rattle.std.specs.Prelude.{◌≡◌, ◌<◌, ◌≤◌, ◌-◌, ◌*◌, ◌^◌, ◌||◌, ℕ, Bool, true, false, List, [], ◌∷◌, ◌++◌, Option, Some, None, Result, IfOk, IfSome, IsOkUnless, length, slice_get}
use Rattle.std.specs.Borrow.{Bor}
use Rattle.std.specs.declared.cmp.Ordering.{Ordering}
use Rattle.std.specs.declared.cmp.Ordering.TheVariants.{Equal}
use Rattle.std.specs.Map.{keys_of}
use Rattle.std.specs.Map.Iter.{deref_pair}
use Rattle.std.specs.Option.{option_copied, option_map, IsSomeAnd}
use Rattle.bptree_arguments.specs.Visits.{VisitResult, invalid_child}
use Rattle.bptree_arguments.specs.declared.visit.DescendError.{DescendError}
use Rattle.bptree_arguments.specs.declared.visit.DescendError.TheVariants.{OutOfMemory}
use Rattle.bptree_propagation.specs.Borrowing.{written}
use Rattle.bptree_propagation.specs.NodeTree.{NodeTree}
use Rattle.bptree_keys.specs.Contents.{has, value, put, del, pairs_below, pairs_above, previous}
use Rattle.bptree_keys.specs.Neighbours.{IsBefore}
use Rattle.bptree_keys.specs.Ranges.{between}
use Rattle.bptree_keys.specs.declared.node_id.NodeId.{NodeId}
use Rattle.bptree_load_plan.specs.Loading.{last_value}
use Rattle.bptree_map.specs.Keys.{holds, keys_between, keys_within, keys_without, with_key}
use Rattle.bptree_set.specs.Union.{union}
use Rattle.bptree_nodes.specs.Inner.{Inner}
use Rattle.bptree_nodes.specs.Leaf.{Leaf, set_value_at}
use Rattle.bptree_nodes.specs.Slot.{Slots, IsPresent}
use Rattle.bptree_invariant.specs.Shape.{IsWellShaped, leaf_count, inner_count, leaf_pairs, pairs_at}
use Rattle.bptree_tree.specs.Cursor.{cursor_key, pair_before}
use Rattle.bptree_tree.specs.Entries.{entry}
use Rattle.bptree_tree.specs.Whole.{HasSameNodes, pairs_of_nodes}
use Rattle.bptree_tree.specs.declared.cursor.Cursor.{Cursor}

-- ---- the result of a call

module _ {X E : Type 0} where
  -- If the call found something, P holds of it.
  abbrev pub IfFound : Result (Option X) E → (X → Type 0) → Type 0
  IfFound result P = IfOk result (λ found. IfSome found P)

  -- Unless the call failed, it found something, and P holds of it.
  abbrev pub FindsOne : Result (Option X) E → (X → Type 0) → Type 0
  FindsOne result P = IfOk result (λ found. IsSomeAnd found P)

module _ {E : Type 0} where
  -- If the call returned true, or false, P holds.
  abbrev pub OnTrue : Result Bool E → Type 0 → Type 0
  OnTrue result P = IfOk result (λ it. it ≡ true → P)

  abbrev pub OnFalse : Result Bool E → Type 0 → Type 0
  OnFalse result P = IfOk result (λ it. it ≡ false → P)

  -- If the call returned 0, P holds.
  abbrev pub OnZero : Result ℕ E → Type 0 → Type 0
  OnZero result P = IfOk result (λ it. it ≡ 0 → P)

-- A descent fails only if an allocation fails.
abbrev pub IsOkOrFailed : {X : Type 0} → Result X DescendError → Type 0
IsOkOrFailed result = IsOkUnless result OutOfMemory

-- The visitor does not allow a child that does not exist.
abbrev pub NeverMisses : {W P R : Type 0} → (W → List P → VisitResult R → Type 0) → W → List P → Type 0
NeverMisses outcomes visitor l = outcomes visitor l invalid_child → ⊥

-- ---- short lists

module _ {X : Type 0} where
  -- Of two members the first was removed and returned, or the last.
  abbrev pub PopsFirstOfTwo : List X → List X → Option X → Type 0
  PopsFirstOfTwo old new reported = (a b : X) → old ≡ a ∷ b ∷ [] → (reported ≡ Some a) × (new ≡ b ∷ [])

  abbrev pub PopsLastOfTwo : List X → List X → Option X → Type 0
  PopsLastOfTwo old new reported = (a b : X) → old ≡ a ∷ b ∷ [] → (reported ≡ Some b) × (new ≡ a ∷ [])

  -- Of three members the one in the middle was removed and returned.
  abbrev pub TakesMiddleOfThree : List X → List X → Option X → Type 0
  TakesMiddleOfThree old new reported = (a b c : X) → old ≡ a ∷ b ∷ c ∷ [] → (reported ≡ Some b) × (new ≡ a ∷ c ∷ [])

  -- Of two members the first and the last were returned.
  abbrev pub AreEndsOfTwo : List X → Option X → Option X → Type 0
  AreEndsOfTwo l first last = (a b : X) → l ≡ a ∷ b ∷ [] → (first ≡ Some a) × (last ≡ Some b)

  -- Of a list of two or more, the first and the last were borrowed, and `reported.2` are left.
  abbrev pub BorrowsEnds : List X → Option (Bor X) × Option (Bor X) × ℕ → Type 0
  BorrowsEnds l reported = (option_copied reported.0 ≡ slice_get l 0) × (option_copied reported.1 ≡ slice_get l (length l - 1)) × (reported.2 ≡ length l - 2)

-- The pair that was returned is one of the list.
abbrev pub IsOneOf : {X : Type 0} → List X → X → Type 0
IsOneOf l x = (i : ℕ) × (slice_get l i ≡ Some x)

-- A tree with this number of levels above its leaves has at least this number of pairs.
abbrev pub AllowsLevels : {X : Type 0} → List X → ℕ → Type 0
AllowsLevels l levels = 0 < levels → 32 * 17 ^ (levels - 1) ≤ length l

-- ---- pairs

module _ {K V : Type 0} where
  -- The value of the pair that was returned, and its key.
  abbrev pub reported_value : Option (K × V) → Option V
  reported_value reported = option_map (λ (pair : K × V). pair.1) reported

  abbrev pub reported_key : Option (K × V) → Option K
  reported_key reported = option_map (λ (pair : K × V). pair.0) reported

  -- The borrowed pair is the one at an index of a list, and `None` if the list has no such index.
  abbrev pub BorrowsAt : Option (Bor K × Bor V) → List (K × V) → ℕ → Type 0
  BorrowsAt reported l index = option_map deref_pair reported ≡ slice_get l index

  -- The same ends are borrowed.
  abbrev pub ShowsTheSame : Option (Bor K × Bor V) × Option (Bor K × Bor V) → Option (Bor K × Bor V) × Option (Bor K × Bor V) → Type 0
  ShowsTheSame reported other = (option_map deref_pair reported.0 ≡ option_map deref_pair other.0) × (option_map deref_pair reported.1 ≡ option_map deref_pair other.1)

  -- Two borrowed pairs are the ends of a list of two.
  abbrev pub ShowsEndsOfTwo : List (K × V) → Option (Bor K × Bor V) × Option (Bor K × Bor V) → Type 0
  ShowsEndsOfTwo l reported = AreEndsOfTwo l (option_map deref_pair reported.0) (option_map deref_pair reported.1)

  -- The value is written at an index that the query selects.
  abbrev pub WritesSome : {Q : Type 0} → (Q → List K → Option ℕ → Type 0) → Q → V → List (K × V) → List (K × V) → Type 0
  WritesSome selects query v old new = (i : ℕ) × selects query (keys_of old) (Some i) × (new ≡ set_value_at old i v)

  -- The query selects an index of the list, or it selects `None`.
  abbrev pub AllowsSome : {Q : Type 0} → (Q → List K → Option ℕ → Type 0) → Q → List (K × V) → Type 0
  AllowsSome selects query l = (i : ℕ) × (i < length l) × selects query (keys_of l) (Some i)

  abbrev pub AllowsNone : {Q : Type 0} → (Q → List K → Option ℕ → Type 0) → Q → List (K × V) → Type 0
  AllowsNone selects query l = selects query (keys_of l) None

  module _ (cmp : K → K → Ordering) where
    -- The pairs from one key on and below another, the pairs below a key, and the keys from a key
    -- on.
    abbrev pub between_keys : List (K × V) → K → K → List (K × V)
    between_keys l lo hi = between cmp l (Some lo) (Some hi)

    abbrev pub pairs_upto_key : List (K × V) → K → List (K × V)
    pairs_upto_key l hi = between cmp l None (Some hi)

    abbrev pub keys_from : List (K × V) → K → List K
    keys_from l k = keys_of (between cmp l (Some k) None)

    -- A value is the one at a key.
    abbrev pub HasValue : List (K × V) → K → V → Type 0
    HasValue l k v = value cmp l k ≡ Some v

    -- The borrowed value is the one at a key, and `None` if the key is absent.
    abbrev pub ReadsAt : List (K × V) → K → Option (Bor V) → Type 0
    ReadsAt l k reported = option_copied reported ≡ value cmp l k

    -- A cursor with a value is at a key that equals k.
    abbrev pub IsOn : K → Cursor K × Bor V → Type 0
    IsOn k found = cmp (cursor_key found.0) k ≡ Equal

    -- The new pair is between the pairs with smaller keys and those with greater keys.
    abbrev pub AddsBetween : K → V → List (K × V) → List (K × V) → Type 0
    AddsBetween k v old new = new ≡ pairs_below cmp old k ++ (k, v) ∷ pairs_above cmp old k

    -- Of two pairs the first was put, and then the second.
    abbrev pub PutsTwoInTurn : List (K × V) → List (K × V) → List (K × V) → Type 0
    PutsTwoInTurn pairs old new = (p q : K × V) → pairs ≡ p ∷ q ∷ [] → new ≡ put cmp (put cmp old p.0 p.1) q.0 q.1

    -- Of the pairs with equal keys the list has the value of the last one.
    abbrev pub PutsLastOfEach : List (K × V) → List (K × V) → Type 0
    PutsLastOfEach pairs new =
        (before after : List (K × V)) → (pair : K × V) → pairs ≡ before ++ pair ∷ after → has cmp after pair.0 ≡ false → value cmp new pair.0 ≡ Some pair.1

    -- Of the pairs with equal keys the list has a clone of the value of the last one.
    abbrev pub PutsCloneOfLast : (V → V → Type 0) → List (K × V) → List (K × V) → Type 0
    PutsCloneOfLast is_clone pairs new =
        (before after : List (K × V)) → (pair : K × V) → pairs ≡ before ++ pair ∷ after → has cmp after pair.0 ≡ false → IsSomeAnd (value cmp new pair.0) (is_clone pair.1)

    -- At each key the list has the value of the last pair with an equal key.
    abbrev pub HasLastValues : List (K × V) → List (K × V) → Type 0
    HasLastValues pairs new = (k : K) → value cmp new k ≡ last_value cmp pairs k

    -- The key before a cursor after the pair with key k was removed.
    abbrev pub key_before_without : List (K × V) → K → Cursor K → Option K
    key_before_without l k cursor = reported_key (pair_before cmp (del cmp l k) cursor)

    -- The previous pair of a key is the nearest one below the key.
    abbrev pub StepsBackTo : List (K × V) → K → Type 0
    StepsBackTo l k = IsBefore cmp l k (previous cmp l k)

    -- A key is present after a change if and only if it was present before.
    abbrev pub AgreesOn : List (K × V) → List (K × V) → K → Type 0
    AgreesOn old new k = has cmp new k ≡ has cmp old k

    -- Each key is present after a change if and only if it was present before.
    abbrev pub HasSameKeys : List (K × V) → List (K × V) → Type 0
    HasSameKeys old new = (k : K) → AgreesOn old new k

    -- Keys that no pair has keep their values.
    abbrev pub KeepsOthers : List (K × V) → List (K × V) → List (K × V) → Type 0
    KeepsOthers pairs old new = (k : K) → has cmp pairs k ≡ false → value cmp new k ≡ value cmp old k

    -- The one pair of another map was put into this one.
    abbrev pub MovesOne : List (K × V) → List (K × V) → List (K × V) → List (K × V) → Type 0
    MovesOne old other new rest = (a : K × V) → other ≡ a ∷ [] → (new ≡ put cmp old a.0 a.1) × (rest ≡ [])

-- ---- keys

-- The borrowed key is the one at an index of a list, and `None` if the list has no such index.
abbrev pub BorrowsKeyAt : {K : Type 0} → Option (Bor K) → List K → ℕ → Type 0
BorrowsKeyAt reported keys index = option_copied reported ≡ slice_get keys index

module _ {K : Type 0} (cmp : K → K → Ordering) where
  -- The keys from one key on and below another.
  abbrev pub held_between : List K → K → K → List K
  held_between keys lo hi = keys_between cmp keys (Some lo) (Some hi)

  -- A key is held if and only if one of the two lists holds it.
  abbrev pub HoldsEither : List K → List K → List K → Type 0
  HoldsEither first second keys = (k : K) → holds cmp keys k ≡ holds cmp first k || holds cmp second k

  -- The union of a pair of sets.
  abbrev pub union_of : List K × List K → List K
  union_of sets = union cmp sets.0 sets.1

  -- The keys of the first set that the second lacks, or holds.
  abbrev pub left_without : List K × List K → List K
  left_without sets = keys_without cmp sets.0 sets.1

  abbrev pub left_within : List K × List K → List K
  left_within sets = keys_within cmp sets.0 sets.1

  -- The one key of another set was put into this one.
  abbrev pub MovesOneKey : List K → List K → List K → List K → Type 0
  MovesOneKey old other new rest = (a : K) → other ≡ a ∷ [] → (new ≡ with_key cmp old a) × (rest ≡ [])

-- ---- trees

module _ {S K V A : Type 0} where
  -- The value is written at an index of a tree that the query selects.
  abbrev pub WritesSomeIn : {Q : Type 0} → (Q → List K → Option ℕ → Type 0) → Q → V → NodeTree S K V A → NodeTree S K V A → Type 0
  WritesSomeIn selects query v old new = WritesSome selects query v old.contents new.contents

  module _ (cmp : K → K → Ordering) (k : K) where
    -- A tree does not have key k.
    abbrev pub Lacks : NodeTree S K V A → Type 0
    Lacks tree = has cmp tree.contents k ≡ false

    -- The pair with key k was removed, if there was one.
    abbrev pub Loses : NodeTree S K V A → NodeTree S K V A → Type 0
    Loses old new = new.contents ≡ del cmp old.contents k

    -- The value was written at key k, if the key is present.
    abbrev pub WritesValue : V → NodeTree S K V A → NodeTree S K V A → Type 0
    WritesValue v old new = new.contents ≡ written cmp k old.contents v

module _ {K V A : Type 0} (slots : Slots (Inner K A) (Leaf K V)) where
  -- Each leaf of a store is once in a tree, and so is each inner node.
  abbrev pub EachLeafOccursOnce : ℕ → NodeId → Type 0
  EachLeafOccursOnce height root = (n : ℕ) → IsPresent (slots.leaf n) → leaf_count slots height root n ≡ 1

  abbrev pub EachInnerOccursOnce : ℕ → NodeId → Type 0
  EachInnerOccursOnce height root = (n : ℕ) → IsPresent (slots.inner n) → inner_count slots height root n ≡ 1

  -- The number of pairs in the leaf with an id.
  abbrev pub count_in : ℕ → ℕ
  count_in number = length (leaf_pairs (slots.leaf number))

module _ {S K V A : Type 0} (slots : S → Slots (Inner K A) (Leaf K V)) where
  -- The pairs of the nodes below a root of a height in a borrowed store, and their keys.
  abbrev pub borrowed_pairs : Bor S × NodeId × ℕ → List (K × V)
  borrowed_pairs borrowed = pairs_at (slots borrowed.0.now) borrowed.2 borrowed.1

  abbrev pub borrowed_keys : Bor S × NodeId × ℕ → List K
  borrowed_keys borrowed = keys_of (borrowed_pairs borrowed)

  -- Each id of the store has the node that it had.
  abbrev pub KeepsSlots : NodeTree S K V A → NodeTree S K V A → Type 0
  KeepsSlots new old = slots new.store ≡ slots old.store

  -- The contents and the nodes of a tree are unchanged.
  abbrev pub HoldsTheSame : NodeTree S K V A → NodeTree S K V A → Type 0
  HoldsTheSame new old = (new.contents ≡ old.contents) × (slots new.store ≡ slots old.store)

  -- The contents, the nodes, the root, the height and the summary of a tree are unchanged.
  abbrev pub StaysWhole : NodeTree S K V A → NodeTree S K V A → Type 0
  StaysWhole new old = (new.contents ≡ old.contents) × HasSameNodes slots new old

  -- The nodes of a tree have these pairs.
  abbrev pub NodesHave : NodeTree S K V A → List (K × V) → Type 0
  NodesHave tree l = pairs_of_nodes slots tree ≡ l

  -- The root, the height, and the number of pairs in the leaf with an id.
  abbrev pub shown_pairs : NodeTree S K V A → ℕ → NodeId × ℕ × ℕ
  shown_pairs tree number = (tree.root, tree.height, count_in (slots tree.store) number)

  -- The nodes of a tree are a whole tree of the given root and height.
  abbrev pub IsStoredWhole : (K → K → Ordering) → (A → List K → Type 0) → NodeTree S K V A × NodeId × ℕ → Type 0
  IsStoredWhole cmp is_summary reported = IsWellShaped cmp is_summary (slots reported.0.store) reported.2 reported.1

  -- Each leaf of a clone has as many pairs as the leaf with the same id.
  abbrev pub HasLeavesAsLong : NodeTree S K V A → NodeTree S K V A → Type 0
  HasLeavesAsLong tree copy = (number : ℕ) → count_in (slots copy.store) number ≡ count_in (slots tree.store) number

-- A key is stored, with the value of the key that equals it.
abbrev pub StoresKey : {K V : Type 0} → (K → K → Ordering) → K → List (K × V) → List (K × V) → Type 0
StoresKey {V = V} cmp k old new = (v : V) × (entry cmp new k ≡ Some (k, v)) × (value cmp old k ≡ Some v)
