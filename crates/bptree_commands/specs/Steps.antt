-- The replies and the changes of commands on a tree, by the contents of the tree and the keys of
-- the held cursors.
use Rattle.std.specs.Prelude.{◌≡◌, ◌^◌, ◌-◌, ◌≤◌, ℕ, true, false, Bool, List, [], ◌∷◌, ◌++◌, length, Option, Some, None, MatchResult, is_ok, map, slice_get, slice_set}
use Rattle.std.specs.Borrow.{Bor}
use Rattle.std.specs.declared.cmp.Ordering.{Ordering}
use Rattle.std.specs.declared.cmp.Ordering.TheVariants.{Equal}
use Rattle.std.specs.List.{AllZip}
use Rattle.std.specs.Map.{keys_of}
use Rattle.std.specs.Option.{option_map}
use Rattle.bptree_arguments.specs.Selection.{IsIndexBelow}
use Rattle.bptree_keys.specs.declared.end.End.{End}
use Rattle.bptree_keys.specs.declared.end.End.TheVariants.{Front, Back}
use Rattle.bptree_keys.specs.declared.end.Side.{Side}
use Rattle.bptree_keys.specs.declared.end.Side.TheVariants.{Before, After}
use Rattle.bptree_keys.specs.Contents.{has, value, put, del, next, previous}
use Rattle.bptree_keys.specs.Ranges.{between}
use Rattle.bptree_nodes.specs.Leaf.{set_value_at}
use Rattle.bptree_search.specs.ByArgument.{IsPartSelected, IsSelected, IsTaken}
use Rattle.bptree_propagation.specs.Borrowing.{written}
use Rattle.bptree_propagation.specs.NodeTree.{NodeTree}
use Rattle.bptree_tree.specs.Cursor.{cursor_key, PointsAt, ShowsValueOf}
use Rattle.bptree_tree.specs.declared.cursor.Cursor.{Cursor as CursorOf}
use Rattle.bptree_tree.specs.declared.InsertError as insert_error
use Rattle.bptree_tree.specs.declared.InsertError.TheVariants as refusal
use Rattle.bptree_commands.specs.declared.commands.Command.{Command}
use Rattle.bptree_commands.specs.declared.commands.Command.TheVariants.{Insert, Remove, RemoveAt, Clear, Get, Set, SetAt, First, Last, Len, At, Rank as RankOf, Cursor, CursorFirst, CursorLast, Next, Prev, Exists, Value as ValueOf, Walk, Range, RangeAt}
use Rattle.bptree_commands.specs.declared.commands.Reply.{Reply}
use Rattle.bptree_commands.specs.declared.commands.Reply.TheVariants.{Value, Pair, Number, Done, Rank, Held, Walked, NoCursor, OutOfMemory, Full}
use Rattle.bptree_commands.specs.Ends.{walked}

-- The reply to a failed insertion.
abbrev pub reply_to_failure : {K V R : Type 0} → insert_error.InsertError K V → Reply K V R
reply_to_failure (refusal.OutOfMemory k v) = OutOfMemory
reply_to_failure (refusal.Full k v) = Full

module _ {K V : Type 0} (cmp : K → K → Ordering) where
  -- The reply has the pair's value and a key that equals the pair's key.
  abbrev pub IsCopyOf : Option (K × V) → Option (K × V) → Type 0
  IsCopyOf None None = Unit {0}
  IsCopyOf (Some p) (Some q) = (cmp p.0 q.0 ≡ Equal) × (q.1 ≡ p.1)
  IsCopyOf p q = ⊥

  -- The reply has a copy of the pair, or cloning the pair's key failed.
  abbrev pub RepliesCopy : {R : Type 0} → Option (K × V) → Reply K V R → Type 0
  RepliesCopy pair (Pair copy) = IsCopyOf pair copy
  RepliesCopy pair OutOfMemory = Unit {0}
  RepliesCopy pair reply = ⊥

  -- The results are copies of the pairs that were taken.
  abbrev pub AreCopies : List (Option (K × V)) → List (Option (K × V)) → Type 0
  AreCopies taken outcomes = AllZip IsCopyOf taken outcomes

  -- The reply has copies of the pairs that were taken, or an allocation failed.
  abbrev pub RepliesWalk : {R : Type 0} → List (Option (K × V)) → Reply K V R → Type 0
  RepliesWalk taken (Walked outcomes) = AreCopies taken outcomes.items
  RepliesWalk taken OutOfMemory = Unit {0}
  RepliesWalk taken reply = ⊥

  -- The pair beside a key: the next one, or the previous one.
  abbrev pub pair_beside : Side → List (K × V) → K → Option (K × V)
  pair_beside After l k = next cmp l k
  pair_beside Before l k = previous cmp l k

  -- A cursor and a borrowed value: the cursor is at the pair beside another cursor's key, and the
  -- value is that pair's value.
  module _ {S A : Type 0} (side : Side) (tree : NodeTree S K V A) (cursor : CursorOf K) where
    abbrev pub PointsBeside : Option (CursorOf K × Bor V) → Type 0
    PointsBeside outcome = PointsAt cmp (pair_beside side tree.contents (cursor_key cursor)) outcome

    abbrev pub ShowsBeside : Option (CursorOf K × Bor V) → Type 0
    ShowsBeside outcome = ShowsValueOf (pair_beside side tree.contents (cursor_key cursor)) outcome

    -- No pair is beside the cursor's key.
    abbrev pub HasNoneBeside : Type 0
    HasNoneBeside = pair_beside side tree.contents (cursor_key cursor) ≡ None

  -- The list has the greatest length, and the key is absent.
  abbrev pub HasNoRoomFor : List (K × V) → K → Type 0
  HasNoRoomFor l k = (length l ≡ 2 ^ 64 - 1) × (has cmp l k ≡ false)

-- The first pair of a list, or the last one.
abbrev pub pair_at_end : {X : Type 0} → End → List X → Option X
pair_at_end Front l = slice_get l 0
pair_at_end Back l = slice_get l (length l - 1)

-- The commands for an end, for a side, and for what is read.
module _ {K V Q : Type 0} where
  abbrev pub cursor_at_end : End → Command K V Q
  cursor_at_end Front = CursorFirst
  cursor_at_end Back = CursorLast

  abbrev pub step_of : Side → ℕ → Command K V Q
  step_of After n = Next n
  step_of Before n = Prev n

  abbrev pub reading_of : Bool → ℕ → Command K V Q
  reading_of true n = ValueOf n
  reading_of false n = Exists n

-- A cursor with this key joins the held cursors, and the reply has its number and the value. If an
-- allocation fails, the held cursors stay.
abbrev pub JoinsOrStays : {K V R : Type 0} → K → Option V → List K → Reply K V R → List K → Type 0
JoinsOrStays key reported held (Held n found) held_after = (n ≡ length held) × (found ≡ reported) × (held_after ≡ held ++ key ∷ [])
JoinsOrStays key reported held OutOfMemory held_after = held_after ≡ held
JoinsOrStays key reported held reply held_after = ⊥

-- The reply if a cursor of that number is held, by the key of that cursor. If no such cursor is
-- held, the reply is `NoCursor`.
abbrev pub ForHeld : {K V R : Type 0} → List K → ℕ → Reply K V R → List K → (K → Type 0) → Type 0
ForHeld held n NoCursor held_after P = (length held ≤ n) × (held_after ≡ held)
ForHeld {K} held n reply held_after P = (k : K) × (slice_get held n ≡ Some k) × P k

-- A key that equals k joins the held keys at their end.
abbrev pub Joins : {K : Type 0} → (K → K → Ordering) → List K → K → List K → Type 0
Joins {K} cmp held k held_after = (key : K) × (cmp key k ≡ Equal) × (held_after ≡ held ++ key ∷ [])

module _ {K V : Type 0} (cmp : K → K → Ordering) where
  -- A cursor at a pair joins the held cursors, with number n and the pair's value.
  abbrev pub HoldsPair : Option (K × V) → List K → ℕ → Option V → List K → Type 0
  HoldsPair None held n reported held_after = ⊥
  HoldsPair (Some pair) held n reported held_after = (n ≡ length held) × (reported ≡ Some pair.1) × Joins cmp held pair.0 held_after

  -- A cursor at the pair of an end joins the held cursors. If there is no pair, or an allocation
  -- fails, the held cursors stay.
  abbrev pub EndStep : {R : Type 0} → Option (K × V) → List K → Reply K V R → List K → Type 0
  EndStep pair held (Held n reported) held_after = HoldsPair pair held n reported held_after
  EndStep pair held (Pair None) held_after = (pair ≡ None) × (held_after ≡ held)
  EndStep pair held OutOfMemory held_after = held_after ≡ held
  EndStep pair held reply held_after = ⊥

  -- Cursor n moves to a pair, and the reply has a copy of the pair.
  abbrev pub MovesTo : Option (K × V) → List K → ℕ → K × V → List K → Type 0
  MovesTo None held n copy held_after = ⊥
  MovesTo (Some pair) held n copy held_after = (cmp pair.0 copy.0 ≡ Equal) × (copy.1 ≡ pair.1) × (key : K) × (cmp key pair.0 ≡ Equal) × (held_after ≡ slice_set held n key)

  -- A step of a cursor to its neighbour. If there is a neighbour, the cursor moves there and the
  -- reply has a copy of it, or the step fails and the cursor stays. If there is no neighbour, the
  -- cursor stays.
  abbrev pub NeighbourStep : {R : Type 0} → Option (K × V) → List K → ℕ → Reply K V R → List K → Type 0
  NeighbourStep neighbour held n (Pair (Some copy)) held_after = MovesTo neighbour held n copy held_after
  NeighbourStep neighbour held n (Pair None) held_after = (neighbour ≡ None) × (held_after ≡ held)
  NeighbourStep neighbour held n OutOfMemory held_after = ((neighbour ≡ None) → ⊥) × (held_after ≡ held)
  NeighbourStep neighbour held n reply held_after = ⊥

module _ {K V Q R : Type 0} (cmp : K → K → Ordering) (selects : Q → List K → Option ℕ → Type 0) (ranks : K → List K → R → Type 0) where
  -- From `old`, a command that needs no cursor may have this reply, and leaves `new`.
  abbrev pub TreeStep : List (K × V) → Command K V Q → Reply K V R → List (K × V) → Type 0
  TreeStep old (Insert k v) (Value before) new = (HasNoRoomFor cmp old k → ⊥) × (before ≡ value cmp old k) × (new ≡ put cmp old k v)
  TreeStep old (Insert k v) OutOfMemory new = (HasNoRoomFor cmp old k → ⊥) × (has cmp old k ≡ false) × (new ≡ old)
  TreeStep old (Insert k v) Full new = HasNoRoomFor cmp old k × (new ≡ old)
  TreeStep old (Remove k) (Value gone) new = (gone ≡ value cmp old k) × (new ≡ del cmp old k)
  TreeStep old (Remove k) OutOfMemory new = (has cmp old k ≡ true) × (new ≡ old)
  TreeStep old (RemoveAt q) (Pair pair) new = IsTaken selects q old new pair
  TreeStep old (RemoveAt q) OutOfMemory new = new ≡ old
  TreeStep old Clear (Done true) new = new ≡ []
  TreeStep old Clear OutOfMemory new = new ≡ old
  TreeStep old (Get k) (Value found) new = (found ≡ value cmp old k) × (new ≡ old)
  TreeStep old (Set k v) (Done true) new = (has cmp old k ≡ true) × (new ≡ written cmp k old v)
  TreeStep old (Set k v) (Done false) new = (has cmp old k ≡ false) × (new ≡ old)
  TreeStep old (SetAt q v) (Done true) new = (i : ℕ) × IsIndexBelow old (Some i) × selects q (keys_of old) (Some i) × (new ≡ set_value_at old i v)
  TreeStep old (SetAt q v) (Done false) new = selects q (keys_of old) None × (new ≡ old)
  TreeStep old (SetAt q v) OutOfMemory new = new ≡ old
  TreeStep old First (Pair pair) new = IsCopyOf cmp (slice_get old 0) pair × (new ≡ old)
  TreeStep old First OutOfMemory new = new ≡ old
  TreeStep old Last (Pair pair) new = IsCopyOf cmp (slice_get old (length old - 1)) pair × (new ≡ old)
  TreeStep old Last OutOfMemory new = new ≡ old
  TreeStep old Len (Number n) new = (n ≡ length old) × (new ≡ old)
  TreeStep old (At q) (Pair pair) new = ((found : Option (K × V)) × IsSelected selects q old found × IsCopyOf cmp found pair) × (new ≡ old)
  TreeStep old (At q) OutOfMemory new = new ≡ old
  TreeStep old (RankOf k) (Rank rank) new = MatchResult rank (ranks k (keys_of old)) (ranks k (keys_of old)) × (is_ok rank ≡ has cmp old k) × (new ≡ old)
  TreeStep old (RankOf k) OutOfMemory new = new ≡ old
  TreeStep old (Walk word) (Walked outcomes) new = AreCopies cmp (walked word.items old) outcomes.items × (new ≡ old)
  TreeStep old (Walk word) OutOfMemory new = new ≡ old
  TreeStep old (Range lo hi word) (Walked outcomes) new = AreCopies cmp (walked word.items (between cmp old lo hi)) outcomes.items × (new ≡ old)
  TreeStep old (Range lo hi word) OutOfMemory new = new ≡ old
  TreeStep old (RangeAt q n word) (Walked outcomes) new = ((part : List (K × V)) × IsPartSelected selects q old n part × AreCopies cmp (walked word.items part) outcomes.items) × (new ≡ old)
  TreeStep old (RangeAt q n word) OutOfMemory new = new ≡ old
  -- No other reply is possible.
  TreeStep old command reply new = ⊥

  -- From `old` and the keys of the held cursors, the command may have this reply. It leaves `new`
  -- and the keys `held_after`.
  abbrev pub Step : List (K × V) → List K → Command K V Q → Reply K V R → List (K × V) → List K → Type 0
  Step old held (Cursor k) (Held n reported) new held_after = (n ≡ length held) × (reported ≡ value cmp old k) × (new ≡ old) × Joins cmp held k held_after
  Step old held (Cursor k) OutOfMemory new held_after = (new ≡ old) × (held_after ≡ held)
  Step old held (Cursor k) reply new held_after = ⊥
  Step old held CursorFirst reply new held_after = (new ≡ old) × EndStep cmp (slice_get old 0) held reply held_after
  Step old held CursorLast reply new held_after = (new ≡ old) × EndStep cmp (slice_get old (length old - 1)) held reply held_after
  Step old held (Next n) reply new held_after = (new ≡ old) × ForHeld held n reply held_after (λ k. NeighbourStep cmp (next cmp old k) held n reply held_after)
  Step old held (Prev n) reply new held_after = (new ≡ old) × ForHeld held n reply held_after (λ k. NeighbourStep cmp (previous cmp old k) held n reply held_after)
  Step old held (Exists n) reply new held_after = (new ≡ old) × ForHeld held n reply held_after (λ k. (reply ≡ Done (has cmp old k)) × (held_after ≡ held))
  Step old held (ValueOf n) reply new held_after = (new ≡ old) × ForHeld held n reply held_after (λ k. (reply ≡ Value (value cmp old k)) × (held_after ≡ held))
  -- A command that needs no cursor leaves the held cursors.
  Step old held command reply new held_after = TreeStep old command reply new × (held_after ≡ held)

  -- The commands may have these replies, one step after another.
  abbrev pub Run : List (K × V) → List K → List (Command K V Q) → List (Reply K V R) → List (K × V) → List K → Type 0
  Run old held [] [] new held_after = (new ≡ old) × (held_after ≡ held)
  Run old held (command ∷ commands) (reply ∷ replies) new held_after =
      (mid : List (K × V)) × (held_mid : List K) × Step old held command reply mid held_mid × Run mid held_mid commands replies new held_after
  Run old held [] (reply ∷ replies) new held_after = ⊥
  Run old held (command ∷ commands) [] new held_after = ⊥

-- ---- the replies of calls on a tree

-- The keys of the held cursors.
abbrev pub held_keys : {K : Type 0} → List (CursorOf K) → List K
held_keys cursors = map cursor_key cursors

module _ {S K V Q R A : Type 0} (cmp : K → K → Ordering) (selects : Q → List K → Option ℕ → Type 0) (ranks : K → List K → R → Type 0) where
  -- A call that reads a tree replies as the command does.
  abbrev pub Reads : NodeTree S K V A → Command K V Q → Reply K V R → Type 0
  Reads tree command reply = TreeStep cmp selects ranks tree.contents command reply tree.contents

  -- A call that changes a tree replies as the command does.
  abbrev pub Changes : NodeTree S K V A → NodeTree S K V A → Command K V Q → Reply K V R → Type 0
  Changes old new command reply = TreeStep cmp selects ranks old.contents command reply new.contents

  -- A call that uses the held cursors replies as the command does.
  abbrev pub ChangesWith : NodeTree S K V A → List (CursorOf K) → Command K V Q → Reply K V R → NodeTree S K V A → List (CursorOf K) → Type 0
  ChangesWith old held command reply new held_after = Step cmp selects ranks old.contents (held_keys held) command reply new.contents (held_keys held_after)

  abbrev pub ReadsWith : NodeTree S K V A → List (CursorOf K) → Command K V Q → Reply K V R → List (CursorOf K) → Type 0
  ReadsWith tree held command reply held_after = ChangesWith tree held command reply tree held_after

  -- Calls one after another with the held cursors, and a whole run, which begins with no held
  -- cursor.
  abbrev pub RunsWith : NodeTree S K V A → List (CursorOf K) → List (Command K V Q) → List (Reply K V R) → NodeTree S K V A → List (CursorOf K) → Type 0
  RunsWith old held commands replies new held_after = Run cmp selects ranks old.contents (held_keys held) commands replies new.contents (held_keys held_after)

  abbrev pub RunsAll : NodeTree S K V A → List (Command K V Q) → List (Reply K V R) → NodeTree S K V A → Type 0
  RunsAll old commands replies new = (held : List K) × Run cmp selects ranks old.contents [] commands replies new.contents held

module _ {K V : Type 0} where
  -- The pair of a found cursor and its value.
  abbrev pub reported_pair : Option (CursorOf K × Bor V) → Option (K × V)
  reported_pair found = option_map (λ at. (cursor_key at.0, at.1.now)) found

  -- The cursor joins the held cursors, and the reply has its number and the value. If an allocation
  -- fails, the held cursors stay.
  abbrev pub CursorJoins : {R : Type 0} → CursorOf K → Option V → List (CursorOf K) → Reply K V R → List (CursorOf K) → Type 0
  CursorJoins cursor reported held reply held_after = JoinsOrStays (cursor_key cursor) reported (held_keys held) reply (held_keys held_after)

  module _ {R : Type 0} (cmp : K → K → Ordering) (found : Option (CursorOf K × Bor V)) where
    -- If the found cursor and value are a copy of a pair, the held cursor steps to it as to a
    -- neighbour.
    abbrev pub GoesTo : List (CursorOf K) → ℕ → Reply K V R → List (CursorOf K) → Type 0
    GoesTo held n reply held_after = (pair : Option (K × V)) → IsCopyOf cmp pair (reported_pair found) → NeighbourStep cmp pair (held_keys held) n reply (held_keys held_after)

    -- If the found cursor and value are a copy of a pair, the cursor joins the held cursors as at
    -- an end.
    abbrev pub JoinsAt : List (CursorOf K) → Reply K V R → List (CursorOf K) → Type 0
    JoinsAt held reply held_after = (pair : Option (K × V)) → IsCopyOf cmp pair (reported_pair found) → EndStep cmp pair (held_keys held) reply (held_keys held_after)
