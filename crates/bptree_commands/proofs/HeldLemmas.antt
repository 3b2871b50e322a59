-- Steps of commands on the held cursors.
use Rattle.std.proofs.Common.{◌≡◌, ◌∙◌, ◌<◌, ℕ, zero, suc, List, [], ◌∷◌, length, map, refl, sym, ap, Option, Some, None, get_or, slice_get, slice_set}
use Rattle.std.specs.Prelude.{option_map}
use Rattle.std.specs.Cmp.{IsTotalOrder}
use Rattle.std.proofs.lemmas.Cmp.{tied_back}
use Rattle.std.proofs.lemmas.Option.{slice_get-get_or}
use Rattle.std.specs.declared.cmp.Ordering.{Ordering}
use Rattle.std.specs.declared.cmp.Ordering.TheVariants.{Equal}
use Rattle.bptree_keys.specs.declared.end.End.{End}
use Rattle.bptree_keys.specs.declared.end.End.TheVariants.{Front, Back}
use Rattle.bptree_keys.specs.declared.end.Side.{Side}
use Rattle.bptree_keys.specs.declared.end.Side.TheVariants.{Before, After}
use Rattle.bptree_keys.specs.Contents.{value, next, previous}
use Rattle.bptree_tree.specs.Cursor.{cursor_key, IsCursorAt}
use Rattle.bptree_tree.specs.declared.cursor.Cursor as cursor
use Rattle.bptree_commands.specs.Steps.{IsCopyOf, EndStep, JoinsOrStays, MovesTo, NeighbourStep, ForHeld, Step, pair_at_end, pair_beside, cursor_at_end, step_of}
use Rattle.bptree_commands.specs.declared.commands.Command.TheVariants.{Cursor}
use Rattle.bptree_commands.specs.declared.commands.Reply.{Reply}
use Rattle.bptree_commands.specs.declared.commands.Reply.TheVariants.{Value, Pair, Number, Done, Rank, Held, Walked, NoCursor, OutOfMemory, Full}

pub map-slice_set : {X Y : Type 0} (f : X → Y) (xs : List X) (n : ℕ) (x : X) → map f (slice_set xs n x) ≡ slice_set (map f xs) n (f x)
map-slice_set f [] n x = refl
map-slice_set f (y ∷ ys) zero x = refl
map-slice_set f (y ∷ ys) (suc n) x = ap (λ l. f y ∷ l) (map-slice_set f ys n x)

pub map-slice_get : {X Y : Type 0} (f : X → Y) (xs : List X) (n : ℕ) (x : X) → slice_get xs n ≡ Some x → slice_get (map f xs) n ≡ Some (f x)
map-slice_get f [] n x e = absurd (cc e)
map-slice_get f (y ∷ ys) zero x e = let same : y ≡ x = cc in ap (λ z. Some (f z)) same
map-slice_get f (y ∷ ys) (suc n) x e = map-slice_get f ys n x e

-- The key of the cursor at index n is the key at index n.
pub key_read : {K : Type 0} (cursors : List (cursor.Cursor K)) (n : ℕ) (at : cursor.Cursor K) → at ≡ get_or cursors n at → n < length cursors → slice_get (map cursor_key cursors) n ≡ Some (cursor_key at)
key_read cursors n at is within = map-slice_get cursor_key cursors n at (slice_get-get_or cursors n at within ∙ ap (λ x. Some x) (sym is))

module _ {K V : Type 0} {cmp : K → K → Ordering} (total : IsTotalOrder cmp) where
  -- A cursor at a pair, with the value there, is a copy of the pair.
  pub copy_from : {X : Type 0} (shows : X → V) (pair : Option (K × V)) (outcome : Option (cursor.Cursor K × X)) → IsCursorAt cmp pair (option_map (λ found. found.0) outcome) → option_map (λ found. shows found.1) outcome ≡ option_map (λ p. p.1) pair
      → IsCopyOf cmp pair (option_map (λ found. (cursor_key found.0, shows found.1)) outcome)
  copy_from shows None None stored same = tt
  copy_from shows None (Some found) stored same = absurd (cc stored)
  copy_from shows (Some pair) None stored same = absurd stored
  copy_from shows (Some pair) (Some found) stored same = (tied_back total (cursor_key found.0) pair.0 stored, cc same)

  -- A cursor at the pair of an end joins the held cursors.
  pub holds_end : {R : Type 0} (pair : Option (K × V)) (held held_after : List K) (key : K) (v : V) (reply : Reply K V R) → IsCopyOf cmp pair (Some (key, v)) → JoinsOrStays key (Some v) held reply held_after → EndStep cmp pair held reply held_after
  holds_end None held held_after key v reply is joins = absurd is
  holds_end (Some pair) held held_after key v (Held n found) is joins = (joins.0, joins.1 ∙ ap (λ w. Some w) is.1, (key, tied_back total pair.0 key is.0, joins.2))
  holds_end (Some pair) held held_after key v OutOfMemory is joins = joins
  holds_end (Some pair) held held_after key v (Value w) is joins = absurd joins
  holds_end (Some pair) held held_after key v (Pair p) is joins = absurd joins
  holds_end (Some pair) held held_after key v (Number n) is joins = absurd joins
  holds_end (Some pair) held held_after key v (Done b) is joins = absurd joins
  holds_end (Some pair) held held_after key v (Rank r) is joins = absurd joins
  holds_end (Some pair) held held_after key v (Walked w) is joins = absurd joins
  holds_end (Some pair) held held_after key v NoCursor is joins = absurd joins
  holds_end (Some pair) held held_after key v Full is joins = absurd joins

  -- If nothing is a copy of what an end has, the end has no pair.
  pub holds_none : (pair : Option (K × V)) → IsCopyOf cmp pair None → pair ≡ None
  holds_none None is = refl
  holds_none (Some pair) is = absurd is

  -- The cursor moves to the neighbour, and the reply has a clone of its key.
  pub moved_to : (neighbour : Option (K × V)) (held held_after : List K) (n : ℕ) (key copy : K) (v : V) → IsCopyOf cmp neighbour (Some (key, v)) → cmp key copy ≡ Equal → held_after ≡ slice_set held n key
      → MovesTo cmp neighbour held n (copy, v) held_after
  moved_to None held held_after n key copy v is equal after = absurd is
  moved_to (Some pair) held held_after n key copy v is equal after =
      (total.congr pair.0 key copy is.0 ∙ equal, is.1, key, tied_back total pair.0 key is.0, after)

module _ {K V Q R : Type 0} (cmp : K → K → Ordering) (selects : Q → List K → Option ℕ → Type 0) (ranks : K → List K → R → Type 0) (old : List (K × V)) (held held_after : List K) where
  -- A cursor at a key joins the held cursors.
  pub holds_key : (k key : K) (reported : Option V) (reply : Reply K V R) → cmp key k ≡ Equal → reported ≡ value cmp old k → JoinsOrStays key reported held reply held_after → Step cmp selects ranks old held (Cursor k) reply old held_after
  holds_key k key reported (Held n found) equal is joins = (joins.0, joins.1 ∙ is, refl, (key, equal, joins.2))
  holds_key k key reported OutOfMemory equal is joins = (refl, joins)
  holds_key k key reported (Value v) equal is joins = absurd joins
  holds_key k key reported (Pair p) equal is joins = absurd joins
  holds_key k key reported (Number n) equal is joins = absurd joins
  holds_key k key reported (Done b) equal is joins = absurd joins
  holds_key k key reported (Rank r) equal is joins = absurd joins
  holds_key k key reported (Walked w) equal is joins = absurd joins
  holds_key k key reported NoCursor equal is joins = absurd joins
  holds_key k key reported Full equal is joins = absurd joins

  -- A step of a held cursor to its neighbour is a step for the cursor of that number.
  neighbour_step : (neighbour : Option (K × V)) (n : ℕ) (k : K) (P : K → Type 0) (reply : Reply K V R) → slice_get held n ≡ Some k → NeighbourStep cmp neighbour held n reply held_after → P k → ForHeld held n reply held_after P
  neighbour_step neighbour n k P (Pair pair) there step is = (k, there, is)
  neighbour_step neighbour n k P OutOfMemory there step is = (k, there, is)
  neighbour_step neighbour n k P (Value v) there step is = absurd step
  neighbour_step neighbour n k P (Held m v) there step is = absurd step
  neighbour_step neighbour n k P (Number m) there step is = absurd step
  neighbour_step neighbour n k P (Done b) there step is = absurd step
  neighbour_step neighbour n k P (Rank r) there step is = absurd step
  neighbour_step neighbour n k P (Walked w) there step is = absurd step
  neighbour_step neighbour n k P NoCursor there step is = absurd step
  neighbour_step neighbour n k P Full there step is = absurd step

  pub beside_step : (side : Side) (n : ℕ) (k : K) (reply : Reply K V R) → slice_get held n ≡ Some k → NeighbourStep cmp (pair_beside cmp side old k) held n reply held_after
      → Step cmp selects ranks old held (step_of side n) reply old held_after
  beside_step After n k reply there step = (refl, neighbour_step (next cmp old k) n k (λ key. NeighbourStep cmp (next cmp old key) held n reply held_after) reply there step step)
  beside_step Before n k reply there step = (refl, neighbour_step (previous cmp old k) n k (λ key. NeighbourStep cmp (previous cmp old key) held n reply held_after) reply there step step)

  -- A step of an end is the step of the command for that end.
  pub end_step : (end : End) (reply : Reply K V R) → EndStep cmp (pair_at_end end old) held reply held_after → Step cmp selects ranks old held (cursor_at_end end) reply old held_after
  end_step Front reply step = (refl, step)
  end_step Back reply step = (refl, step)
