-- Pairs by their index, as counts select them.
use Rattle.std.proofs.Common.{◌≡◌, ◌≤◌, ◌∙◌, ℕ, zero, suc, ◌<◌, List, [], ◌∷◌, length, Option, Some, None, Result, Ok, Err, IfErr, IfOk, Bor, ap, subst, sym, refl, arith}
use mathlib.Core.Bool.{false≢true}
use Rattle.std.specs.Prelude.{IsOk}
use Rattle.std.specs.declared.cmp.Ordering.{Ordering}
use Rattle.std.specs.List.{remove, slice_get}
use Rattle.std.specs.Option.{option_map}
use Rattle.std.specs.Map.{values_of}
use Rattle.std.proofs.lemmas.Map.Entries.{length-keys_of}
use Rattle.std.proofs.lemmas.Option.{slice_get_past}
use Rattle.bptree_arguments.specs.CountLaws.{SelectsIndex}
use Rattle.bptree_search.specs.ByArgument.{IsSelected, IsTaken}
use Rattle.bptree_tree.specs.Cursor.{PointsAt, ShowsValueOf}
use Rattle.bptree_tree.specs.Selected.{PointsAtSelected}
use Rattle.bptree_tree.specs.declared.cursor.Cursor.{Cursor}

-- the pair that an index selects is the one there; past the end it is `None`
pub selected_is : {K V : Type 0} (i : ℕ) (pairs : List (K × V)) (found : Option (K × V)) → IsSelected SelectsIndex i pairs found → found ≡ slice_get pairs i
selected_is i pairs found (None, within, selects, is) = is ∙ sym (slice_get_past pairs i (rw (length-keys_of pairs) at selects))
selected_is i pairs found (Some index, within, selects, is) = is ∙ ap (slice_get pairs) selects.0

-- the pair that is taken at an index within the list is removed from it
pub taken_is : {K V : Type 0} (i : ℕ) (old new : List (K × V)) (outcome : Option (K × V)) → i < length old → IsTaken SelectsIndex i old new outcome → (outcome ≡ slice_get old i) × (new ≡ remove old i)
taken_is i old new outcome there (None, within, selects, is, rest) = absurd (omega (arith, there, length-keys_of old, selects))
taken_is i old new outcome there (Some index, within, selects, is, rest) = (is ∙ ap (slice_get old) selects.0, rest ∙ ap (remove old) selects.0)

-- there is no value past the end, and nothing is removed there
pub none_past : {K V : Type 0} (l : List (K × V)) (i : ℕ) → length l ≤ i → slice_get (values_of l) i ≡ None
none_past [] i past = refl
none_past (p ∷ l) zero past = absurd (omega arith)
none_past (p ∷ l) (suc i) past = none_past l i (omega arith)

pub all_stay : {X : Type 0} (l : List X) (i : ℕ) → length l ≤ i → l ≡ remove l i
all_stay [] zero past = refl
all_stay [] (suc i) past = refl
all_stay (x ∷ l) zero past = absurd (omega arith)
all_stay (x ∷ l) (suc i) past = ap (λ rest. x ∷ rest) (all_stay l i (omega arith))

-- facts about a result that is `Ok`, and about one with the only error that is possible
pub of_ok : {T E : Type 0} (r : Result T E) (P : T → Type 0) (Q : Type 0) → IsOk r → ((x : T) → P x → Q) → IfOk r P → Q
of_ok (Ok x) P Q ok turns holds = turns x holds
of_ok (Err e) P Q ok turns holds = absurd (false≢true ok)

pub of_err : {T E P Q : Type 0} (r : Result T E) (only : E) → IfErr r (λ e. e ≡ only → P) → IfErr r (λ e. e ≡ only) → (P → Q) → IfErr r (λ e. (e ≡ only) × Q)
of_err (Ok x) only so is turns = tt
of_err (Err e) only so is turns = (is, turns (so is))

-- the cursor on the pair that an index selects is on the pair there
pub cursor_is : {K V : Type 0} (cmp : K → K → Ordering) (i : ℕ) (pairs : List (K × V)) (outcome : Option (Cursor K × Bor V)) → PointsAtSelected SelectsIndex i pairs cmp outcome → PointsAt cmp (slice_get pairs i) outcome × ShowsValueOf (slice_get pairs i) outcome
cursor_is cmp i pairs None at =
    let same = selected_is i pairs at.pair at.selected in
    (subst (λ pair. PointsAt cmp pair None) same at.cursor, at.value ∙ ap (option_map (λ pair. pair.1)) same)
cursor_is cmp i pairs (Some found) at =
    let same = selected_is i pairs at.pair at.selected in
    (subst (λ pair. PointsAt cmp pair (Some found)) same at.cursor, at.value ∙ ap (option_map (λ pair. pair.1)) same)
