use Rattle.std.proofs.Common.{◌≡◌, ◌<◌, ◌-◌, List, [], ◌∷◌, length, take, ap, inl, inr, sym, subst, refl, ◌∙◌, slice_get, Some, None}
use native.Mathlib.Numerals.{unary_clauses}
use Rattle.std.proofs.lemmas.Option.{slice_get_read}
use Rattle.bptree_invariant.specs.Shape.{inner_arguments}
use Rattle.bptree_propagation.proofs.ascent.stored_summary.Goals as goal

-- a list with no last member is empty
has_last : {X : Type 0} (x : X) (xs : List X) → slice_get (x ∷ xs) (length xs) ≡ None → ⊥
has_last x [] none = cc
has_last x (y ∷ ys) none = has_last y ys none

empty_of : {X : Type 0} (xs : List X) → slice_get xs (length xs - 1) ≡ None → xs ≡ []
empty_of [] none = refl
empty_of (x ∷ xs) none = absurd (has_last x xs (simp unary_clauses at none))

pub returns-in-None : goal.returns-in-None
returns-in-None g c = inr (empty_of c.args.path.now (sym c.in-None.ensures.value), refl)

pub returns-in-Some : goal.returns-in-Some
returns-in-Some g c =
    let path = c.args.path.now in
    let xs = c.arguments.result.now in
    let there = (c.requires (take (length path - 1) path) c.in-Some.id c.in-Some.index c.in-Some.field-0-2 c.in-Some.ensures.some).1 in
    let same : inner_arguments ((g.S.NodeStore.slots c.args.store.now).inner c.in-Some.id.0) ≡ xs = ap inner_arguments {x = (g.S.NodeStore.slots c.args.store.now).inner c.in-Some.id.0} c.get_inner.ensures ∙ sym c.arguments.ensures.value in
    inl (record {
      rest = take (length path - 1) path;
      id = c.in-Some.id;
      i = c.in-Some.index;
      child = c.in-Some.field-0-2;
      last = c.in-Some.ensures.some;
      kept = subst (λ l. slice_get l c.in-Some.index ≡ Some c.index-arguments-index.result) (sym same)
          (slice_get_read xs (length xs) c.in-Some.index c.index-arguments-index.result refl (subst (λ l. c.in-Some.index < length l) same there) c.index-arguments-index.is);
    })
