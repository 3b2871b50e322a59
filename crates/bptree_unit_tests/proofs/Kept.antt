-- The pairs of a leaf that a closure keeps whose calls all return the same.
use Rattle.std.proofs.Common.{◌≡◌, ◌∙◌, Bool, true, false, cond, List, [], ◌∷◌, append-nil, refl, sym}
use Rattle.std.specs.Borrow.{Bor, MutBor}
use Rattle.std.specs.Fn.{Mut}
use Rattle.bptree_nodes.specs.Retaining.{CallsAtPair, IsRetained, RetainsFirst}

module _ {F K V : Type 0} (calls : Mut F (Bor K × (MutBor V × Unit {0})) (Bool × (MutBor V × Unit {0}))) where
  module _ (outcomes : (f : F) (pair : K × V) (stays : Bool) (after : F) (left : K × V) → CallsAtPair calls f pair stays after left → (stays ≡ true) × (left ≡ pair)) where
    all_stay : (f : F) (old new : List (K × V)) → IsRetained calls f old new → new ≡ old
    all_stay f [] new kept = kept
    all_stay f (pair ∷ old) new (stays, after, left, call, rest, kept, is) =
        let reported = outcomes f pair stays after left call in
        let more = all_stay after old rest kept in
        is ∙ (λ i. cond (reported.0 i) (reported.1 i ∷ more i) (more i))

    pub all_kept : (f : F) (old : List (K × V)) (after : F) (new : List (K × V)) → RetainsFirst calls f old after new → new ≡ old
    all_kept f old after new retained = sym (append-nil new) ∙ (all_stay f _ _ (retained [] [] refl) ∙ append-nil old)

  module _ (outcomes : (f : F) (pair : K × V) (stays : Bool) (after : F) (left : K × V) → CallsAtPair calls f pair stays after left → stays ≡ false) where
    none_stays : (f : F) (old new : List (K × V)) → IsRetained calls f old new → new ≡ []
    none_stays f [] new kept = kept
    none_stays f (pair ∷ old) new (stays, after, left, call, rest, kept, is) =
        let reported = outcomes f pair stays after left call in
        let more = none_stays after old rest kept in
        is ∙ (λ i. cond (reported i) (left ∷ more i) (more i))

    pub none_kept : (f : F) (old : List (K × V)) (after : F) (new : List (K × V)) → RetainsFirst calls f old after new → new ≡ []
    none_kept f old after new retained = sym (append-nil new) ∙ none_stays f _ _ (retained [] [] refl)
