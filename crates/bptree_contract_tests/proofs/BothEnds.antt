-- Items that are taken from both ends of a list.
use Rattle.std.proofs.Common.{◌≡◌, ◌∙◌, ◌<◌, ◌∷◌, ◌++◌, List, [], Option, Some, None, ap, length, sym, slice_get, arith}
use Rattle.std.proofs.lemmas.List.{length-append}
use Rattle.std.specs.Borrow.{Bor}
use Rattle.std.specs.Map.Iter.{TakesFirst, TakesLast, deref}
use Rattle.bptree_nodes.proofs.Pairs.{last_apart}
use Rattle.bptree_contract_tests.specs.Words.{BorrowsEnds}

-- Lemma: if a list has two items or more, the first one is taken, and then the last one.
pub ends_taken : {X : Type 0} (l t u : List X) (first last : Option (Bor X)) → 1 < length l → TakesFirst deref l first t → TakesLast deref t last u → BorrowsEnds l (first, last, length u)
ends_taken l t u None last many taken rest = absurd (omega (arith, many, ap length taken.0))
ends_taken l t u (Some a) None many taken rest = absurd (omega (arith, many, ap length taken, ap length rest.0))
ends_taken l t u (Some a) (Some b) many taken rest =
    let all : l ≡ (a.now ∷ u) ++ b.now ∷ [] = taken ∙ ap (λ t. a.now ∷ t) rest in
    (sym (ap (λ l. slice_get l 0) taken), sym (last_apart l (a.now ∷ u) b.now all).0, omega (arith, ap length all, length-append u (b.now ∷ [])))
