-- A list of clones of pairs is the list itself, if only equal keys compare as equal.
use Rattle.std.proofs.Common.{◌≡◌, ℕ, List, [], ◌∷◌, refl, sym}
use Rattle.std.specs.declared.cmp.Ordering.{Ordering}
use Rattle.std.specs.declared.cmp.Ordering.TheVariants.{Equal}
use Rattle.std.specs.List.{AllZip}
use Rattle.std.proofs.lemmas.Map.Lookups.{CmpEqualImpliesEq}

pub cloned_same : {K : Type 0} (cmp : K → K → Ordering) (exact : CmpEqualImpliesEq cmp) (l m : List (K × ℕ)) → AllZip (λ p q. (cmp p.0 q.0 ≡ Equal) × (q.1 ≡ p.1)) l m → m ≡ l
cloned_same cmp exact [] [] all = refl
cloned_same cmp exact [] (q ∷ m) all = absurd all
cloned_same cmp exact (p ∷ l) [] all = absurd all
cloned_same cmp exact (p ∷ l) (q ∷ m) all =
    let key : p.0 ≡ q.0 = exact p.0 q.0 all.0.0 in
    let rest = cloned_same cmp exact l m all.1 in
    rw (rest, all.0.1, sym key) refl
