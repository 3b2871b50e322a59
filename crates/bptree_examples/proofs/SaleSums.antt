-- Sums of the amounts of pieces.
use Rattle.std.proofs.Common.{◌≡◌, ◌-◌, ◌^◌, min, List, [], ◌∷◌, refl, arith}
use Rattle.std.specs.List.{AllZip, sum_by}
use Rattle.std.proofs.lemmas.List.Sums.{sum_by-append, sum_by-cons}
use Rattle.bptree_keys.specs.Pieces.{flatten}
use Rattle.bptree_examples.specs.Sales.{sum_of_amounts}
use Rattle.bptree_examples.specs.declared.uses.revenue.Sale.{Sale}
use Rattle.bptree_examples.specs.declared.uses.revenue.Revenue.{Revenue}

-- The saturating sum of saturating sums is the saturating sum of all amounts.
pub amounts_flat : (arguments : List Revenue) (pieces : List (List Sale)) → AllZip (λ (a : Revenue) (p : List Sale). a.0 ≡ sum_of_amounts p) arguments pieces → min (sum_by (λ (a : Revenue). a.0) arguments) (2 ^ 64 - 1) ≡ sum_of_amounts (flatten pieces)
amounts_flat [] [] all = refl
amounts_flat [] (p ∷ ps) all = absurd all
amounts_flat (a ∷ rest) [] all = absurd all
amounts_flat (a ∷ rest) (p ∷ ps) all =
    omega (arith, all.0, amounts_flat rest ps all.1, sum_by-cons (λ (b : Revenue). b.0) a rest, sum_by-append (λ (sale : Sale). sale.amount) p (flatten ps))
