-- The pair at an index is removed by a key that equals its key.
use Rattle.std.proofs.Common.{◌≡◌, ℕ, List, refl, sym, ◌∙◌, Some, slice_get}
use Rattle.std.specs.declared.cmp.Ordering.{Ordering}
use Rattle.std.specs.declared.cmp.Ordering.TheVariants.{Less, Equal, Greater}
use Rattle.std.specs.Cmp.{IsTotalOrder}
use Rattle.std.specs.List.{remove}
use Rattle.bptree_keys.specs.Contents.{IsAscending, del}
use Rattle.bptree_keys.proofs.Ascending.{greater_turned}
use Rattle.bptree_keys.proofs.Found.{hit_at}
use Rattle.bptree_keys.proofs.Parted.{del_hit}
use Rattle.bptree_invariant.proofs.Ordered.{by_cases}

-- a key equals itself
pub alike : {K : Type 0} {cmp : K → K → Ordering} → IsTotalOrder cmp → (k : K) → cmp k k ≡ Equal
alike {cmp = cmp} total k =
    by_cases (cmp k k) (λ e. let z : Less ≡ Greater = sym e ∙ greater_turned cmp total k k e in cc) (λ e. e)
    (λ e. let z : Greater ≡ Less = sym e ∙ (total.antisymm k k ∙ rw e refl) in cc)

pub deleted_by : {K V : Type 0} {cmp : K → K → Ordering} → IsTotalOrder cmp → (pairs : List (K × V)) (i : ℕ) (pair : K × V) (k : K) → IsAscending cmp pairs → slice_get pairs i ≡ Some pair → cmp pair.0 k ≡ Equal → remove pairs i ≡ del cmp pairs k
deleted_by {cmp = cmp} total pairs i pair k sorted read equal = sym (del_hit cmp pairs _ _ _ k (hit_at cmp total pairs sorted k i pair (rw read equal)).1)

-- the pair at an index is removed by its own key
pub deleted_at : {K V : Type 0} {cmp : K → K → Ordering} → IsTotalOrder cmp → (pairs : List (K × V)) (i : ℕ) (pair : K × V) → IsAscending cmp pairs → slice_get pairs i ≡ Some pair → remove pairs i ≡ del cmp pairs pair.0
deleted_at total pairs i pair sorted read = deleted_by total pairs i pair pair.0 sorted read (alike total pair.0)
