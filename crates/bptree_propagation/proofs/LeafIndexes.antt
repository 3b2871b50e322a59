-- The slots of a leaf after an insertion, and the key that begins the right half of a cut leaf.
use Rattle.std.proofs.Common.{◌≡◌, ℕ, zero, suc, ◌<◌, ◌≤◌, inl, inr, List, [], ◌∷◌, length, drop, refl, ◌∙◌, arith, Some, Result, Ok, Err, IfOk, slice_get, MatchResult}
use Rattle.std.specs.declared.cmp.Ordering.{Ordering}
use Rattle.std.specs.declared.cmp.Ordering.TheVariants.{Equal}
use Rattle.std.specs.Cmp.{IsTotalOrder}
use Rattle.std.specs.List.{insert}
use Rattle.std.proofs.lemmas.Cmp.{tied_back}
use Rattle.std.proofs.lemmas.Bool.{cases_lt}
use Rattle.std.proofs.lemmas.Bool.Decides.{nat_tests}
use Rattle.bptree_nodes.specs.Leaf.{split_index}
use Rattle.bptree_propagation.specs.Change.{StartsAt}

-- an insertion keeps each member before its index, and moves each from its index on by one
pub get_before : {X : Type 0} (xs : List X) (i : ℕ) (x : X) (n : ℕ) → n < i → i ≤ length xs → slice_get (insert xs i x) n ≡ slice_get xs n
get_before [] i x n below within = absurd (omega arith)
get_before (y ∷ xs) zero x n below within = absurd (omega arith)
get_before (y ∷ xs) (suc i) x zero below within = refl
get_before (y ∷ xs) (suc i) x (suc n) below within = get_before xs i x n (omega arith) (omega arith)

pub get_behind : {X : Type 0} (xs : List X) (i : ℕ) (x : X) (n : ℕ) → i ≤ n → i ≤ length xs → slice_get (insert xs i x) (suc n) ≡ slice_get xs n
get_behind xs zero x n above within = refl
get_behind [] (suc i) x n above within = absurd (omega arith)
get_behind (y ∷ xs) (suc i) x zero above within = absurd (omega arith)
get_behind (y ∷ xs) (suc i) x (suc n) above within = get_behind xs i x n (omega arith) (omega arith)

-- the part of a list from a pair on starts at any key that equals the pair's
pub starts_from : {K V : Type 0} (cmp : K → K → Ordering) (s : K) (l : List (K × V)) (n : ℕ) (p : K × V) → slice_get l n ≡ Some p → cmp s p.0 ≡ Equal → StartsAt cmp s (drop n l)
starts_from cmp s [] n p read equal = cc
starts_from cmp s (q ∷ l) zero p read equal = let same : q ≡ p = cc in rw same equal
starts_from cmp s (q ∷ l) (suc n) p read equal = starts_from cmp s l n p read equal

-- the right half of a cut leaf starts at the key of the old pair 32, unless the new pair comes
-- there
pub starts_old : {K V : Type 0} (cmp : K → K → Ordering) (total : IsTotalOrder cmp) (l : List (K × V)) (slot : ℕ) (s k : K) (v : V) (p : K × V) → length l ≡ 64 → slot ≤ 64 → (slot ≡ 32 → ⊥) → slice_get l 32 ≡ Some p → cmp p.0 s ≡ Equal
    → StartsAt cmp s (drop (split_index slot) (insert l slot (k, v)))
starts_old cmp total l slot s k v p long within other read equal =
    elim (cases_lt slot 32) [
      | inl below ↦ (let index : split_index slot ≡ 33 = grind (arith, nat_tests) in
          rw index (starts_from cmp s (insert l slot (k, v)) 33 p (get_behind l slot (k, v) 32 (omega arith) (omega arith) ∙ read) (tied_back total p.0 s equal)))
      | inr above ↦ (let index : split_index slot ≡ 32 = grind (arith, nat_tests) in
          let past : 32 < slot = omega (arith, other) in
          rw index (starts_from cmp s (insert l slot (k, v)) 32 p (get_before l slot (k, v) 32 past (omega arith) ∙ read) (tied_back total p.0 s equal)))
    ]

-- what follows from each value that a call can return holds of the returned value
pub if_ok : {T E : Type 0} (r : Result T E) (P : T → Type 0) (Q : E → Type 0) (R : T → Type 0) → MatchResult r P Q → ((x : T) → P x → R x) → IfOk r R
if_ok (Ok x) P Q R given turns = turns x given
if_ok (Err e) P Q R given turns = tt
