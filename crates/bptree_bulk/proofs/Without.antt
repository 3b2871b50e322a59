-- Members that stay when those from one index up to another go.
use Rattle.std.proofs.Common.{◌≡◌, ◌∙◌, ◌+◌, ◌-◌, ◌<◌, ◌≤◌, ℕ, zero, suc, sym, ap, List, [], ◌∷◌, ◌++◌, length, take, drop, arith, length-append}
use Rattle.std.proofs.Math.Seq.{drop-nil}
use Rattle.std.specs.declared.alloc.Global.{Global}
use Rattle.std.specs.declared.boxed.Box.{Box}
use Rattle.bptree_bulk.specs.Gap.{without_part}
use Rattle.bptree_bulk.specs.Moving.{poured, poured_around}
use Rattle.bptree_bulk.proofs.Passed.{drop_one, pour_one, take_one}
use Rattle.bptree_nodes.specs.Leaf.{Leaf}

none_from : (n : ℕ) → 0 ≡ 0 - n
none_from n = omega arith

less_none : (n : ℕ) → n ≡ n - 0
less_none n = omega arith

one_from_each : (n m : ℕ) → n - m ≡ suc n - suc m
one_from_each n m = omega arith

module _ {X : Type 0} where
  -- equal indexes leave equal members
  same_part : (m m' n n' : ℕ) (l : List X) → m ≡ m' → n ≡ n' → without_part m n l ≡ without_part m' n' l
  same_part m m' n n' l from to = ap (λ k. take k l ++ drop n l) from ∙ ap (λ k. take m' l ++ drop k l) to

  without_none : (m n : ℕ) → without_part {X = X} m n [] ≡ []
  without_none zero n = drop-nil n
  without_none (suc m) n = drop-nil n

  drop_on : (n : ℕ) (l rest : List X) → drop n (l ++ rest) ≡ drop n l ++ drop (n - length l) rest
  drop_on n [] rest = ap (λ k. drop k rest) (less_none n) ∙ ap (λ r. r ++ drop (n - 0) rest) (sym (drop-nil n))
  drop_on zero (x ∷ l) rest = ap (λ k. x ∷ (l ++ drop k rest)) (none_from (suc (length l)))
  drop_on (suc n) (x ∷ l) rest = drop_on n l rest ∙ ap (λ k. drop n l ++ drop k rest) (one_from_each n (length l))

  -- the first member stays if some members stay before those that go
  pub stays_before : (m n : ℕ) (x : X) (l : List X) → 0 < m → m ≤ n → without_part m n (x ∷ l) ≡ x ∷ without_part (m - 1) (n - 1) l
  stays_before m n x l some order = ap (λ r. r ++ drop n (x ∷ l)) (take_one m x l some) ∙ ap (λ r. x ∷ (take (m - 1) l ++ r)) (drop_one n x l (omega (arith, some, order)))

  -- what stays of two lists, one behind the other
  pub without_on : (m n : ℕ) (l rest : List X) → m ≤ n → without_part m n (l ++ rest) ≡ without_part m n l ++ without_part (m - length l) (n - length l) rest
  without_on zero n l rest order = drop_on n l rest ∙ ap (λ k. drop n l ++ without_part k (n - length l) rest) (none_from (length l))
  without_on (suc m) zero l rest order = absurd (omega (arith, order))
  without_on (suc m) (suc n) [] rest order = same_part (suc m) (suc m - 0) (suc n) (suc n - 0) rest (less_none (suc m)) (less_none (suc n))
  without_on (suc m) (suc n) (x ∷ l) rest order =
      let len = length l in
      ap (λ r. x ∷ r) (without_on m n l rest (omega (arith, order)) ∙ ap (λ r. without_part m n l ++ r) (same_part (m - len) (suc m - suc len) (n - len) (suc n - suc len) rest (one_from_each m len) (one_from_each n len)))

module _ {K V : Type 0} (before behind n : ℕ) where
  -- what stays of the next leaf, and then of the others
  pub around_one : (leaf : Box (Leaf K V) Global) (leaves leaves' : List (Box (Leaf K V) Global)) (before' behind' : ℕ) → 0 < n → before ≤ behind → leaves ≡ leaf ∷ leaves' → before - length leaf.value.pairs ≡ before' → behind - length leaf.value.pairs ≡ behind' → poured_around before behind n leaves ≡ without_part before behind leaf.value.pairs ++ poured_around before' behind' (n - 1) leaves'
  around_one leaf leaves leaves' before' behind' some order first less less' =
      let pairs = leaf.value.pairs in
      let rest = poured (n - 1) leaves' in
      ap (without_part before behind) (pour_one n leaf leaves leaves' some first)
      ∙ (without_on before behind pairs rest order ∙ ap (λ r. without_part before behind pairs ++ r) (same_part (before - length pairs) before' (behind - length pairs) behind' rest less less'))

  pub around_len : (leaf : Box (Leaf K V) Global) (leaves leaves' : List (Box (Leaf K V) Global)) (before' behind' : ℕ) → 0 < n → before ≤ behind → leaves ≡ leaf ∷ leaves' → before - length leaf.value.pairs ≡ before' → behind - length leaf.value.pairs ≡ behind' → length (poured_around before behind n leaves) ≡ length (without_part before behind leaf.value.pairs) + length (poured_around before' behind' (n - 1) leaves')
  around_len leaf leaves leaves' before' behind' some order first less less' =
      ap length (around_one leaf leaves leaves' before' behind' some order first less less') ∙ length-append (without_part before behind leaf.value.pairs) (poured_around before' behind' (n - 1) leaves')

  pub around_none : (leaves : List (Box (Leaf K V) Global)) → n ≡ 0 → poured_around before behind n leaves ≡ []
  around_none leaves none = ap (λ k. poured_around before behind k leaves) none ∙ without_none before behind
