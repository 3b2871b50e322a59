-- One pass over pairs, which keeps the last pair of each run.
use Rattle.std.proofs.Common.{◌≡◌, Bool, true, false, not, ℕ, suc, ◌+◌, ◌<◌, ◌≤◌, List, [], ◌∷◌, ◌++◌, length, get_or, take, drop, refl, sym, ap, cond, ◌∙◌, arith, add-one, drop-cons, append_assoc}
use Rattle.std.specs.declared.cmp.Ordering.{Ordering}
use Rattle.std.specs.Ordering.{is_eq}
use Rattle.std.specs.List.{swap}
use Rattle.std.proofs.Math.Seq.{take-suc, drop-length}
use Rattle.std.proofs.lemmas.List.{drop-set-lt, take-set-le, take_more_set, append-nil, drop_all}
use Rattle.bptree_keys.specs.Contents.{starts_with_key, load}

module _ {X : Type 0} where
  -- the first item from an index on is the item at the index
  take_one : (xs : List X) (at : ℕ) (d : X) → at < length xs → take 1 (drop at xs) ≡ get_or xs at d ∷ []
  take_one xs at d within = ap (take 1) (drop-cons xs at d within)

  -- a swap with an earlier item moves the item to the index `kept`
  pub take-swap : (xs : List X) (kept at : ℕ) → kept < at → at < length xs → take (kept + 1) (swap xs kept at) ≡ take kept xs ++ take 1 (drop at xs)
  take-swap [] kept at before within = absurd (omega arith)
  take-swap (d ∷ xs) kept at before within =
      take-set-le (kept + 1) _ at _ (omega arith)
      ∙ take_more_set (d ∷ xs) kept _ (omega arith)
      ∙ ap (λ one. take kept (d ∷ xs) ++ one) (sym (take_one (d ∷ xs) at d within))

  pub drop-swap : (xs : List X) (kept at : ℕ) → kept < at → drop (at + 1) (swap xs kept at) ≡ drop (at + 1) xs
  drop-swap [] kept at before = refl
  drop-swap (d ∷ xs) kept at before = drop-set-lt (at + 1) _ at _ (omega arith) ∙ drop-set-lt (at + 1) _ kept _ (omega arith)

  -- the first `at + 1` items are the first `at` items and the item at the index `at`
  pub take_more : (xs : List X) (at : ℕ) → at < length xs → take (at + 1) xs ≡ take at xs ++ take 1 (drop at xs)
  take_more [] at within = absurd (omega arith)
  take_more (d ∷ xs) at within = rw (add-one at, take_one (d ∷ xs) at d within) (take-suc (d ∷ xs) at d within)

module _ {K V : Type 0} (cmp : K → K → Ordering) where
  -- `load` keeps the first pair if and only if the next key is another
  load_cut : (p : K × V) (rest : List (K × V)) (stays : Bool) → starts_with_key cmp rest p.0 ≡ not stays → load cmp (p ∷ rest) ≡ cond stays (p ∷ []) [] ++ load cmp rest
  load_cut p rest true other = rw other refl
  load_cut p rest false same = rw same refl

  -- `load` keeps the pair at an index if and only if the next key is another
  load_at : (xs : List (K × V)) (at : ℕ) (p : K × V) (stays : Bool) → drop at xs ≡ p ∷ drop (at + 1) xs → starts_with_key cmp (drop (at + 1) xs) p.0 ≡ not stays → load cmp (drop at xs) ≡ cond stays (take 1 (drop at xs)) [] ++ load cmp (drop (at + 1) xs)
  load_at xs at p stays cut is = rw (cut, load_cut p (drop (at + 1) xs) stays is) refl

  -- `load` keeps the last of all pairs, and any other pair if and only if the next key is another
  pub run_ends : (xs : List (K × V)) (at : ℕ) → at + 1 ≡ length xs → load cmp (drop at xs) ≡ take 1 (drop at xs) ++ load cmp (drop (at + 1) xs)
  run_ends [] at last = absurd (omega arith)
  run_ends (d ∷ xs) at last =
      let within : at < length (d ∷ xs) = omega arith in
      let cut : drop at (d ∷ xs) ≡ get_or (d ∷ xs) at d ∷ drop (at + 1) (d ∷ xs) = rw add-one (drop-cons (d ∷ xs) at d within) in
      let none : drop (at + 1) (d ∷ xs) ≡ [] = ap (λ n. drop n (d ∷ xs)) last ∙ drop-length (d ∷ xs) in
      load_at (d ∷ xs) at (get_or (d ∷ xs) at d) true cut (ap (λ rest. starts_with_key cmp rest (get_or (d ∷ xs) at d).0) none)

  pub run_goes_on : (xs : List (K × V)) (at : ℕ) (p q : K × V) → at + 1 < length xs → p ≡ get_or xs at p → q ≡ get_or xs (at + 1) q → load cmp (drop at xs) ≡ cond (not (is_eq (cmp q.0 p.0))) (take 1 (drop at xs)) [] ++ load cmp (drop (at + 1) xs)
  run_goes_on xs at p q within read next =
      let here : at < length xs = omega arith in
      let cut : drop at xs ≡ p ∷ drop (at + 1) xs = rw add-one (drop-cons xs at p here ∙ ap (λ x. x ∷ drop (suc at) xs) (sym read)) in
      let rest : drop (at + 1) xs ≡ q ∷ drop (suc (at + 1)) xs = drop-cons xs (at + 1) q within ∙ ap (λ x. x ∷ drop (suc (at + 1)) xs) (sym next) in
      load_at xs at p (not (is_eq (cmp q.0 p.0))) cut (ap (λ more. starts_with_key cmp more p.0) rest ∙ sym (twice (is_eq (cmp q.0 p.0))))
    where
      twice : (b : Bool) → not (not b) ≡ b
      twice true = refl
      twice false = refl

  -- one iteration that keeps the pair at the index `at`
  pub kept_more : (old xs new : List (K × V)) (kept at : ℕ) → load cmp old ≡ take kept xs ++ load cmp (drop at xs) → load cmp (drop at xs) ≡ take 1 (drop at xs) ++ load cmp (drop (at + 1) xs) → take (kept + 1) new ≡ take kept xs ++ take 1 (drop at xs) → drop (at + 1) new ≡ drop (at + 1) xs → load cmp old ≡ take (kept + 1) new ++ load cmp (drop (at + 1) new)
  kept_more old xs new kept at so_far here moved rest = rw (moved, rest, append_assoc) (so_far ∙ ap (λ more. take kept xs ++ more) here)

  -- one iteration that drops the pair at the index `at`
  pub kept_same : (old xs : List (K × V)) (kept at : ℕ) → load cmp old ≡ take kept xs ++ load cmp (drop at xs) → load cmp (drop at xs) ≡ load cmp (drop (at + 1) xs) → load cmp old ≡ take kept xs ++ load cmp (drop (at + 1) xs)
  kept_same old xs kept at so_far here = so_far ∙ ap (λ more. take kept xs ++ more) here

  -- at the end, the kept pairs are the first ones of the vector
  pub all_passed : (old xs : List (K × V)) (kept at : ℕ) → length xs ≤ at → load cmp old ≡ take kept xs ++ load cmp (drop at xs) → take kept xs ≡ load cmp old
  all_passed old xs kept at past so_far = rw so_far (rw (drop_all at xs past) (sym (append-nil (take kept xs))))
