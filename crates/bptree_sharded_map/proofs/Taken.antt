-- The first pairs that are left are appended to those that were taken.
use Rattle.std.proofs.Common.{◌≡◌, suc, ◌+◌, ◌-◌, ◌<◌, ◌≤◌, ℕ, List, [], ◌∷◌, ◌++◌, take, refl, ap, ◌∙◌, append_assoc, append-nil, arith, length, drop, sym, Some, None}
use Rattle.std.proofs.Math.Seq.{take-nil}
use Rattle.std.proofs.lemmas.List.{drop_all, take-take}
use Rattle.std.proofs.lemmas.Map.Entries.{length-keys_of}
use Rattle.bptree_arguments.specs.CountLaws.{SelectsIndex}
use Rattle.bptree_keys.specs.Ranges.{part}
use Rattle.bptree_search.specs.ByArgument.{IsPartSelected}

module _ {X : Type 0} (found s : List X) (n i : ℕ) where
  pub one-taken : (x : X) (t : List X) → i < n → s ≡ x ∷ t → (found ++ x ∷ []) ++ take (n - (i + 1)) t ≡ found ++ take (n - i) s
  one-taken x t within is =
      let left : n - i ≡ suc (n - (i + 1)) = omega (arith, within) in
      append_assoc found (x ∷ []) (take (n - (i + 1)) t) ∙ rw (left, is) refl

  pub none-left : s ≡ [] → found ++ take (n - i) s ≡ found
  none-left none = rw none (ap (λ m. found ++ m) (take-nil (n - i)) ∙ append-nil found)

  pub all-taken : n ≤ i → found ++ take (n - i) s ≡ found
  all-taken past = let zero_left : n - i ≡ 0 = omega (arith, past) in rw zero_left (append-nil found)

-- the pairs from an index on, as a count of keys selects them
pub part-found : {K V : Type 0} (l : List (K × V)) (i n : ℕ) (found : List (K × V)) → IsPartSelected SelectsIndex i l n found → take n found ≡ part l i n
part-found l i n found (None, no_place, past, is) =
    let beyond : length l ≤ i = rw (length-keys_of l) at past in
    ap (take n) is ∙ take-nil n ∙ sym (take-nil n) ∙ ap (take n) (sym (drop_all i l beyond))
part-found l i n found (Some j, inside, at, is) = ap (take n) (is ∙ ap (λ k. part l k n) at.0) ∙ take-take n n (drop i l) (omega arith)
