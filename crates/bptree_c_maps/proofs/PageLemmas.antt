-- Pairs of a map from byte strings that are copied one by one.
use Rattle.std.proofs.Common.{◌≡◌, ℕ, zero, suc, ◌+◌, ◌<◌, ◌≤◌, List, [], ◌∷◌, ◌++◌, Some, None, length, map, take, drop, slice_get, slice_set, sym, ap, ◌∙◌, arith, add-one, append_assoc}
use Rattle.std.proofs.Math.Seq.{take-nil, take-append_seam, drop-append-add, drop-drop}
use Rattle.std.proofs.lemmas.List.{append-nil, drop_all}
use Rattle.std.proofs.lemmas.Map.Entries.{length-keys_of}
use Rattle.bptree_arguments.specs.CountLaws.{SelectsIndex}
use Rattle.bptree_search.specs.ByArgument.{IsPartSelected}
use Rattle.bptree_keys.specs.Ranges.{part}
use Rattle.bptree_c_maps.specs.Dict.{Pairs}
use Rattle.bptree_c_maps.specs.DictPages.{key_bytes}

pub part_is : {K V : Type 0} (l : List (K × V)) (i n : ℕ) (found : List (K × V)) → IsPartSelected SelectsIndex i l n found → found ≡ part l i n
part_is l i n found (None, no_place, past, shown) =
    let beyond : length l ≤ i = rw (length-keys_of l) at past in
    shown ∙ sym (ap (take n) (drop_all i l beyond) ∙ take-nil n)
part_is l i n found (Some j, inside, at, shown) = shown ∙ ap (λ k. part l k n) at.0

module _ {X Y : Type 0} (f : X → Y) where
  step_by : (all : List X) (room : List Y) (i : ℕ) (x : X) (rest : List X) → i < length room → drop i all ≡ x ∷ rest
      → slice_set (map f (take i all) ++ drop i room) i (f x) ≡ map f (take (suc i) all) ++ drop (suc i) room
  step_by [] room zero x rest fits is = absurd cc
  step_by [] room (suc i) x rest fits is = absurd cc
  step_by (a ∷ all) [] i x rest fits is = absurd (omega arith)
  step_by (a ∷ all) (b ∷ room) zero x rest fits is = cc
  step_by (a ∷ all) (b ∷ room) (suc i) x rest fits is = let small : i < length room = omega arith in ap (λ l. f a ∷ l) (step_by all room i x rest small is)

  pub copied_more : (all : List X) (room out : List Y) (i : ℕ) (x : X) (rest : List X) → out ≡ map f (take i all) ++ drop i room → i < length room → drop i all ≡ x ∷ rest
      → slice_set out i (f x) ≡ map f (take (i + 1) all) ++ drop (i + 1) room
  copied_more all room out i x rest so_far fits is = rw (so_far, add-one) (step_by all room i x rest fits is)

module _ {X : Type 0} where
  pub rest_by : (all : List X) (i : ℕ) (x : X) (rest : List X) → drop i all ≡ x ∷ rest → (rest ≡ drop (i + 1) all) × (i + 1 ≤ length all)
  rest_by [] zero x rest is = absurd cc
  rest_by [] (suc i) x rest is = absurd cc
  rest_by (a ∷ all) zero x rest is = (cc, omega arith)
  rest_by (a ∷ all) (suc i) x rest is = let more = rest_by all i x rest is in rw add-one ((rw add-one at more).0, omega (arith, more.1))

  pub here_by : (all : List X) (i : ℕ) (x : X) (rest : List X) → drop i all ≡ x ∷ rest → slice_get all i ≡ Some x
  here_by [] zero x rest is = absurd cc
  here_by [] (suc i) x rest is = absurd cc
  here_by (a ∷ all) zero x rest is = cc
  here_by (a ∷ all) (suc i) x rest is = here_by all i x rest is

  pub none_by : (all : List X) (i : ℕ) → drop i all ≡ [] → length all ≤ i
  none_by [] i is = omega arith
  none_by (a ∷ all) zero is = absurd cc
  none_by (a ∷ all) (suc i) is = omega (arith, none_by all i is)

  pub past_get : (all : List X) (i : ℕ) (x : X) → length all ≤ i → slice_get all i ≡ Some x → ⊥
  past_get [] i x past is = cc
  past_get (a ∷ all) zero x past is = omega (arith, past)
  past_get (a ∷ all) (suc i) x past is = past_get all i x (omega (arith, past)) is

  -- a key that is written behind the first members
  pub written : (front key init out : List X) (used : ℕ) → out ≡ front ++ drop used init → used ≡ length front
      → take used out ++ (key ++ drop (used + length key) out) ≡ (front ++ key) ++ drop (used + length key) init
  written front key init out used is long =
      let tail = drop used init in
      let first : take used out ≡ front = ap (λ l. take used l) is ∙ (ap (λ n. take n (front ++ tail)) long ∙ take-append_seam front tail) in
      let last : drop (used + length key) out ≡ drop (used + length key) init =
      ap (λ l. drop (used + length key) l) is ∙ (ap (λ n. drop (n + length key) (front ++ tail)) long ∙ (drop-append-add front tail (length key) ∙ drop-drop (length key) used init)) in
      rw (first, last) (sym (append_assoc front key (drop (used + length key) init)))

pub keys_more : (all : Pairs) (i : ℕ) (p : List ℕ × ℕ) (rest : Pairs) → drop i all ≡ p ∷ rest → key_bytes all (i + 1) ≡ key_bytes all i ++ p.0
keys_more all i p rest is = rw add-one (by all i p rest is)
  where
    by : (all : Pairs) (i : ℕ) (p : List ℕ × ℕ) (rest : Pairs) → drop i all ≡ p ∷ rest → key_bytes all (suc i) ≡ key_bytes all i ++ p.0
    by [] zero p rest is = absurd cc
    by [] (suc i) p rest is = absurd cc
    by (a ∷ all) zero p rest is = let same : a ≡ p = cc in rw same (simp append-nil)
    by (a ∷ all) (suc i) p rest is = ap (λ l. a.0 ++ l) (by all i p rest is) ∙ sym (append_assoc a.0 (key_bytes all i) p.0)
