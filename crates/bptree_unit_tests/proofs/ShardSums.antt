-- Sums of lengths of shards, with parts of pages and with empty shards.
use Rattle.std.proofs.Common.{◌≡◌, ℕ, zero, suc, ◌+◌, ◌-◌, ◌<◌, ◌≤◌, List, [], ◌∷◌, length, take, drop, min, get_or, slice_index, refl, sym, ◌∙◌, arith}
use Rattle.std.specs.List.{sum, sum_by}
use Rattle.std.proofs.lemmas.List.Sums.{sum_by-cons, sum_by_more_le, sum_by-take-drop, sum_by-drop_more}
use Rattle.bptree_shard_routing.specs.declared.combining.Part.{Part}
use Rattle.bptree_shard_routing.specs.Lengths.{AreAllEmpty, IsFirstPart, ArePartsOf}

module _ (lengths : List ℕ) where
  -- A shard that has a pair is among the shards.
  there : (i n : ℕ) → n < slice_index lengths i → i < length lengths
  there i n some = by lengths i some
    where
      by : (l : List ℕ) (j : ℕ) → n < get_or l j 0 → j < length l
      by [] j h = absurd (omega arith)
      by (x ∷ l) zero h = omega arith
      by (x ∷ l) (suc j) h = let small = by l j h in omega arith

  -- A part of a page ends within the whole.
  pub part_within : (index n : ℕ) (first : Part) → IsFirstPart lengths index n first → index + first.count ≤ sum lengths
  part_within index n first is =
      let at = is.index_is in
      let here = there first.shard first.from at.inside in
      let fits = sum_by_more_le (λ x. x) lengths first.shard 0 here in
      omega (arith, at.inside, at.sum_is, is.count_is, fits)

  pub parts_count : (found : List Part) (index n : ℕ) → ArePartsOf lengths index n found → sum_by (λ (p : Part). p.count) found ≡ min n (sum lengths - index)
  parts_count [] index n none = sym none
  parts_count (first ∷ rest) index n are =
      let more = parts_count rest (index + first.count) (n - first.count) are.1 in
      let within = part_within index n first are.0 in
      let fit = are.0.count_is in
      sum_by-cons (λ (p : Part). p.count) first rest ∙ omega (arith, more, within, fit)

-- Empty shards add nothing to a sum.
pub none_in : (lengths : List ℕ) → ((i : ℕ) → i < length lengths → slice_index lengths i ≡ 0) → sum lengths ≡ 0
none_in [] empty = refl
none_in (x ∷ lengths) empty =
    let a : 0 < length (x ∷ lengths) = omega arith in
    let rest : (i : ℕ) → i < length lengths → slice_index lengths i ≡ 0 = λ i h. let b : suc i < length (x ∷ lengths) = omega arith in empty (suc i) b in
    sum_by-cons (λ n. n) x lengths ∙ omega (arith, empty 0 a, none_in lengths rest)

pub none_before : (lengths : List ℕ) (to : ℕ) → AreAllEmpty lengths 0 to → sum (take to lengths) ≡ 0
none_before lengths zero empty = refl
none_before [] (suc to) empty = refl
none_before (x ∷ lengths) (suc to) empty =
    let a : 0 ≤ 0 = omega arith in
    let b : 0 < suc to = omega arith in
    let rest : AreAllEmpty lengths 0 to = λ i low high. let c : 0 ≤ suc i = omega arith in let d : suc i < suc to = omega arith in empty (suc i) c d in
    sum_by-cons (λ n. n) x (take to lengths) ∙ omega (arith, empty 0 a b, none_before lengths to rest)

pub none_behind : (lengths : List ℕ) (from : ℕ) → AreAllEmpty lengths from (length lengths) → sum (drop from lengths) ≡ 0
none_behind lengths zero empty = none_in lengths (λ i h. let a : 0 ≤ i = omega arith in empty i a h)
none_behind [] (suc from) empty = refl
none_behind (x ∷ lengths) (suc from) empty =
    let rest : AreAllEmpty lengths from (length lengths) = λ i low high. let c : suc from ≤ suc i = omega arith in let d : suc i < length (x ∷ lengths) = omega arith in empty (suc i) c d in
    none_behind lengths from rest

-- The shards up to the last one that has a pair have all pairs of the whole.
pub all_upto : (lengths : List ℕ) (i : ℕ) → i < length lengths → AreAllEmpty lengths (i + 1) (length lengths) → sum (take i lengths) + get_or lengths i 0 ≡ sum lengths
all_upto lengths i short empty =
    let none = none_behind lengths (i + 1) empty in
    let parts = sum_by-take-drop (λ n. n) lengths i in
    let more = sum_by-drop_more (λ n. n) lengths i 0 short in
    omega (arith, none, parts, more)
