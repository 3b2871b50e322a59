-- Indices, ends and parts of the whole, computed from the lengths of its pieces.
use Rattle.std.proofs.Common.{◌≡◌, ℕ, zero, suc, ◌+◌, ◌-◌, ◌<◌, ◌≤◌, List, [], ◌∷◌, ◌++◌, Option, Some, None, length, take, drop, min, reverse, slice_get, slice_index, refl, sym, ap, ◌∙◌, arith, length-append}
use Rattle.std.specs.List.{sum}
use Rattle.std.specs.Option.{option_or}
use Rattle.std.specs.List.{flat_map}
use Rattle.std.proofs.lemmas.List.{append-nil, length-take, length-drop, take_all, take_min, drop-append-le, drop-take, nil_from_length, reverse-append, take-append-drop, take_at, length-reverse}
use Rattle.std.proofs.lemmas.List.Concat.{flat_map-append}
use Rattle.std.proofs.lemmas.List.Sums.{sum_by-cons}
use Rattle.std.proofs.lemmas.Option.{slice_get_past, slice_get-get_or}
use Rattle.bptree_keys.specs.Pieces.{flatten, piece_at, start_of}
use Rattle.bptree_keys.specs.Ranges.{part}
use Rattle.bptree_keys.proofs.PieceLemmas.{flatten-cut}
use Rattle.bptree_shard_routing.specs.declared.combining.Part.{Part}
use Rattle.bptree_keys.specs.Contents.{last_member}
use Rattle.bptree_shard_routing.specs.Lengths.{lengths_of, IsIndexInShard, IsIndexFound, AreAllEmpty, IsFirstFull, IsLastFull, IsFirstPart, IsNextPart, ArePartsOf, member_in, first_in, last_in, part_in, back_in, IsRestOf}

-- ---- two lists, one after the other

module _ {X : Type 0} where
  pub get_past : (xs ys : List X) (i : ℕ) → slice_get (xs ++ ys) (length xs + i) ≡ slice_get ys i
  get_past [] ys i = let n : 0 + i ≡ i = omega arith in rw n refl
  get_past (x ∷ xs) ys i = let n : length (x ∷ xs) + i ≡ suc (length xs + i) = omega arith in rw n (get_past xs ys i)

  pub get_early : (xs ys : List X) (i : ℕ) → i < length xs → slice_get (xs ++ ys) i ≡ slice_get xs i
  get_early [] ys i within = absurd (omega arith)
  get_early (x ∷ xs) ys zero within = refl
  get_early (x ∷ xs) ys (suc i) within = let small : i < length xs = omega arith in get_early xs ys i small

  pub drop_past : (xs ys : List X) (i : ℕ) → drop (length xs + i) (xs ++ ys) ≡ drop i ys
  drop_past [] ys i = let n : 0 + i ≡ i = omega arith in rw n refl
  drop_past (x ∷ xs) ys i = let n : length (x ∷ xs) + i ≡ suc (length xs + i) = omega arith in rw n (drop_past xs ys i)

  pub take_two : (n : ℕ) (xs ys : List X) → take n (xs ++ ys) ≡ take n xs ++ take (n - length xs) ys
  take_two zero xs ys = let n : 0 - length xs ≡ 0 = omega arith in rw n refl
  take_two (suc n) [] ys = let e : suc n - 0 ≡ suc n = omega arith in rw e refl
  take_two (suc n) (x ∷ xs) ys = let e : suc n - length (x ∷ xs) ≡ n - length xs = omega arith in rw e (ap (λ l. x ∷ l) (take_two n xs ys))

  pub last_of_two : (xs ys : List X) → last_member (xs ++ ys) ≡ option_or (last_member ys) (last_member xs)
  last_of_two xs [] = ap last_member (append-nil xs)
  last_of_two xs (y ∷ ys) =
      let here : length (xs ++ y ∷ ys) - 1 ≡ length xs + length ys = omega (arith, length-append xs (y ∷ ys)) in
      let end : length (y ∷ ys) - 1 ≡ length ys = omega arith in
      let short : length ys < length (y ∷ ys) = omega arith in
      rw (here, end, get_past xs (y ∷ ys) (length ys), slice_get-get_or (y ∷ ys) (length ys) y short) refl

-- ---- lengths

module _ {X : Type 0} where
  pub total : (pieces : List (List X)) → length (flatten pieces) ≡ sum (lengths_of pieces)
  total [] = refl
  total (p ∷ ps) = length-append p (flatten ps) ∙ ap (λ n. length p + n) (total ps) ∙ sym (sum_by-cons (λ n. n) (length p) (lengths_of ps))

  pub lengths-take : (i : ℕ) (pieces : List (List X)) → take i (lengths_of pieces) ≡ lengths_of (take i pieces)
  lengths-take zero ps = refl
  lengths-take (suc i) [] = refl
  lengths-take (suc i) (p ∷ ps) = ap (λ l. length p ∷ l) (lengths-take i ps)

  pub start_is : (pieces : List (List X)) (i : ℕ) → start_of pieces i ≡ sum (take i (lengths_of pieces))
  start_is pieces i = total (take i pieces) ∙ sym (ap sum (lengths-take i pieces))

  pub length_at : (pieces : List (List X)) (i : ℕ) → slice_index (lengths_of pieces) i ≡ length (piece_at pieces i)
  length_at [] i = refl
  length_at (p ∷ ps) zero = refl
  length_at (p ∷ ps) (suc i) = length_at ps i

  pub within : (pieces : List (List X)) (i n : ℕ) → n < length (piece_at pieces i) → i < length pieces
  within [] i n h = absurd (omega arith)
  within (p ∷ ps) zero n h = omega arith
  within (p ∷ ps) (suc i) n h = let small = within ps i n h in omega arith

-- ---- an index

module _ {X : Type 0} (shards : List (List X)) where
  abbrev before : ℕ → List X
  before i = flatten (take i shards)

  abbrev behind : ℕ → List X
  behind i = flatten (drop (suc i) shards)

  module _ (index shard own : ℕ) (at : IsIndexInShard (lengths_of shards) index shard own) where
    inside : own < length (piece_at shards shard)
    inside = rw (length_at shards shard) at at.inside

    index_is : index ≡ length (before shard) + own
    index_is = at.sum_is ∙ ap (λ n. n + own) (sym (start_is shards shard))

    pub index_cut : flatten shards ≡ before shard ++ (piece_at shards shard ++ behind shard)
    index_cut = flatten-cut shards shard (within shards shard own inside)

    pub member_there : slice_get (flatten shards) index ≡ slice_get (piece_at shards shard) own
    member_there = rw (index_is, index_cut) (get_past (before shard) (piece_at shards shard ++ behind shard) own ∙ get_early (piece_at shards shard) (behind shard) own inside)

  pub member_located : (index : ℕ) (found : Option (ℕ × ℕ)) → IsIndexFound (lengths_of shards) index found → slice_get (flatten shards) index ≡ member_in shards found
  member_located index None past = slice_get_past (flatten shards) index (omega (arith, total shards, past))
  member_located index (Some at) is = member_there index at.0 at.1 is

  -- ---- a page

  module _ (index n : ℕ) (first : Part) (is : IsFirstPart (lengths_of shards) index n first) where
    abbrev piece : List X
    piece = piece_at shards first.shard

    long : first.from < length piece
    long = inside index first.shard first.from is.index_is

    count_is : first.count ≡ min n (length (drop first.from piece))
    count_is = is.count_is ∙ ap (λ m. min n m) (ap (λ m. m - first.from) (length_at shards first.shard) ∙ sym (length-drop first.from piece))

    from_here : drop index (flatten shards) ≡ drop first.from piece ++ behind first.shard
    from_here =
        let short : first.from ≤ length piece = omega (arith, long) in
        rw (index_is index first.shard first.from is.index_is, index_cut index first.shard first.from is.index_is)
        (drop_past (before first.shard) (piece ++ behind first.shard) first.from ∙ drop-append-le first.from piece (behind first.shard) short)

    rest_is : (k : ℕ) → n - length (drop first.from piece) ≡ k → take k (behind first.shard) ≡ take k (drop (index + first.count) (flatten shards))
    rest_is zero none = refl
    rest_is (suc k) some =
        let far : index + first.count ≡ length (before first.shard) + (length piece + 0) = omega (arith, index_is index first.shard first.from is.index_is, count_is, length-drop first.from piece, some, long) in
        rw (far, index_cut index first.shard first.from is.index_is)
        (ap (take (suc k)) (sym (drop_past (before first.shard) (piece ++ behind first.shard) (length piece + 0) ∙ drop_past piece (behind first.shard) 0)))

    pub part_first : part (flatten shards) index n ≡ part_in shards first ++ part (flatten shards) (index + first.count) (n - first.count)
    part_first =
        let left : n - length (drop first.from piece) ≡ n - first.count = omega (arith, count_is) in
        ap (take n) from_here ∙ take_two n (drop first.from piece) (behind first.shard)
        ∙ ap (λ l. l ++ take (n - length (drop first.from piece)) (behind first.shard)) (sym (ap (λ m. take m (drop first.from piece)) count_is ∙ take_min n (drop first.from piece)))
        ∙ ap (λ l. part_in shards first ++ l) (rest_is (n - length (drop first.from piece)) refl ∙ ap (λ m. take m (drop (index + first.count) (flatten shards))) left)

  pub part_none : (index n : ℕ) → IsNextPart (lengths_of shards) index n None → part (flatten shards) index n ≡ []
  part_none index n none = nil_from_length (part (flatten shards) index n) (omega (arith, length-take n (drop index (flatten shards)), length-drop index (flatten shards), total shards, none))

  pub parts_all : (found : List Part) (index n : ℕ) → ArePartsOf (lengths_of shards) index n found → part (flatten shards) index n ≡ flat_map (λ p. part_in shards p) found
  parts_all [] index n are = part_none index n are
  parts_all (first ∷ rest) index n are = part_first index n first are.0 ∙ ap (λ l. part_in shards first ++ l) (parts_all rest (index + first.count) (n - first.count) are.1)

  pub rest_of : (index n : ℕ) (found : Option Part) → IsNextPart (lengths_of shards) index n found → IsRestOf shards index n found
  rest_of index n None none = part_none index n none
  rest_of index n (Some first) is = part_first index n first is

-- ---- backward

module _ {X : Type 0} where
  reverse-flat_map : {A : Type 0} (f : A → List X) (l : List A) → reverse (flat_map f l) ≡ flat_map (λ a. reverse (f a)) (reverse l)
  reverse-flat_map f [] = refl
  reverse-flat_map f (a ∷ l) =
      reverse-append (f a) (flat_map f l) ∙ ap (λ m. m ++ reverse (f a)) (reverse-flat_map f l)
      ∙ sym (ap (flat_map (λ b. reverse (f b))) (reverse-append (a ∷ []) l) ∙ flat_map-append (λ b. reverse (f b)) (reverse l) (a ∷ []) ∙ ap (λ m. flat_map (λ b. reverse (f b)) (reverse l) ++ m) (append-nil (reverse (f a))))

  -- The last n members of a list, in reverse order.
  take_back : (l : List X) (n : ℕ) → take n (reverse l) ≡ reverse (drop (length l - n) l)
  take_back l n =
      let cut : reverse l ≡ reverse (drop (length l - n) l) ++ reverse (take (length l - n) l) = ap reverse (sym (take-append-drop (length l - n) l)) ∙ reverse-append (take (length l - n) l) (drop (length l - n) l) in
      ap (take n) cut ∙ by n (length l - n) refl
    where
      by : (m k : ℕ) → length l - m ≡ k → take m (reverse (drop k l) ++ reverse (take k l)) ≡ reverse (drop k l)
      by m zero is = ap (take m) (append-nil (reverse l)) ∙ take_all m (reverse l) (omega (arith, length-reverse l, is))
      by m (suc k) is = take_at (reverse (drop (suc k) l)) (reverse (take (suc k) l)) m (omega (arith, length-reverse (drop (suc k) l), length-drop (suc k) l, is))

  -- The last n of the first `end` members of a list, in reverse order.
  pub part_back : (l : List X) (end n : ℕ) → end ≤ length l → take n (reverse (take end l)) ≡ reverse (part l (end - n) (min n end))
  part_back l end n short =
      let long : length (take end l) ≡ end = omega (arith, length-take end l) in
      let sum_is : end ≡ end - n + min n end = omega arith in
      take_back (take end l) n ∙ ap (λ m. reverse (drop (m - n) (take end l))) long
      ∙ ap (λ m. reverse (drop (end - n) (take m l))) sum_is ∙ ap reverse (drop-take (end - n) (min n end) l)

  pub parts_back : (shards : List (List X)) (end n : ℕ) (found : List Part) → end ≤ length (flatten shards) → ArePartsOf (lengths_of shards) (end - n) (min n end) found
      → take n (reverse (take end (flatten shards))) ≡ flat_map (λ p. back_in shards p) (reverse found)
  parts_back shards end n found short are =
      part_back (flatten shards) end n short ∙ ap reverse (parts_all shards found (end - n) (min n end) are) ∙ reverse-flat_map (λ p. part_in shards p) found

-- ---- ends

module _ {X : Type 0} where
  abbrev Empty : List (List X) → ℕ → ℕ → Type 0
  Empty shards from to = AreAllEmpty (lengths_of shards) from to

  later : (p : List X) (ps : List (List X)) (from to : ℕ) → Empty (p ∷ ps) (suc from) (suc to) → Empty ps from to
  later p ps from to empty = λ i low high. let a : suc from ≤ suc i = omega arith in let b : suc i < suc to = omega arith in empty (suc i) a b

  -- If shards 0 to `to` have no member, neither have the shards behind the first, up to `to`.
  later_all : (p : List X) (ps : List (List X)) (to : ℕ) → Empty (p ∷ ps) 0 (suc to) → Empty ps 0 to
  later_all p ps to empty = λ i low high. let a : 0 ≤ suc i = omega arith in let b : suc i < suc to = omega arith in empty (suc i) a b

  here_nil : (p : List X) (ps : List (List X)) (to : ℕ) → Empty (p ∷ ps) 0 (suc to) → p ≡ []
  here_nil p ps to empty = let a : 0 ≤ 0 = omega arith in let b : 0 < suc to = omega arith in nil_from_length p (empty 0 a b)

  pub none_before : (shards : List (List X)) (to : ℕ) → Empty shards 0 to → flatten (take to shards) ≡ []
  none_before shards zero empty = refl
  none_before [] (suc to) empty = refl
  none_before (p ∷ ps) (suc to) empty = rw (here_nil p ps to empty) (none_before ps to (later_all p ps to empty))

  pub none_from : (shards : List (List X)) (from : ℕ) → Empty shards from (length shards) → flatten (drop from shards) ≡ []
  none_from [] zero empty = refl
  none_from [] (suc from) empty = refl
  none_from (p ∷ ps) zero empty = rw (here_nil p ps (length ps) empty) (none_from ps zero (later_all p ps (length ps) empty))
  none_from (p ∷ ps) (suc from) empty = none_from ps from (later p ps from (length ps) empty)

  first_there : (shards : List (List X)) (from i : ℕ) → from ≤ i → 0 < length (piece_at shards i) → Empty shards from i → slice_get (flatten (drop from shards)) 0 ≡ slice_get (piece_at shards i) 0
  first_there [] from i low some empty = absurd (omega arith)
  first_there (p ∷ ps) zero zero low some empty = get_early p (flatten ps) 0 some
  first_there (p ∷ ps) zero (suc i) low some empty = let le : 0 ≤ i = omega arith in rw (here_nil p ps i empty) (first_there ps zero i le some (later_all p ps i empty))
  first_there (p ∷ ps) (suc from) zero low some empty = absurd (omega arith)
  first_there (p ∷ ps) (suc from) (suc i) low some empty = let le : from ≤ i = omega arith in first_there ps from i le some (later p ps from i empty)

  some_before : (shards : List (List X)) (to i : ℕ) → i < to → 0 < length (piece_at shards i) → 0 < length (flatten (take to shards))
  some_before [] to i high some = absurd (omega arith)
  some_before (p ∷ ps) zero i high some = absurd (omega arith)
  some_before (p ∷ ps) (suc to) zero high some = omega (arith, length-append p (flatten (take to ps)), some)
  some_before (p ∷ ps) (suc to) (suc i) high some = let lt : i < to = omega arith in let more = some_before ps to i lt some in omega (arith, length-append p (flatten (take to ps)), more)

  last_of_more : (xs ys : List X) → 0 < length ys → last_member (xs ++ ys) ≡ last_member ys
  last_of_more xs [] some = absurd (omega arith)
  last_of_more xs (y ∷ ys) some =
      let here : length (xs ++ y ∷ ys) - 1 ≡ length xs + length ys = omega (arith, length-append xs (y ∷ ys)) in
      let end : length (y ∷ ys) - 1 ≡ length ys = omega arith in
      rw (here, end) (get_past xs (y ∷ ys) (length ys))

  last_there : (shards : List (List X)) (to i : ℕ) → i < to → 0 < length (piece_at shards i) → Empty shards (i + 1) to → last_member (flatten (take to shards)) ≡ last_member (piece_at shards i)
  last_there [] to i high some empty = absurd (omega arith)
  last_there (p ∷ ps) zero i high some empty = absurd (omega arith)
  last_there (p ∷ ps) (suc to) zero high some empty =
      let rest : Empty ps 0 to = λ j low below. let a : 0 + 1 ≤ suc j = omega arith in let b : suc j < suc to = omega arith in empty (suc j) a b in
      rw (none_before ps to rest) (ap last_member (append-nil p))
  last_there (p ∷ ps) (suc to) (suc i) high some empty =
      let lt : i < to = omega arith in
      let rest : Empty ps (i + 1) to = λ j low below. let a : suc i + 1 ≤ suc j = omega arith in let b : suc j < suc to = omega arith in empty (suc j) a b in
      last_of_more p (flatten (take to ps)) (some_before ps to i lt some) ∙ last_there ps to i lt some rest

  pub first_from : (shards : List (List X)) (from : ℕ) (found : Option ℕ) → IsFirstFull (lengths_of shards) from (length shards) found → slice_get (flatten (drop from shards)) 0 ≡ first_in shards found
  first_from shards from None empty = rw (none_from shards from empty) refl
  first_from shards from (Some i) is = first_there shards from i is.0 (rw (length_at shards i) at is.2) is.3

  pub last_before : (shards : List (List X)) (to : ℕ) (found : Option ℕ) → IsLastFull (lengths_of shards) to found → last_member (flatten (take to shards)) ≡ last_in shards found
  last_before shards to None empty = rw (none_before shards to empty) refl
  last_before shards to (Some i) is = last_there shards to i is.0 (rw (length_at shards i) at is.1) is.2

  pub last_whole : (shards : List (List X)) (found : Option ℕ) → IsLastFull (lengths_of shards) (length shards) found → last_member (flatten shards) ≡ last_in shards found
  last_whole shards found is = let short : length shards ≤ length shards = omega arith in ap (λ l. last_member (flatten l)) (sym (take_all (length shards) shards short)) ∙ last_before shards (length shards) found is
