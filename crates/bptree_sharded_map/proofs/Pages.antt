-- Pages, ranges and pairs back from a key of the whole, by those of the shards that are called.
use Rattle.std.proofs.Common.{◌≡◌, ℕ, suc, ◌+◌, ◌-◌, ◌^◌, ◌<◌, ◌≤◌, List, [], ◌∷◌, ◌++◌, Option, None, length, map, take, drop, min, reverse, get_or, refl, sym, ap, subst, ◌∙◌, arith, length-append}
use Rattle.std.specs.declared.cmp.Ordering.{Ordering}
use Rattle.std.specs.List.{sum, flat_map}
use Rattle.std.specs.Cmp.{IsTotalOrder}
use Rattle.std.proofs.lemmas.List.{append-nil, length-map, length-take, length-drop, get_or-drop, take_more, take-append-drop, take-take, nil_from_length, reverse-append, map-append}
use Rattle.std.proofs.lemmas.List.Concat.{flat_map-append}
use Rattle.bptree_keys.specs.Pieces.{flatten, piece_at, start_of}
use Rattle.bptree_keys.specs.Ranges.{between, part}
use Rattle.bptree_shard_routing.specs.declared.combining.Part.{Part}
use Rattle.bptree_shard_routing.specs.Lengths.{lengths_of, IsFirstPart, IsNextPart}
use Rattle.bptree_shard_routing.specs.Shards.{shard_of, first_shard, last_shard, back_from}
use Rattle.bptree_shard_routing.proofs.LengthLemmas.{total, start_is, length_at, within, index_cut, part_first, part_none, take_two, part_back}
use Rattle.bptree_shard_routing.proofs.RangeLemmas.{shards_count, take_start, back_routed, between_routed}
use Rattle.bptree_sharded_map.specs.Whole.{IsWholeOfShards}
use Rattle.bptree_sharded_map.proofs.Asked.{asked}

plus_none : (n : ℕ) → n + 0 ≡ n
plus_none n = omega arith

module _ {T K V : Type 0} (cmp : K → K → Ordering) (pairs : T → List (K × V)) (bounds : List K) (items : List T) (lengths : List ℕ)
    (whole : IsWholeOfShards cmp bounds (map pairs items) lengths) where
  abbrev shards : List (List (K × V))
  shards = map pairs items

  -- ---- a page

  module _ (index n : ℕ) (first : Part) (is : IsFirstPart lengths index n first) where
    reported : IsFirstPart (lengths_of shards) index n first
    reported = rw whole.counted at is

    long : first.from < length (piece_at shards first.shard)
    long = rw (length_at shards first.shard) at reported.index_is.inside

    pub has_part : first.shard < length items
    has_part = omega (arith, within shards first.shard first.from long, length-map items pairs)

    pub page_more : (x : T) → x ≡ get_or items first.shard x
        → part (pairs x) first.from first.count ++ part (flatten shards) (index + first.count) (n - first.count) ≡ part (flatten shards) index n
    page_more x here =
        ap (λ l. part l first.from first.count ++ part (flatten shards) (index + first.count) (n - first.count)) (asked pairs items first.shard x has_part here)
        ∙ sym (part_first shards index n first reported)

    pub page_fits : index + first.count < 2 ^ 64
    page_fits =
        let piece = piece_at shards first.shard in
        let ahead = flatten (take first.shard shards) in
        let behind = flatten (drop (suc first.shard) shards) in
        let cut = ap length (index_cut shards index first.shard first.from reported.index_is) in
        let count = reported.count_is in
        let at = reported.index_is.sum_is in
        let own = length_at shards first.shard in
        omega (arith, cut, length-append ahead (piece ++ behind), length-append piece behind, count, at, own, start_is shards first.shard, long, total shards, ap sum whole.counted, whole.fits)

    pub page_left : first.count ≤ n
    page_left = omega (arith, reported.count_is)

  pub page_done : (index n : ℕ) (found : List (K × V)) → IsNextPart lengths index n None → found ++ part (flatten shards) index n ≡ found
  page_done index n found none = ap (λ l. found ++ l) (part_none shards index n (rw whole.counted at none)) ∙ append-nil found

  -- ---- a range

  same_count : length lengths ≡ length items
  same_count = ap length whole.counted ∙ length-map shards length ∙ length-map items pairs

  module _ (order : IsTotalOrder cmp) where
    -- the shard behind each bound exists
    pub has_shard : (i : ℕ) → i ≤ length bounds → i < length items
    has_shard i low = omega (arith, low, shards_count cmp order bounds shards whole.are bounds shards whole.are.between, length-map items pairs)

    pub has_length : (i : ℕ) → i ≤ length bounds → i < length lengths
    has_length i low = omega (arith, has_shard i low, same_count)

  module _ (lo hi : Option K) (first : ℕ) where
    -- the pairs of a range in the shards from the first one on and before another
    abbrev pub upto : ℕ → List (K × V)
    upto i = flat_map (λ shard. between cmp shard lo hi) (part shards first (i - first))

    upto_more : (i : ℕ) → first ≤ i → i < length items → upto (i + 1) ≡ upto i ++ between cmp (piece_at shards i) lo hi
    upto_more i low high =
        let own = λ (shard : List (K × V)). between cmp shard lo hi in
        let rest = drop first shards in
        let one : i + 1 - first ≡ i - first + 1 = omega (arith, low) in
        let short : i - first < length rest = omega (arith, low, high, length-drop first shards, length-map items pairs) in
        let at : first + (i - first) ≡ i = omega (arith, low) in
        ap (λ m. flat_map own (take m rest)) one ∙ ap (flat_map own) (take_more rest (i - first) [] short)
        ∙ flat_map-append own (take (i - first) rest) (get_or rest (i - first) [] ∷ [])
        ∙ ap (λ l. upto i ++ l) (append-nil (own (get_or rest (i - first) [])) ∙ ap own (get_or-drop first shards (i - first) [] ∙ ap (piece_at shards) at))

    module _ (n i : ℕ) (found : List (K × V)) (low : first ≤ i) (high : i < length items) (is : found ≡ take n (upto i)) where
      -- a shard without a pair is skipped
      pub range_skip : (own : ℕ) → own ≡ get_or lengths i own → own ≡ 0 → found ≡ take n (upto (i + 1))
      range_skip own read none =
          let zero_is : 0 ≡ length (piece_at shards i) = subst (λ m. m ≡ get_or lengths i m) none read ∙ ap (λ l. get_or l i 0) whole.counted ∙ length_at shards i in
          is ∙ ap (take n) (sym (upto_more i low high ∙ ap (λ l. upto i ++ between cmp l lo hi) (nil_from_length (piece_at shards i) (sym zero_is)) ∙ append-nil (upto i)))

      -- the next shard has more pairs of the range
      pub range_more : (x : T) → x ≡ get_or items i x → found ++ take (n - length found) (between cmp (pairs x) lo hi) ≡ take n (upto (i + 1))
      range_more x here =
          let own = between cmp (piece_at shards i) lo hi in
          let left : n - length found ≡ n - length (upto i) = omega (arith, ap length is, length-take n (upto i)) in
          ap (λ l. found ++ take (n - length found) (between cmp l lo hi)) (asked pairs items i x high here) ∙ ap (λ m. found ++ take m own) left ∙ ap (λ l. l ++ take (n - length (upto i)) own) is
          ∙ sym (ap (take n) (upto_more i low high) ∙ take_two n (upto i) own)

      -- no pair is missing
      pub range_full : (end : ℕ) → i ≤ end → n ≤ length found → found ≡ take n (upto end)
      range_full end near full =
          let own = λ (shard : List (K × V)). between cmp shard lo hi in
          let all = part shards first (end - first) in
          let less : i - first ≤ end - first = omega (arith, near) in
          let cut : upto end ≡ upto i ++ flat_map own (drop (i - first) all) =
          ap (flat_map own) (sym (take-append-drop (i - first) all)) ∙ flat_map-append own (take (i - first) all) (drop (i - first) all)
          ∙ ap (λ l. flat_map own l ++ flat_map own (drop (i - first) all)) (take-take (i - first) (end - first) (drop first shards) less) in
          let none : n - length (upto i) ≡ 0 = omega (arith, full, ap length is, length-take n (upto i)) in
          is ∙ sym (ap (take n) cut ∙ take_two n (upto i) (flat_map own (drop (i - first) all)) ∙ ap (λ m. take n (upto i) ++ take m (flat_map own (drop (i - first) all))) none ∙ append-nil (take n (upto i)))

  module _ (order : IsTotalOrder cmp) (lo hi : Option K) (n : ℕ) (found : List (K × V)) (first last : ℕ) (starts : first ≡ first_shard cmp bounds lo) (ends : last ≡ last_shard cmp bounds hi) where
    -- all shards that may have a pair were called
    pub range_all : found ≡ take n (upto lo hi first (last + 1)) → found ≡ take n (between cmp (flatten shards) lo hi)
    range_all is =
        is ∙ ap (λ i. take n (upto lo hi i (last + 1))) starts ∙ ap (λ i. take n (upto lo hi (first_shard cmp bounds lo) (i + 1))) ends
        ∙ ap (take n) (sym (between_routed cmp order bounds shards whole.are lo hi))

    pub range_end : (i : ℕ) → last + 1 ≤ i → i - first ≤ last + 1 - first → found ≡ take n (upto lo hi first i) → found ≡ take n (between cmp (flatten shards) lo hi)
    range_end i past near is =
        let same : i - first ≡ last + 1 - first = omega (arith, past, near) in
        range_all (is ∙ ap (λ m. take n (flat_map (λ shard. between cmp shard lo hi) (part shards first m))) same)

  -- ---- back from a key

  module _ (order : IsTotalOrder cmp) (k : K) (i : ℕ) (at : i ≡ shard_of cmp bounds k) (x : T) (short : i < length items) (here : x ≡ get_or items i x) (n : ℕ) where
    abbrev before : List (K × V)
    before = take (start_of shards (shard_of cmp bounds k)) (flatten shards)

    -- the pairs back from a key are those of its own shard, and then those of the page before
    pub back_more : (found rest : List (K × V)) (end count : ℕ) → found ≡ take n (back_from cmp (pairs x) k) → end ≡ sum (take i lengths) + 0 → count ≡ min end (n - length found)
        → rest ≡ part (flatten shards) (end - count) count → found ++ reverse rest ≡ take n (back_from cmp (flatten shards) k)
    back_more found rest end count own end_is count_is rest_is =
        let there = back_from cmp (piece_at shards (shard_of cmp bounds k)) k in
        let found_is : found ≡ take n there = own ∙ ap (λ l. take n (back_from cmp l k)) (asked pairs items i x short here ∙ ap (piece_at shards) at) in
        let left : n - length found ≡ n - length there = omega (arith, ap length found_is, length-take n there) in
        let start : end ≡ start_of shards (shard_of cmp bounds k) =
        end_is ∙ plus_none (sum (take i lengths)) ∙ ap (λ j. sum (take j lengths)) at ∙ ap (λ l. sum (take (shard_of cmp bounds k) l)) whole.counted ∙ sym (start_is shards (shard_of cmp bounds k)) in
        let inside : end ≤ length (flatten shards) = omega (arith, start, ap length (take_start shards (shard_of cmp bounds k)), length-take (start_of shards (shard_of cmp bounds k)) (flatten shards)) in
        let from : end - count ≡ end - (n - length found) = omega (arith, count_is) in
        let many : count ≡ min (n - length found) end = omega (arith, count_is) in
        ap (λ l. found ++ reverse l) (rest_is ∙ ap (λ m. part (flatten shards) m count) from ∙ ap (part (flatten shards) (end - (n - length found))) many)
        ∙ ap (λ l. found ++ l) (sym (part_back (flatten shards) end (n - length found) inside))
        ∙ ap (λ l. l ++ take (n - length found) (reverse (take end (flatten shards)))) found_is
        ∙ ap (λ m. take n there ++ take m (reverse (take end (flatten shards)))) left
        ∙ ap (λ m. take n there ++ take (n - length there) (reverse (take m (flatten shards)))) start
        ∙ sym (back_routed cmp order bounds shards k whole.are n)

-- a vector of references that is reversed shows the reversed list
module _ {X Y : Type 0} (f : X → Y) where
  pub map-reverse : (l : List X) → map f (reverse l) ≡ reverse (map f l)
  map-reverse [] = refl
  map-reverse (x ∷ l) = ap (map f) (reverse-append (x ∷ []) l) ∙ map-append f (reverse l) (x ∷ []) ∙ ap (λ m. m ++ f x ∷ []) (map-reverse l) ∙ sym (reverse-append (f x ∷ []) (map f l))
