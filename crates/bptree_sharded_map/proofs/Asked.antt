-- Results of the whole, by the results of the shard that is called.
use Rattle.std.proofs.Common.{◌≡◌, ℕ, zero, suc, ◌+◌, ◌-◌, ◌^◌, ◌<◌, ◌≤◌, Bool, true, false, List, [], ◌∷◌, ◌++◌, Option, Some, None, Result, Ok, Err, OnErr, IsTrue, length, map, take, drop, set, slice_get, slice_index, get_or, refl, sym, ap, subst, cond, ◌∙◌, arith, length-append}
use Rattle.std.specs.declared.cmp.Ordering.{Ordering}
use Rattle.std.specs.List.{sum}
use Rattle.std.specs.Option.{option_or, option_map, is_some}
use Rattle.std.specs.Cmp.{IsTotalOrder}
use Rattle.std.proofs.lemmas.List.{length-map, map-set, set-get_or, get_or-set_same, take_more, take_all}
use Rattle.std.proofs.lemmas.List.Sums.{length-filter, count_by-le-length}
use Rattle.std.specs.Ordering.{is_lt}
use Rattle.bptree_keys.specs.Contents.{has, value, put, del, next, previous, pairs_below, last_member}
use Rattle.bptree_keys.specs.Pieces.{flatten, piece_at, start_of}
use Rattle.bptree_keys.proofs.Updates.{length_put, length_del}
use Rattle.bptree_shard_routing.specs.Lengths.{lengths_of, IsIndexFound, IsFirstFull, IsLastFull, first_in}
use Rattle.bptree_shard_routing.specs.Shards.{AreShards, shard_of, shard_below}
use Rattle.bptree_shard_routing.proofs.LengthLemmas.{total, start_is, length_at, within, member_located, last_before}
use Rattle.bptree_shard_routing.proofs.RangeLemmas.{routed_below, next_found, previous_lower}
use Rattle.bptree_shard_routing.proofs.ShardLemmas.{routed, value_routed, has_routed, put_routed, put_stays, del_routed, del_stays, rank_routed, next_routed}
use Rattle.bptree_tree.specs.declared.InsertError.{InsertError}
use Rattle.bptree_tree.specs.Changes.{IsFull, FailsIfFull}
use Rattle.bptree_keys.proofs.PieceLemmas.{flatten-cut}
use Rattle.bptree_sharded_map.specs.Failures.{ShardHasRoom}
use Rattle.bptree_sharded_map.specs.Whole.{IsWholeOfShards, Partition}

module _ {T X : Type 0} (pairs : T → List X) where
  -- the pairs of a shard that is read are the piece at its index
  pub asked : (items : List T) (i : ℕ) (x : T) → i < length items → x ≡ get_or items i x → pairs x ≡ piece_at (map pairs items) i
  asked [] i x short is = absurd (omega arith)
  asked (y ∷ items) zero x short is = ap pairs is
  asked (y ∷ items) (suc i) x short is = let small : i < length items = omega arith in asked items i x small is

  pub lengths-set : (items : List T) (i : ℕ) (x : T) → lengths_of (map pairs (set items i x)) ≡ set (lengths_of (map pairs items)) i (length (pairs x))
  lengths-set [] i x = refl
  lengths-set (y ∷ items) zero x = refl
  lengths-set (y ∷ items) (suc i) x = ap (λ l. length (pairs y) ∷ l) (lengths-set items i x)

-- an option that has a value, and one that is `None`, beside a default
module _ {R X : Type 0} (shows : R → X) where
  or_some : (r : Option R) (o : Option X) → true ≡ is_some r → option_map shows r ≡ option_or (option_map shows r) o
  or_some None o some = absurd cc
  or_some (Some x) o some = refl

  not_some : (r : Option R) → false ≡ is_some r → option_map shows r ≡ None
  not_some None none = refl
  not_some (Some x) none = absurd cc

-- the greatest number of pairs
abbrev pub most : ℕ
most = 2 ^ 64 - 1

-- the number of pairs after a key is put fits
one_fits : (b : Bool) (n : ℕ) → n < 2 ^ 64 → ShardHasRoom n b → cond b n (n + 1) < 2 ^ 64
one_fits true n fits room = fits
one_fits false n fits room = room refl

-- the parts of a whole over shards
abbrev partition : {K V : Type 0} → List K → List (List (K × V)) → Partition K V
partition bounds shards = record { bounds = bounds; shards = shards }

err_not_ok : {A E : Type 0} (e : E) (a : A) → ◌≡◌ {A = Result A E} (Err e) (Ok a) → ⊥
err_not_ok e a is = absurd cc

-- a member that was written is read
pub read_back : {T : Type 0} (items : List T) (i : ℕ) (x y : T) → i < length items → x ≡ get_or (set items i y) i x → x ≡ y
read_back items i x y short is = is ∙ get_or-set_same items i y x short

set_same : {X : Type 0} (pieces : List (List X)) (i : ℕ) → set pieces i (piece_at pieces i) ≡ pieces
set_same pieces i = set-get_or pieces i []

-- an index that the bounds determine, by the bounds as they were read
summary_of_group : {B : Type 0} (number : B → ℕ) (i : ℕ) {read now : B} → i ≡ number read → read ≡ now → i ≡ number now
summary_of_group number i route same = route ∙ ap number same

-- a whole whose parts are unchanged is a whole
pub same_parts : {T K V : Type 0} {cmp : K → K → Ordering} (pairs : T → List (K × V)) {bounds new_bounds : List K} (items new_items : List T) {lengths new_lengths : List ℕ}
    → new_bounds ≡ bounds → new_items ≡ items → new_lengths ≡ lengths → IsWholeOfShards cmp bounds (map pairs items) lengths → IsWholeOfShards cmp new_bounds (map pairs new_items) new_lengths
same_parts pairs items new_items same_bounds same_items same_lengths whole = rw (same_bounds, same_items, same_lengths) whole

module _ {T K V : Type 0} {cmp : K → K → Ordering} (order : IsTotalOrder cmp) (pairs : T → List (K × V)) {bounds : List K} (items : List T) {lengths : List ℕ}
    (whole : IsWholeOfShards cmp bounds (map pairs items) lengths) where
  abbrev shards : List (List (K × V))
  shards = map pairs items

  pub len_whole : sum lengths ≡ length (flatten shards)
  len_whole = ap sum whole.counted ∙ sym (total shards)

  pub same_count : length lengths ≡ length items
  same_count = ap length whole.counted ∙ length-map shards length ∙ length-map items pairs

  there : (i : ℕ) → i < length shards → i < length items
  there i short = omega (arith, short, length-map items pairs)

  -- there are as many lengths as shards
  same_shards_count : length lengths ≡ length shards
  same_shards_count = ap length whole.counted ∙ length-map shards length

  full_there : (from to j : ℕ) → IsFirstFull lengths from to (Some j) → j < length items
  full_there from to j is = there j (within shards j 0 (rw (length_at shards j) at (rw whole.counted at is.2)))

  -- ---- a key

  -- the shard of a key, by the bounds as they were read
  module _ (k : K) (i : ℕ) {read : List K} (route : i ≡ shard_of cmp read k) (same : read ≡ bounds) where
    is : i ≡ shard_of cmp bounds k
    is = summary_of_group (λ l. shard_of cmp l k) i route same

    pub routed_within : i < length items
    routed_within = rw is (there (shard_of cmp bounds k) (routed cmp order k bounds shards whole.are.between).in_range)

    pub routed_counted : i < length lengths
    routed_counted = omega (arith, routed_within, same_count)

    module _ (x : T) (here : x ≡ get_or items i x) where
      own : pairs x ≡ piece_at shards (shard_of cmp bounds k)
      own = asked pairs items i x routed_within here ∙ ap (piece_at shards) is

      pub value_asked : value cmp (pairs x) k ≡ value cmp (flatten shards) k
      value_asked = ap (λ l. value cmp l k) own ∙ sym (value_routed cmp order bounds shards k whole.are)

      pub has_asked : has cmp (pairs x) k ≡ has cmp (flatten shards) k
      has_asked = ap (λ l. has cmp l k) own ∙ sym (has_routed cmp order bounds shards k whole.are)

      -- a shard has at most as many pairs as the whole
      shorter : length (pairs x) ≤ length (flatten shards)
      shorter =
          let at = shard_of cmp bounds k in
          let inside = (routed cmp order k bounds shards whole.are.between).in_range in
          let long = ap length (flatten-cut shards at inside) ∙ length-append (flatten (take at shards)) (piece_at shards at ++ flatten (drop (suc at) shards)) in
          omega (arith, long, length-append (piece_at shards at) (flatten (drop (suc at) shards)), ap length own)

      pub absent_whole : has cmp (pairs x) k ≡ false → has cmp (flatten shards) k ≡ false
      absent_whole absent = sym has_asked ∙ absent

      -- ---- an insertion or a removal that fails

      -- a key is present in the whole if and only if it is in its shard
      pub present_asked : {P : Type 0} → (IsTrue (has cmp (pairs x) k) → P) → IsTrue (has cmp (flatten shards) k) → P
      present_asked {P} reported = subst (λ b. IsTrue b → P) has_asked reported

      pub absent_asked : {A E : Type 0} (r : Result (Option A) E) → (has cmp (pairs x) k ≡ false → r ≡ Ok None) → has cmp (flatten shards) k ≡ false → r ≡ Ok None
      absent_asked r reported absent = reported (has_asked ∙ absent)

      pub absent_is_ok : {A E : Type 0} (e : E) → (has cmp (pairs x) k ≡ false → ◌≡◌ {A = Result (Option A) E} (Err e) (Ok None)) → has cmp (flatten shards) k ≡ false → ⊥
      absent_is_ok e reported absent = err_not_ok e None (reported (has_asked ∙ absent))

      -- an allocation may fail in the whole if it may in the key's shard
      pub memory_asked : (holds : List (K × V) → K → Type 0) (P : Type 0 → Type 0) → P (holds (pairs x) k) → P (holds (piece_at shards (shard_of cmp bounds k)) k)
      memory_asked holds P reported = subst (λ l. P (holds l k)) own reported

      -- the whole is full, by the lengths as they were read
      pub full_asked : {counts : List ℕ} → counts ≡ lengths → sum counts ≡ most → has cmp (pairs x) k ≡ false → IsFull cmp most (flatten shards) k
      full_asked same_counts all absent = (sym len_whole ∙ ap sum (sym same_counts) ∙ all, sym has_asked ∙ absent)

      pub full_of_shard : {A : Type 0} (v : V) (r : Result A (InsertError K V)) → ShardHasRoom (sum lengths) (has cmp (flatten shards) k) → FailsIfFull cmp most (pairs x) k v r
          → FailsIfFull cmp most (flatten shards) k v r
      full_of_shard v r room reported = (
        λ error. let own_full = reported.0 error in (omega (arith, own_full.0, shorter, len_whole, whole.fits), sym has_asked ∙ own_full.1),
        λ full. absurd (omega (arith, room full.1, len_whole, full.0)),
      )

      pub room_asked : {counts : List ℕ} → counts ≡ lengths → ShardHasRoom (sum counts) (has cmp (pairs x) k) → ShardHasRoom (sum lengths) (has cmp (flatten shards) k)
      room_asked same_counts room absent = subst (λ ns. sum ns + 1 < 2 ^ 64) same_counts (room (has_asked ∙ absent))

      pub rank_asked : sum (take i lengths) + length (pairs_below cmp (pairs x) k) ≡ length (pairs_below cmp (flatten shards) k)
      rank_asked =
          ap (λ n. n + length (pairs_below cmp (pairs x) k)) (ap (λ j. sum (take j lengths)) is ∙ ap (λ l. sum (take (shard_of cmp bounds k) l)) whole.counted ∙ sym (start_is shards (shard_of cmp bounds k)))
          ∙ ap (λ l. start_of shards (shard_of cmp bounds k) + length (pairs_below cmp l k)) own ∙ sym (rank_routed cmp order bounds shards k whole.are)

      -- a rank fits
      pub rank_fits : sum (take i lengths) + length (pairs_below cmp (pairs x) k) < 2 ^ 64
      rank_fits = omega (arith, rank_asked, length-filter (λ (pair : K × V). is_lt (cmp pair.0 k)) (flatten shards), count_by-le-length (λ (pair : K × V). is_lt (cmp pair.0 k)) (flatten shards), len_whole, whole.fits)

      -- one shard changed
      module _ (y : T) where
        pub changed : (new : List (K × V)) → pairs y ≡ new → map pairs (set items i y) ≡ set shards (shard_of cmp bounds k) new
        changed new is_new = map-set pairs items i y ∙ ap (λ j. set shards j (pairs y)) is ∙ ap (set shards (shard_of cmp bounds k)) is_new

        pub put_asked : (v : V) → pairs y ≡ put cmp (pairs x) k v → flatten (map pairs (set items i y)) ≡ put cmp (flatten shards) k v
        put_asked v is_put = ap flatten (changed (put cmp (piece_at shards (shard_of cmp bounds k)) k v) (is_put ∙ ap (λ l. put cmp l k v) own)) ∙ put_routed cmp order bounds shards k whole.are v

        pub del_asked : pairs y ≡ del cmp (pairs x) k → flatten (map pairs (set items i y)) ≡ del cmp (flatten shards) k
        del_asked is_del = ap flatten (changed (del cmp (piece_at shards (shard_of cmp bounds k)) k) (is_del ∙ ap (λ l. del cmp l k) own)) ∙ del_routed cmp order bounds shards k whole.are

        -- the number of pairs of that shard, read at the index at which it was written
        module _ (n : ℕ) (z : T) (long : n ≡ length (pairs z)) (back : z ≡ get_or (set items i y) i z) where
          pub counted : set lengths i n ≡ lengths_of (map pairs (set items i y))
          counted =
              ap (λ l. set l i n) whole.counted ∙ ap (set (lengths_of shards) i) (long ∙ ap (λ shard. length (pairs shard)) (read_back items i z y routed_within back))
              ∙ sym (lengths-set pairs items i y)

          pub put_whole : (v : V) → pairs y ≡ put cmp (pairs x) k v → ShardHasRoom (sum lengths) (has cmp (flatten shards) k) → IsWholeOfShards cmp bounds (map pairs (set items i y)) (set lengths i n)
          put_whole v is_put room = record {
            are = subst (AreShards cmp bounds) (sym (changed (put cmp (piece_at shards (shard_of cmp bounds k)) k v) (is_put ∙ ap (λ l. put cmp l k v) own))) (put_stays cmp order bounds shards k whole.are v);
            counted = counted;
            fits =
                let sum_is = ap sum counted ∙ sym (total (map pairs (set items i y))) ∙ ap length (put_asked v is_put) ∙ length_put cmp order (flatten shards) whole.are.ascending k v in
                let now_fits = one_fits (has cmp (flatten shards) k) (length (flatten shards)) (omega (arith, len_whole, whole.fits)) (λ absent. omega (arith, room absent, len_whole)) in
                omega (arith, sum_is, now_fits);
          }

          pub del_whole : pairs y ≡ del cmp (pairs x) k → IsWholeOfShards cmp bounds (map pairs (set items i y)) (set lengths i n)
          del_whole is_del = record {
            are = subst (AreShards cmp bounds) (sym (changed (del cmp (piece_at shards (shard_of cmp bounds k)) k) (is_del ∙ ap (λ l. del cmp l k) own))) (del_stays cmp order bounds shards k whole.are);
            counted = counted;
            fits =
                let sum_is = ap sum counted ∙ sym (total (map pairs (set items i y))) ∙ ap length (del_asked is_del) in
                let fewer = length_del cmp order (flatten shards) whole.are.ascending k in
                omega (arith, sum_is, fewer, len_whole, whole.fits);
          }

        -- an operation that failed leaves the shards unchanged
        same_shards : pairs y ≡ pairs x → map pairs (set items i y) ≡ shards
        same_shards is_same = map-set pairs items i y ∙ ap (set shards i) (is_same ∙ asked pairs items i x routed_within here) ∙ set_same shards i

        pub same_asked : pairs y ≡ pairs x → flatten (map pairs (set items i y)) ≡ flatten shards
        same_asked is_same = ap flatten (same_shards is_same)

        pub same_partition : pairs y ≡ pairs x → partition bounds (map pairs (set items i y)) ≡ partition bounds shards
        same_partition is_same = ap (partition bounds) (same_shards is_same)

        pub same_whole : pairs y ≡ pairs x → IsWholeOfShards cmp bounds (map pairs (set items i y)) lengths
        same_whole is_same = rw (same_shards is_same) whole

      -- ---- the pair behind a key

      module _ {R : Type 0} (shows : R → K × V) (r : Option R) (reported : option_map shows r ≡ next cmp (pairs x) k) where
        from_next : option_map shows r ≡ next cmp (piece_at shards (shard_of cmp bounds k)) k
        from_next = reported ∙ ap (λ l. next cmp l k) own

        next_by : (found : Option ℕ) → IsFirstFull lengths (i + 1) (length lengths) found → next cmp (flatten shards) k ≡ option_or (option_map shows r) (first_in shards found)
        next_by found full =
            next_found cmp order bounds shards k whole.are found (rw whole.counted at (rw same_shards_count at (subst (λ j. IsFirstFull lengths (j + 1) (length lengths) found) is full)))
            ∙ ap (λ o. option_or o (first_in shards found)) (sym from_next)

        pub next_own : true ≡ is_some r → option_map shows r ≡ next cmp (flatten shards) k
        next_own some = or_some shows r (slice_get (flatten (drop (suc (shard_of cmp bounds k)) shards)) 0) some
            ∙ ap (λ o. option_or o (slice_get (flatten (drop (suc (shard_of cmp bounds k)) shards)) 0)) from_next ∙ sym (next_routed cmp order bounds shards k whole.are)

        -- the pair behind a key, by the lengths as they were read
        module _ {counts : List ℕ} (same_counts : counts ≡ lengths) (none : false ≡ is_some r) where
          next_read : (found : Option ℕ) → IsFirstFull counts (i + 1) (length counts) found → next cmp (flatten shards) k ≡ first_in shards found
          next_read found full = next_by found (rw same_counts at full) ∙ ap (λ o. option_or o (first_in shards found)) (not_some shows r none)

          pub next_none : IsFirstFull counts (i + 1) (length counts) None → None ≡ next cmp (flatten shards) k
          next_none full = sym (next_read None full)

          pub next_some : (j : ℕ) (y : T) → IsFirstFull counts (i + 1) (length counts) (Some j) → y ≡ get_or items j y → slice_get (pairs y) 0 ≡ next cmp (flatten shards) k
          next_some j y full there_y =
              ap (λ l. slice_get l 0) (asked pairs items j y (full_there (i + 1) (length lengths) j (rw same_counts at full)) there_y) ∙ sym (next_read (Some j) full)

  -- ---- the pair before a key

  module _ (k : K) (i : ℕ) {read : List K} (route : i ≡ shard_below cmp read k) (same : read ≡ bounds) where
    pub below_routed_within : i < length items
    below_routed_within = rw (summary_of_group (λ l. shard_below cmp l k) i route same) (there (shard_below cmp bounds k) (routed_below cmp order k bounds shards whole.are.between).in_range)

    module _ (x : T) (here : x ≡ get_or items i x) where
      previous_is : previous cmp (flatten shards) k ≡ option_or (previous cmp (pairs x) k) (last_member (flatten (take i shards)))
      previous_is =
          previous_lower cmp order bounds shards k whole.are
          ∙ ap (λ j. option_or (previous cmp (piece_at shards j) k) (last_member (flatten (take j shards)))) (sym (summary_of_group (λ l. shard_below cmp l k) i route same))
          ∙ ap (λ l. option_or (previous cmp l k) (last_member (flatten (take i shards)))) (sym (asked pairs items i x below_routed_within here))

      pub previous_own : (found : K × V) → Some found ≡ previous cmp (pairs x) k → Some found ≡ previous cmp (flatten shards) k
      previous_own found reported = sym (previous_is ∙ ap (λ o. option_or o (last_member (flatten (take i shards)))) (sym reported))

      pub previous_none : None ≡ previous cmp (pairs x) k → last_member (flatten (take i shards)) ≡ previous cmp (flatten shards) k
      previous_none reported = sym (previous_is ∙ ap (λ o. option_or o (last_member (flatten (take i shards)))) (sym reported))

  -- ---- indexes and ends

  -- all shards are before the last end
  pub last_asked : (read : List T) (end : ℕ) → read ≡ items → end ≡ length items → last_member (flatten (take end (map pairs read))) ≡ last_member (flatten shards)
  last_asked read end same all =
      let past : length shards ≤ end = omega (arith, all, length-map items pairs) in
      ap (λ l. last_member (flatten (take end (map pairs l)))) same ∙ ap (λ l. last_member (flatten l)) (take_all end shards past)

  -- the pair at an index, by the lengths as they were read
  module _ {counts : List ℕ} (same_counts : counts ≡ lengths) where
    pub at_none : (index : ℕ) → IsIndexFound counts index None → None ≡ slice_get (flatten shards) index
    at_none index past = sym (member_located shards index None (rw whole.counted at (rw same_counts at past)))

    pub at_asked : (index shard n : ℕ) (x : T) → IsIndexFound counts index (Some (shard, n)) → x ≡ get_or items shard x → slice_get (pairs x) n ≡ slice_get (flatten shards) index
    at_asked index shard n x is here =
        let found = rw whole.counted at (rw same_counts at is) in
        let long : n < length (piece_at shards shard) = rw (length_at shards shard) at found.inside in
        ap (λ l. slice_get l n) (asked pairs items shard x (there shard (within shards shard n long)) here) ∙ sym (member_located shards index (Some (shard, n)) found)

-- the last pair of the shards before an end
module _ {T X : Type 0} (pairs : T → List X) (items : List T) {lengths : List ℕ} (counted : lengths ≡ lengths_of (map pairs items)) (end : ℕ) where
  pub last_none : IsLastFull lengths end None → None ≡ last_member (flatten (take end (map pairs items)))
  last_none full = sym (last_before (map pairs items) end None (rw counted at full))

  pub in_lengths : end ≤ length items → end ≤ length lengths
  in_lengths in_range = omega (arith, in_range, ap length counted, length-map (map pairs items) length, length-map items pairs)

  pub last_some : end ≤ length items → (j : ℕ) (y : T) → IsLastFull lengths end (Some j) → y ≡ get_or items j y
      → slice_get (pairs y) (slice_index lengths j - 1) ≡ last_member (flatten (take end (map pairs items)))
  last_some in_range j y full here =
      let short : j < length items = omega (arith, full.0, in_range) in
      let long : slice_index lengths j ≡ length (piece_at (map pairs items) j) = ap (λ l. slice_index l j) counted ∙ length_at (map pairs items) j in
      ap (λ n. slice_get (pairs y) (n - 1)) long ∙ ap (λ l. slice_get l (length (piece_at (map pairs items) j) - 1)) (asked pairs items j y short here)
      ∙ sym (last_before (map pairs items) end (Some j) (rw counted at full))

pub on_err : {A E : Type 0} {P : Type 0} (r : Result A E) → P → OnErr r P
on_err (Ok x) p = tt
on_err (Err e) p = p

module _ {T X : Type 0} (pairs : T → List X) (items : List T) where
  pub lengths_more : (i : ℕ) (x : T) → i < length items → x ≡ get_or items i x → take (i + 1) (lengths_of (map pairs items)) ≡ take i (lengths_of (map pairs items)) ++ length (pairs x) ∷ []
  lengths_more i x short is =
      let long : i < length (lengths_of (map pairs items)) = omega (arith, short, length-map (map pairs items) length, length-map items pairs) in
      take_more (lengths_of (map pairs items)) i 0 long
      ∙ ap (λ n. take i (lengths_of (map pairs items)) ++ n ∷ []) (length_at (map pairs items) i ∙ ap length (sym (asked pairs items i x short is)))

  pub lengths_all : (i : ℕ) → length items ≤ i → take i (lengths_of (map pairs items)) ≡ lengths_of (map pairs items)
  lengths_all i past = take_all i (lengths_of (map pairs items)) (omega (arith, past, length-map (map pairs items) length, length-map items pairs))

-- the shard of a key exists, and so does its length
pub ruleset routing = (routed_within, routed_counted)
