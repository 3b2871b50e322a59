-- The whole after a split of a shard, and after a merge of two.
use Rattle.std.proofs.Common.{◌≡◌, ℕ, zero, suc, ◌+◌, ◌<◌, ◌≤◌, Bool, true, false, not, ◌&&◌, List, [], ◌∷◌, ◌++◌, Some, None, length, map, take, drop, set, insert, remove, get_or, refl, sym, ap, subst, cond, ◌∙◌, append_assoc, append-nil, length-append, arith}
use Rattle.std.specs.declared.cmp.Ordering.{Ordering}
use Rattle.std.specs.declared.cmp.Ordering.TheVariants.{Less, Equal, Greater}
use Rattle.std.specs.Ordering.{is_lt, is_gt, ordering_reverse}
use Rattle.std.specs.Cmp.{IsTotalOrder}
use Rattle.std.specs.List.{AllByRecursion, sum}
use Rattle.std.specs.Map.{keys_of}
use Rattle.std.proofs.Math.Seq.{map-set_same}
use Rattle.std.proofs.lemmas.List.{take-append-drop, length-take, length-map, map-set}
use Rattle.std.proofs.lemmas.List.Edits.{length-remove}
use Rattle.std.proofs.lemmas.Cmp.{alike_right}
use Rattle.std.proofs.lemmas.Map.Keys.{sorted_head, sorted_tail}
use Rattle.bptree_keys.specs.Contents.{IsAscending}
use Rattle.bptree_keys.specs.Pieces.{flatten, piece_at}
use Rattle.bptree_keys.specs.Indexes.{AllCompare, IsKeyGap}
use Rattle.bptree_keys.specs.Ranges.{between}
use Rattle.bptree_keys.proofs.Ascending.{equal_parts, less_turned}
use Rattle.bptree_keys.proofs.Parted.{put_gap, del_hit}
use Rattle.bptree_keys.proofs.Updates.{del_ascending}
use Rattle.bptree_keys.proofs.PieceLemmas.{flatten-cut, AllByRecursion-append, AllByRecursion-left, AllByRecursion-right, AllByRecursion-weaker}
use Rattle.bptree_invariant.proofs.Ordered.{ascending_after}
use Rattle.bptree_invariant.proofs.Spot.{ascending_before}
use Rattle.bptree_bulk.specs.Weave.{put_all, put_pair}
use Rattle.bptree_shard_routing.specs.Lengths.{lengths_of}
use Rattle.bptree_shard_routing.specs.Shards.{AreShards, LieBetween, NoneBelow, shard_of}
use Rattle.bptree_shard_routing.proofs.LengthLemmas.{total}
use Rattle.bptree_shard_routing.specs.Moves.{AreSameWhole}
use Rattle.bptree_shard_routing.proofs.MoveLemmas.{shard_splits}
use Rattle.bptree_shard_routing.proofs.RangeLemmas.{shards_count}
use Rattle.bptree_shard_routing.proofs.PartLemmas.{flatten_set}
use Rattle.bptree_shard_routing.proofs.ShardLemmas.{lie_between_after_set}
use Rattle.bptree_sharded_map.specs.Whole.{IsWholeOfShards, Partition, descends_at}
use Rattle.bptree_sharded_map.proofs.Asked.{asked, lengths-set, same_count, routed_within, changed, counted, read_back}

-- ---- pairs that are put back

-- a key equals itself
alike : (o : Ordering) → o ≡ ordering_reverse o → o ≡ Equal
alike Less is = absurd cc
alike Equal is = refl
alike Greater is = absurd cc

module _ {K V : Type 0} (cmp : K → K → Ordering) (order : IsTotalOrder cmp) where
  abbrev put_one : List (K × V) → K × V → List (K × V)
  put_one = put_pair cmp

  -- pairs that are put back into the list that they were removed from restore it
  pub put_back : (gone before after : List (K × V)) → IsAscending cmp (before ++ (gone ++ after)) → (put_all put_one (before ++ after) gone ≡ before ++ (gone ++ after)) × IsAscending cmp (before ++ after)
  put_back [] before after ascending = (refl, ascending)
  put_back (p ∷ gone) before after ascending =
      let equal : cmp p.0 p.0 ≡ Equal = alike (cmp p.0 p.0) (order.antisymm p.0 p.0) in
      let hit = equal_parts cmp order before p (gone ++ after) p.0 ascending equal in
      let gap : IsKeyGap cmp (before ++ after) before after p.0 = record { parts = refl; smaller = hit.smaller; greater = AllByRecursion-right (λ pair. cmp pair.0 p.0 ≡ Greater) gone after hit.greater } in
      let moved : before ++ p ∷ (gone ++ after) ≡ (before ++ p ∷ []) ++ (gone ++ after) = sym (append_assoc before (p ∷ []) (gone ++ after)) in
      let one : before ++ p ∷ after ≡ (before ++ p ∷ []) ++ after = sym (append_assoc before (p ∷ []) after) in
      let rest = put_back gone (before ++ p ∷ []) after (subst (IsAscending cmp) moved ascending) in
      let here = subst (IsAscending cmp) (sym one) rest.1 in (
        ap (λ l. put_all put_one l gone) (put_gap cmp (before ++ after) before after p.0 gap p.1 ∙ one) ∙ rest.0 ∙ sym moved,
        subst (IsAscending cmp) (del_hit cmp (before ++ p ∷ after) before p after p.0 (equal_parts cmp order before p after p.0 here equal)) (del_ascending cmp (before ++ p ∷ after) p.0 here),
      )

  -- pairs that are all above a list are appended to it
  pub put_behind : (l more : List (K × V)) → IsAscending cmp (l ++ more) → put_all put_one l more ≡ l ++ more
  put_behind l more ascending =
      let none : l ++ more ≡ l ++ (more ++ []) = ap (λ m. l ++ m) (sym (append-nil more)) in
      ap (λ m. put_all put_one m more) (sym (append-nil l)) ∙ (put_back more l [] (subst (IsAscending cmp) none ascending)).0 ∙ sym none

  -- ---- a list that is cut at a key

  module _ (k : K) where
    low_step : (p : K × V) (rest : List (K × V)) (o : Ordering) → cmp p.0 k ≡ o → AllCompare cmp k Less rest → AllCompare cmp k Less (cond (is_lt o) (p ∷ rest) rest)
    low_step p rest Less is all = (is, all)
    low_step p rest Equal is all = all
    low_step p rest Greater is all = all

    low : (l : List (K × V)) → AllCompare cmp k Less (between cmp l None (Some k))
    low [] = tt
    low (p ∷ l) = low_step p (between cmp l None (Some k)) (cmp p.0 k) refl (low l)

    high_step : (p : K × V) (rest : List (K × V)) (b : Bool) → is_lt (cmp p.0 k) ≡ b → NoneBelow cmp k rest → NoneBelow cmp k (cond (not b && true) (p ∷ rest) rest)
    high_step p rest true is all = all
    high_step p rest false is all = (is, all)

    high : (l : List (K × V)) → NoneBelow cmp k (between cmp l (Some k) None)
    high [] = tt
    high (p ∷ l) = high_step p (between cmp l (Some k) None) (is_lt (cmp p.0 k)) refl (high l)

    -- if no key is below, the lower side is empty
    none_low : (l : List (K × V)) → NoneBelow cmp k l → (between cmp l None (Some k) ≡ []) × (between cmp l (Some k) None ≡ l)
    none_low [] none = (refl, refl)
    none_low (p ∷ l) none = let rest = none_low l none.1 in (rw none.0 rest.0, rw none.0 (ap (λ m. p ∷ m) rest.1))

    not_less : (p q : K × V) (o : Ordering) → cmp q.0 k ≡ o → is_lt (cmp p.0 k) ≡ false → cmp p.0 q.0 ≡ Less → is_lt o ≡ false
    not_less p q Less is from above = sym (ap is_lt (order.trans p.0 q.0 k above is)) ∙ from
    not_less p q Equal is from above = refl
    not_less p q Greater is from above = refl

    later : (p : K × V) (l : List (K × V)) → is_lt (cmp p.0 k) ≡ false → AllByRecursion (λ key. cmp p.0 key ≡ Less) (keys_of l) → NoneBelow cmp k l
    later p [] from above = tt
    later p (q ∷ l) from above = (not_less p q (cmp q.0 k) refl from above.0, later p l from above.1)

    cut_step : (p : K × V) (l : List (K × V)) (b : Bool) → is_lt (cmp p.0 k) ≡ b → (is_lt (cmp p.0 k) ≡ false → NoneBelow cmp k l) → between cmp l None (Some k) ++ between cmp l (Some k) None ≡ l
        → cond b (p ∷ between cmp l None (Some k)) (between cmp l None (Some k)) ++ cond (not b && true) (p ∷ between cmp l (Some k) None) (between cmp l (Some k) None) ≡ p ∷ l
    cut_step p l true is from rest = ap (λ m. p ∷ m) rest
    cut_step p l false is from rest = let none = none_low l (from is) in ap (λ m. m ++ p ∷ between cmp l (Some k) None) none.0 ∙ ap (λ m. p ∷ m) none.1

    pub cut_at_key : (l : List (K × V)) → IsAscending cmp l → between cmp l None (Some k) ++ between cmp l (Some k) None ≡ l
    cut_at_key [] ascending = refl
    cut_at_key (p ∷ l) ascending =
        cut_step p l (is_lt (cmp p.0 k)) refl (λ from. later p l from (sorted_head cmp p.0 (keys_of l) ascending)) (cut_at_key l (sorted_tail cmp p.0 (keys_of l) ascending))

-- ---- lists that take one member more, or have one fewer

module _ {X : Type 0} where
  -- a list after one member was replaced and another was inserted behind it
  pub insert-set : (l : List X) (i : ℕ) (x y : X) → i < length l → insert (set l i x) (suc i) y ≡ take i l ++ x ∷ y ∷ drop (suc i) l
  insert-set [] i x y short = absurd (omega arith)
  insert-set (z ∷ l) zero x y short = refl
  insert-set (z ∷ l) (suc i) x y short = let less : i < length l = omega arith in ap (λ m. z ∷ m) (insert-set l i x y less)

  pub parted : (l : List X) (i : ℕ) (d : X) → i < length l → take i l ++ get_or l i d ∷ drop (suc i) l ≡ l
  parted [] i d short = absurd (omega arith)
  parted (z ∷ l) zero d short = refl
  parted (z ∷ l) (suc i) d short = let less : i < length l = omega arith in ap (λ m. z ∷ m) (parted l i d less)

module _ {X Y : Type 0} (f : X → Y) where
  pub map-insert-set : (l : List X) (i : ℕ) (x y : X) → map f (insert (set l i x) (suc i) y) ≡ insert (set (map f l) i (f x)) (suc i) (f y)
  map-insert-set [] i x y = refl
  map-insert-set (z ∷ l) zero x y = refl
  map-insert-set (z ∷ l) (suc i) x y = ap (λ m. f z ∷ m) (map-insert-set l i x y)

-- ---- a shard that is cut in two

module _ {T K V : Type 0} {cmp : K → K → Ordering} (order : IsTotalOrder cmp) (pairs : T → List (K × V)) {bounds : List K} (items : List T) {lengths : List ℕ}
    (whole : IsWholeOfShards cmp bounds (map pairs items) lengths) (k : K) (i : ℕ) {read : List K} (route : i ≡ shard_of cmp read k) (same : read ≡ bounds)
    (x : T) (here : x ≡ get_or items i x) where
  abbrev shards : List (List (K × V))
  shards = map pairs items

  is : i ≡ shard_of cmp bounds k
  is = route ∙ ap (λ l. shard_of cmp l k) same

  short : i < length items
  short = routed_within order pairs items whole k i route same

  within : i < length shards
  within = omega (arith, short, length-map items pairs)

  own : pairs x ≡ piece_at shards i
  own = asked pairs items i x short here

  -- the pairs before the shard, the pairs of the shard, and those behind it
  abbrev ahead : List (K × V)
  ahead = flatten (take i shards)

  abbrev behind : List (K × V)
  behind = flatten (drop (suc i) shards)

  cut : flatten shards ≡ ahead ++ (pairs x ++ behind)
  cut = flatten-cut shards i within ∙ ap (λ l. ahead ++ (l ++ behind)) (sym own)

  own_ascending : IsAscending cmp (pairs x)
  own_ascending = ascending_before cmp (pairs x) behind (ascending_after order ahead (pairs x ++ behind) (subst (IsAscending cmp) cut whole.are.ascending))

  module _ (y z : T) (stays : pairs y ≡ between cmp (pairs x) None (Some k)) (leaves : pairs z ≡ between cmp (pairs x) (Some k) None) where
    new_shards : map pairs (insert (set items i y) (i + 1) z) ≡ take i shards ++ pairs y ∷ pairs z ∷ drop (suc i) shards
    new_shards =
        let one : i + 1 ≡ suc i = omega arith in
        ap (λ j. map pairs (insert (set items i y) j z)) one ∙ map-insert-set pairs items i y z ∙ insert-set shards i (pairs y) (pairs z) within

    both : pairs y ++ pairs z ≡ piece_at shards i
    both = ap (λ l. l ++ pairs z) stays ∙ ap (λ l. between cmp (pairs x) None (Some k) ++ l) leaves ∙ cut_at_key cmp order k (pairs x) own_ascending ∙ own

    at_bound : i ≤ length bounds
    at_bound = omega (arith, within, shards_count cmp order bounds shards whole.are bounds shards whole.are.between)

    laws : AreSameWhole cmp V (take i bounds ++ k ∷ drop i bounds) (take i shards ++ pairs y ∷ pairs z ∷ drop (suc i) shards) (take i shards ++ (pairs y ++ pairs z) ∷ drop (suc i) shards)
    laws =
        let whole_bounds : take i bounds ++ drop i bounds ≡ bounds = take-append-drop i bounds in
        let count : length (take i bounds) ≡ i = omega (arith, length-take i bounds, at_bound) in
        let many : length (take i shards) ≡ length (take i bounds) = omega (arith, count, length-take i shards, within) in
        let at : shard_of cmp (take i bounds ++ drop i bounds) k ≡ length (take i bounds) = ap (λ b. shard_of cmp b k) whole_bounds ∙ sym is ∙ sym count in
        let smaller = subst (AllCompare cmp k Less) (sym stays) (low cmp order k (pairs x)) in
        let others = subst (NoneBelow cmp k) (sym leaves) (high cmp order k (pairs x)) in
        let old : shards ≡ take i shards ++ (pairs y ++ pairs z) ∷ drop (suc i) shards = sym (ap (λ l. take i shards ++ l ∷ drop (suc i) shards) both ∙ parted shards i [] within) in
        shard_splits cmp order (take i bounds) (drop i bounds) k (take i shards) (pairs y) (pairs z) (drop (suc i) shards) many at smaller others
        (subst (λ b. AreShards cmp b (take i shards ++ (pairs y ++ pairs z) ∷ drop (suc i) shards)) (sym whole_bounds) (subst (AreShards cmp bounds) old whole.are))

    pub split_list : flatten (map pairs (insert (set items i y) (i + 1) z)) ≡ flatten shards
    split_list = ap flatten new_shards ∙ laws.1 ∙ ap (λ l. flatten (take i shards ++ l ∷ drop (suc i) shards)) both ∙ ap flatten (parted shards i [] within)

    -- the number of pairs of each shard; that of the first is read at the index at which it was
    -- written
    module _ (n : ℕ) (w : T) (long : n ≡ length (pairs w)) (back : w ≡ get_or (set items i y) i w) (m : ℕ) (long_too : m ≡ length (pairs z)) where
      split_counts : insert (set lengths i n) (i + 1) m ≡ lengths_of (map pairs (insert (set items i y) (i + 1) z))
      split_counts =
          let one : i + 1 ≡ suc i = omega arith in
          ap (λ j. insert (set lengths i n) j m) one
          ∙ ap (λ l. insert l (suc i) m) (counted order pairs items whole k i route same x here y n w long back ∙ lengths-set pairs items i y)
          ∙ ap (insert (set (lengths_of shards) i (length (pairs y))) (suc i)) long_too
          ∙ sym (ap (λ j. lengths_of (map pairs (insert (set items i y) j z))) one ∙ ap lengths_of (map-insert-set pairs items i y z) ∙ map-insert-set length shards i (pairs y) (pairs z))

      pub split_whole : IsWholeOfShards cmp (insert bounds i k) (map pairs (insert (set items i y) (i + 1) z)) (insert (set lengths i n) (i + 1) m)
      split_whole = record {
        are = subst (AreShards cmp (take i bounds ++ k ∷ drop i bounds)) (sym new_shards) laws.0;
        counted = split_counts;
        fits = omega (arith, ap sum split_counts, total (map pairs (insert (set items i y) (i + 1) z)), ap length split_list, ap sum whole.counted, total shards, whole.fits);
      }

  -- ---- a split that fails

  pub same_shards : (y : T) → pairs y ≡ pairs x → map pairs (set items i y) ≡ shards
  same_shards y unchanged = map-set_same pairs items i y x (unchanged ∙ ap pairs here)

-- ---- a whole of the same parts

abbrev whole_of : {K V : Type 0} → List K → List (List (K × V)) → Partition K V
whole_of bounds shards = record { bounds = bounds; shards = shards }

pub same_whole : {K V : Type 0} {bounds bounds' : List K} {shards shards' : List (List (K × V))} → bounds ≡ bounds' → shards ≡ shards' → whole_of bounds shards ≡ whole_of bounds' shards'
same_whole {bounds' = bounds'} {shards = shards} one other = ap (λ l. whole_of l shards) one ∙ ap (whole_of bounds') other

-- ---- two shards that become one

module _ {X : Type 0} where
  remove-none : (j : ℕ) → remove {X = X} [] j ≡ []
  remove-none zero = refl
  remove-none (suc j) = refl

  -- a member before the one that is removed is unchanged
  pub get-removed : (l : List X) (i : ℕ) (d : X) → get_or (remove l (suc i)) i d ≡ get_or l i d
  get-removed [] i d = refl
  get-removed (z ∷ l) zero d = refl
  get-removed (z ∷ l) (suc i) d = get-removed l i d

  -- a flattened list, cut around two neighbours
  pub two-cut : (pieces : List (List X)) (i : ℕ) → suc i < length pieces
      → flatten pieces ≡ flatten (take i pieces) ++ ((piece_at pieces i ++ piece_at pieces (suc i)) ++ flatten (drop (suc (suc i)) pieces))
  two-cut [] i short = absurd (omega arith)
  two-cut (p ∷ []) zero short = absurd (omega arith)
  two-cut (p ∷ q ∷ pieces) zero short = sym (append_assoc p q (flatten pieces))
  two-cut (p ∷ pieces) (suc i) short =
      let less : suc i < length pieces = omega arith in
      ap (λ l. p ++ l) (two-cut pieces i less) ∙ sym (append_assoc p (flatten (take i pieces)) ((piece_at pieces i ++ piece_at pieces (suc i)) ++ flatten (drop (suc (suc i)) pieces)))

  -- a flattened list in which one piece replaces two neighbours
  pub one-cut : (pieces : List (List X)) (i : ℕ) (new : List X) → suc i < length pieces
      → flatten (set (remove pieces (suc i)) i new) ≡ flatten (take i pieces) ++ (new ++ flatten (drop (suc (suc i)) pieces))
  one-cut [] i new short = absurd (omega arith)
  one-cut (p ∷ []) zero new short = absurd (omega arith)
  one-cut (p ∷ q ∷ pieces) zero new short = refl
  one-cut (p ∷ pieces) (suc i) new short =
      let less : suc i < length pieces = omega arith in
      ap (λ l. p ++ l) (one-cut pieces i new less) ∙ sym (append_assoc p (flatten (take i pieces)) (new ++ flatten (drop (suc (suc i)) pieces)))

map-remove : {X Y : Type 0} (f : X → Y) (l : List X) (j : ℕ) → map f (remove l j) ≡ remove (map f l) j
map-remove f [] j = ap (map f) (remove-none j) ∙ sym (remove-none j)
map-remove f (z ∷ l) zero = refl
map-remove f (z ∷ l) (suc j) = ap (λ m. f z ∷ m) (map-remove f l j)

-- shards that were taken apart for a merge that failed, and put back, have the pairs that they had
restored : {T X : Type 0} (pairs : T → X) (items : List T) (i : ℕ) (x y next z : T) → suc i < length items → x ≡ get_or items i x → next ≡ get_or items (suc i) next → pairs y ≡ pairs x → pairs z ≡ pairs next → map pairs (insert (set (remove items (suc i)) i y) (suc i) z) ≡ map pairs items
restored pairs [] i x y next z short here there same other = absurd (omega arith)
restored pairs (a ∷ []) i x y next z short here there same other = absurd (omega arith)
restored pairs (a ∷ b ∷ items) zero x y next z short here there same other = ap (λ p. p ∷ pairs z ∷ map pairs items) (same ∙ ap pairs here) ∙ ap (λ p. pairs a ∷ p ∷ map pairs items) (other ∙ ap pairs there)
restored pairs (a ∷ b ∷ items) (suc i) x y next z short here there same other =
    let less : suc i < length (b ∷ items) = omega arith in
    ap (λ l. pairs a ∷ l) (restored pairs (b ∷ items) i x y next z less here there same other)

module _ {K V : Type 0} (cmp : K → K → Ordering) (order : IsTotalOrder cmp) (new : List (K × V)) where
  -- a property of each pair of two pieces holds of each pair of the new piece
  abbrev Holds : List (List (K × V)) → ℕ → Type 1
  Holds pieces i = (P : K × V → Type 0) → AllByRecursion P (piece_at pieces i ++ piece_at pieces (suc i)) → AllByRecursion P new

  holds_on : (P : K × V → Type 0) (pieces : List (List (K × V))) (i : ℕ) → suc i < length pieces → Holds pieces i
      → AllByRecursion P (flatten pieces) → AllByRecursion P (flatten (set (remove pieces (suc i)) i new))
  holds_on P [] i short holds all = absurd (omega arith)
  holds_on P (p ∷ []) zero short holds all = absurd (omega arith)
  holds_on P (p ∷ q ∷ pieces) zero short holds all =
      let rest = AllByRecursion-right P p (q ++ flatten pieces) all in
      AllByRecursion-append P new (flatten pieces) (holds P (AllByRecursion-append P p q (AllByRecursion-left P p (q ++ flatten pieces) all) (AllByRecursion-left P q (flatten pieces) rest)))
      (AllByRecursion-right P q (flatten pieces) rest)
  holds_on P (p ∷ pieces) (suc i) short holds all =
      let less : suc i < length pieces = omega arith in
      AllByRecursion-append P p (flatten (set (remove pieces (suc i)) i new)) (AllByRecursion-left P p (flatten pieces) all) (holds_on P pieces i less holds (AllByRecursion-right P p (flatten pieces) all))

  -- a key below a bound is below a greater or equal bound
  below_next : (key bound h : K) (o : Ordering) → cmp bound h ≡ o → cmp key bound ≡ Less → is_gt o ≡ false → cmp key h ≡ Less
  below_next key bound h Less is less up = order.trans key bound h less is
  below_next key bound h Equal is less up = sym (alike_right order bound h key is) ∙ less
  below_next key bound h Greater is less up = absurd cc

  greater_is : (o : Ordering) → is_gt o ≡ true → o ≡ Greater
  greater_is Less is = absurd cc
  greater_is Equal is = absurd cc
  greater_is Greater is = refl

  here_step : (bound h : K) (bounds : List K) (p q : List (K × V)) (pieces : List (List (K × V))) (b : Bool) → is_gt (cmp bound h) ≡ b → Holds (p ∷ q ∷ pieces) zero
      → LieBetween cmp (bound ∷ h ∷ bounds) (p ∷ q ∷ pieces) → LieBetween cmp (remove (bound ∷ h ∷ bounds) (cond b (suc zero) zero)) (new ∷ pieces)
  here_step bound h bounds p q pieces false up holds lie =
      let rest = lie.2 in
      let turns = λ (pair : K × V) (less : cmp pair.0 bound ≡ Less). below_next pair.0 bound h (cmp bound h) refl less up in (
        holds (λ pair. cmp pair.0 h ≡ Less) (AllByRecursion-append (λ pair. cmp pair.0 h ≡ Less) p q (AllByRecursion-weaker (λ pair. cmp pair.0 bound ≡ Less) (λ pair. cmp pair.0 h ≡ Less) turns p lie.0) rest.0),
        rest.1,
        rest.2,
      )
  here_step bound h bounds p q pieces true down holds lie =
      let rest = lie.2 in
      let less : cmp h bound ≡ Less = less_turned cmp order bound h (greater_is (cmp bound h) down) in
      let turns = λ (pair : K × V) (below : cmp pair.0 h ≡ Less). order.trans pair.0 h bound below less in (
        holds (λ pair. cmp pair.0 bound ≡ Less) (AllByRecursion-append (λ pair. cmp pair.0 bound ≡ Less) p q lie.0 (AllByRecursion-weaker (λ pair. cmp pair.0 h ≡ Less) (λ pair. cmp pair.0 bound ≡ Less) turns q rest.0)),
        AllByRecursion-right (λ pair. is_lt (cmp pair.0 bound) ≡ false) q (flatten pieces) lie.1,
        rest.2,
      )

  later_step : (bound : K) (bounds : List K) (i : ℕ) (b : Bool) → remove (bound ∷ bounds) (cond b (suc (suc i)) (suc i)) ≡ bound ∷ remove bounds (cond b (suc i) i)
  later_step bound bounds i true = refl
  later_step bound bounds i false = refl

  pub lie_between_after_merge : (bounds : List K) (pieces : List (List (K × V))) (i : ℕ) → i < length bounds → suc i < length pieces → Holds pieces i
      → LieBetween cmp bounds pieces → LieBetween cmp (remove bounds (cond (descends_at cmp bounds i) (suc i) i)) (set (remove pieces (suc i)) i new)
  lie_between_after_merge [] pieces i inside short holds lie = absurd (omega arith)
  lie_between_after_merge (bound ∷ bounds) [] i inside short holds lie = absurd (omega arith)
  lie_between_after_merge (bound ∷ bounds) (p ∷ []) zero inside short holds lie = absurd (omega arith)
  lie_between_after_merge (bound ∷ []) (p ∷ q ∷ pieces) zero inside short holds lie = lie.2
  lie_between_after_merge (bound ∷ h ∷ bounds) (p ∷ q ∷ pieces) zero inside short holds lie = here_step bound h bounds p q pieces (is_gt (cmp bound h)) refl holds lie
  lie_between_after_merge (bound ∷ bounds) (p ∷ pieces) (suc i) inside short holds lie =
      let less : suc i < length pieces = omega arith in
      let within : i < length bounds = omega arith in
      subst (λ bs. LieBetween cmp bs (p ∷ set (remove pieces (suc i)) i new)) (sym (later_step bound bounds i (descends_at cmp bounds i)))
      (lie.0, holds_on (λ pair. is_lt (cmp pair.0 bound) ≡ false) pieces i less holds lie.1, lie_between_after_merge bounds pieces i within less holds lie.2)

module _ {T K V : Type 0} {cmp : K → K → Ordering} (order : IsTotalOrder cmp) (pairs : T → List (K × V)) {bounds : List K} (items : List T) {lengths : List ℕ}
    (whole : IsWholeOfShards cmp bounds (map pairs items) lengths) (i : ℕ) (inside : i < length bounds) where
  abbrev pieces : List (List (K × V))
  pieces = map pairs items

  one : i + 1 ≡ suc i
  one = omega arith

  two : suc i < length pieces
  two = omega (arith, inside, shards_count cmp order bounds pieces whole.are bounds pieces whole.are.between)

  pub next_there : i + 1 < length items
  next_there = omega (arith, two, length-map items pairs)

  pub next_counted : i + 1 < length lengths
  next_counted = omega (arith, next_there, same_count order pairs items whole)

  -- the shards that are left after the second of the two is taken out
  module _ (x next : T) {rest : List T} (taken : rest ≡ remove items (i + 1)) (here : x ≡ get_or rest i x) (there : next ≡ get_or items (i + 1) next) where
    first_is : pairs x ≡ piece_at pieces i
    first_is =
        let short : i < length items = omega (arith, next_there) in
        asked pairs items i x short (here ∙ ap (λ l. get_or l i x) taken ∙ ap (λ j. get_or (remove items j) i x) one ∙ get-removed items i x)

    second_is : pairs next ≡ piece_at pieces (suc i)
    second_is = asked pairs items (i + 1) next next_there there ∙ ap (piece_at pieces) one

    -- if both are put back, all shards have the pairs that they had
    pub put_again : (y z : T) (all : List T) → all ≡ insert (set rest i y) (i + 1) z → pairs y ≡ pairs x → pairs z ≡ pairs next → map pairs all ≡ pieces
    put_again y z all is same other =
        let first : x ≡ get_or items i x = here ∙ ap (λ l. get_or l i x) taken ∙ ap (λ j. get_or (remove items j) i x) one ∙ get-removed items i x in
        let short : suc i < length items = omega (arith, next_there) in
        ap (map pairs) (is ∙ ap (λ l. insert (set l i y) (i + 1) z) taken ∙ ap (λ j. insert (set (remove items j) i y) j z) one)
        ∙ restored pairs items i x y next z short first (there ∙ ap (λ j. get_or items j next) one) same other

    abbrev front : List (K × V)
    front = flatten (take i pieces)

    abbrev rear : List (K × V)
    rear = flatten (drop (suc (suc i)) pieces)

    module _ (y : T) (moved left : List (K × V)) (parts : pairs next ≡ moved ++ left) (put : pairs y ≡ put_all (put_pair cmp) (pairs x) moved) where
      both_are : piece_at pieces i ++ piece_at pieces (suc i) ≡ (pairs x ++ moved) ++ left
      both_are = ap (λ l. l ++ piece_at pieces (suc i)) (sym first_is) ∙ ap (λ l. pairs x ++ l) (sym second_is ∙ parts) ∙ sym (append_assoc (pairs x) moved left)

      all_are : flatten pieces ≡ front ++ (((pairs x ++ moved) ++ left) ++ rear)
      all_are = two-cut pieces i two ∙ ap (λ l. front ++ (l ++ rear)) both_are

      new_is : pairs y ≡ pairs x ++ moved
      new_is =
          put ∙ put_behind cmp order (pairs x) moved (ascending_before cmp (pairs x ++ moved) left (ascending_before cmp ((pairs x ++ moved) ++ left) rear
          (ascending_after order front (((pairs x ++ moved) ++ left) ++ rear) (subst (IsAscending cmp) all_are whole.are.ascending))))

      full_is : flatten pieces ≡ (front ++ pairs y) ++ (left ++ rear)
      full_is =
          all_are ∙ ap (λ l. front ++ ((l ++ left) ++ rear)) (sym new_is) ∙ ap (λ l. front ++ l) (append_assoc (pairs y) left rear) ∙ sym (append_assoc front (pairs y) (left ++ rear))

      merged : map pairs (set rest i y) ≡ set (remove pieces (suc i)) i (pairs y)
      merged = ap (λ l. map pairs (set l i y)) taken ∙ ap (λ j. map pairs (set (remove items j) i y)) one ∙ map-set pairs (remove items (suc i)) i y ∙ ap (λ l. set l i (pairs y)) (map-remove pairs items (suc i))

      rest_is : flatten (map pairs (set rest i y)) ≡ (front ++ pairs y) ++ rear
      rest_is = ap flatten merged ∙ one-cut pieces i (pairs y) two ∙ sym (append_assoc front (pairs y) rear)

      put_in : (put_all (put_pair cmp) ((front ++ pairs y) ++ rear) left ≡ (front ++ pairs y) ++ (left ++ rear)) × IsAscending cmp ((front ++ pairs y) ++ rear)
      put_in = put_back cmp order left (front ++ pairs y) rear (subst (IsAscending cmp) full_is whole.are.ascending)

      pub merge_list : put_all (put_pair cmp) (flatten (map pairs (set rest i y))) left ≡ flatten pieces
      merge_list = ap (λ l. put_all (put_pair cmp) l left) rest_is ∙ put_in.0 ∙ sym full_is

      pub merge_whole : (n : ℕ) (w : T) → n ≡ length (pairs w) → w ≡ get_or (set rest i y) i w → {kept : List K} (bound : ℕ) → kept ≡ remove bounds bound → bound ≡ cond (descends_at cmp bounds i) (i + 1) i
          → {counts : List ℕ} → counts ≡ remove lengths (i + 1) → IsWholeOfShards cmp kept (map pairs (set rest i y)) (set counts i n)
      merge_whole n w asked_length written {kept} bound goes bound_is {counts} fewer =
          let holds = λ (P : K × V → Type 0) (every : AllByRecursion P (piece_at pieces i ++ piece_at pieces (suc i))).
          subst (AllByRecursion P) (sym new_is) (AllByRecursion-left P (pairs x ++ moved) left (subst (AllByRecursion P) both_are every)) in
          let bounds_are : kept ≡ remove bounds (cond (descends_at cmp bounds i) (suc i) i) = goes ∙ ap (remove bounds) (bound_is ∙ ap (λ j. cond (descends_at cmp bounds i) j i) one) in
          let short : i < length rest = omega (arith, next_there, ap length taken, length-remove items (i + 1) next_there) in
          let long : n ≡ length (pairs y) = asked_length ∙ ap (λ shard. length (pairs shard)) (read_back rest i w y short written) in
          let counts_are : set counts i n ≡ lengths_of (map pairs (set rest i y)) =
          ap (λ l. set l i n) fewer ∙ ap (λ j. set (remove lengths j) i n) one ∙ ap (λ l. set (remove l (suc i)) i n) whole.counted ∙ ap (set (remove (lengths_of pieces) (suc i)) i) long
          ∙ sym (ap lengths_of merged ∙ map-set length (remove pieces (suc i)) i (pairs y) ∙ ap (λ l. set l i (length (pairs y))) (map-remove length pieces (suc i))) in
          let stored = lie_between_after_merge cmp order (pairs y) bounds pieces i inside two holds whole.are.between in
          record {
            are = record {
              between = subst (λ b. LieBetween cmp b (map pairs (set rest i y))) (sym bounds_are) (subst (LieBetween cmp (remove bounds (cond (descends_at cmp bounds i) (suc i) i))) (sym merged) stored);
              ascending = subst (IsAscending cmp) (sym rest_is) put_in.1;
            };
            counted = counts_are;
            fits = omega (arith, ap sum counts_are, total (map pairs (set rest i y)), ap length rest_is, ap length full_is, length-append (front ++ pairs y) rear, length-append (front ++ pairs y) (left ++ rear), length-append left rear, ap sum whole.counted, total pieces, whole.fits);
          }

-- ---- the bound that is removed

module _ {K : Type 0} (cmp : K → K → Ordering) where
  pub last_stays : (bounds : List K) (i : ℕ) → i + 1 ≡ length bounds → descends_at cmp bounds i ≡ false
  last_stays [] i last = refl
  last_stays (b ∷ []) zero last = refl
  last_stays (b ∷ n ∷ bounds) zero last = absurd (omega arith)
  last_stays (b ∷ bounds) (suc i) last = let less : i + 1 ≡ length bounds = omega arith in last_stays bounds i less

  pub descends_is : (bounds : List K) (i : ℕ) (b n : K) → suc i < length bounds → b ≡ get_or bounds i b → n ≡ get_or bounds (suc i) n → descends_at cmp bounds i ≡ is_gt (cmp b n)
  descends_is [] i b n short here next = absurd (omega arith)
  descends_is (c ∷ []) zero b n short here next = absurd (omega arith)
  descends_is (c ∷ d ∷ bounds) zero b n short here next = ap (λ e. is_gt (cmp e d)) (sym here) ∙ ap (λ e. is_gt (cmp b e)) (sym next)
  descends_is (c ∷ bounds) (suc i) b n short here next = let less : suc i < length bounds = omega arith in descends_is bounds i b n less here next
