-- The rank of a key in its group: the number of keys of the group that are smaller.
use Rattle.std.proofs.Common.{◌≡◌, ℕ, zero, suc, ◌+◌, ◌-◌, ◌^◌, ◌<◌, ◌≤◌, min, List, [], ◌∷◌, ◌++◌, length, map, take, drop, get_or, Option, Some, None, Ok, Err, Bool, true, false, cond, refl, sym, ap, ◌∙◌, arith, append_assoc, length-append, length-drop}
use Rattle.std.specs.declared.cmp.Ordering.{Ordering}
use Rattle.std.specs.declared.cmp.Ordering.TheVariants.{Less, Equal, Greater}
use Rattle.std.specs.Ordering.{is_eq, is_gt, is_lt}
use Rattle.std.specs.Cmp.{IsTotalOrder}
use Rattle.std.specs.List.{AllByRecursion, AllZip, filter}
use Rattle.std.specs.List.Sorted.{IsStrictlySortedBy}
use Rattle.std.proofs.Math.Seq.{drop-length}
use Rattle.std.proofs.lemmas.Cmp.{alike_right}
use Rattle.std.proofs.lemmas.List.{append-nil, length-map, map-append, nil_from_length, take-append-drop, take_at}
use Rattle.bptree_arguments.specs.declared.group.GroupCount.{GroupCount}
use Rattle.bptree_keys.specs.Pieces.{flatten, piece_at}
use Rattle.bptree_arguments.specs.CountLaws.{count_below}
use Rattle.bptree_arguments.specs.GroupResults.{IsBorderOf, carried, IsRankInGroup}
use Rattle.bptree_arguments.specs.Groups.{group, group_size, IsGreatestGroup, IsGroupSummary, IsNonDescending}
use Rattle.bptree_arguments.specs.Ranks.{AllAbove, AllBelow, IsSlotOf, SplitsAt}
use Rattle.bptree_keys.proofs.PieceLemmas.{AllByRecursion-append, AllByRecursion-left, AllByRecursion-right, AllByRecursion-weaker, AllZip-length, flatten-cut, sorted_left, sorted_right}
use Rattle.bptree_arguments.proofs.GroupLemmas.{crossing, groups_ascend, less_by, size-append, size-le, size_below, size_greatest_below, size_greatest_same, summary_here, witness}
use Rattle.bptree_arguments.specs.GroupClones.{le_less, size_alike}
use Rattle.bptree_arguments.proofs.GroupOrderLemmas.{between, less_from, size_from}
use Rattle.bptree_arguments.proofs.RankLemmas.{SplitsAt-within}

module _ {G : Type 0} {R : G → G → Ordering} (o : IsTotalOrder R) (v : G) where
  -- all groups are equal to v if no group is below or above it
  size_all : (gs : List G) → AllByRecursion (λ x. is_lt (R x v) ≡ false) gs → AllByRecursion (λ x. is_gt (R x v) ≡ false) gs → group_size R v gs ≡ length gs
  size_all [] h k = refl
  size_all (x ∷ xs) h k = rw (between (R x v) h.0 k.0) (ap suc (size_all xs h.1 k.1))

  -- if no group is above v, those from the beginning of v on are equal to it
  size_to_last : (gs : List G) (start : ℕ) → IsBorderOf R v false gs start → AllByRecursion (λ x. is_gt (R x v) ≡ false) gs → group_size R v gs ≡ length gs - start
  size_to_last gs start s h =
      let back = AllByRecursion-right (λ x. is_gt (R x v) ≡ false) (take start gs) (drop start gs) (rw take-append-drop h) in
      omega (arith, size_from o v gs start s, size_all (drop start gs) s.from_there back, length-drop start gs)

  -- no group in front of groups of which the first is below v is equal to v
  size_ahead : (fs gs : List G) (start : ℕ) → 0 < start → start ≤ length gs → AllByRecursion (λ x. is_lt (R x v) ≡ true) (take start gs) → IsNonDescending R (fs ++ gs) → group_size R v fs ≡ 0
  size_ahead fs [] start p l b h = absurd (omega arith)
  size_ahead fs (x ∷ xs) zero p l b h = absurd (omega arith)
  size_ahead fs (x ∷ xs) (suc n) p l b h =
      size_below o v fs (AllByRecursion-weaker (λ y. AllByRecursion (λ z. is_gt (R y z) ≡ false) (x ∷ xs)) (λ y. R y v ≡ Less) (λ y f. le_less o y x v f.0 (less_from (R x v) b.0)) fs (crossing o fs (x ∷ xs) h))

  -- a rank carries the same number for equal groups
  pub carried_alike : (g : G) → R v g ≡ Equal → (rank : Option (G × ℕ)) → carried R v rank ≡ carried R g rank
  carried_alike g e None = refl
  carried_alike g e (Some r) = ap (λ b. cond b r.1 0) (ap is_eq (alike_right o v g r.0 e))

module _ {K G : Type 0} (cmp : K → K → Ordering) (R : G → G → Ordering) (group_of : K → G) (keeps : (x y : K) → is_gt (cmp x y) ≡ false → is_gt (R (group_of x) (group_of y)) ≡ false) (o : IsTotalOrder R) (k : K) where
  -- keys below k are in no group above that of k
  pub groups_upto : (keys : List K) → AllBelow cmp k keys → AllByRecursion (λ x. is_gt (R x (group_of k)) ≡ false) (map group_of keys)
  groups_upto [] h = tt
  groups_upto (x ∷ xs) h = (keeps x k (ap is_gt h.0), groups_upto xs h.1)

  module _ (v : G) (made : R v (group_of k) ≡ Equal) (smaller : List K) (start : ℕ) (within : start ≤ length smaller) (begins : IsStrictlySortedBy cmp smaller → IsBorderOf R v false (map group_of smaller) start) (before : List K) (ascending : IsStrictlySortedBy cmp (before ++ smaller)) (below : AllBelow cmp k smaller) where
    starts : IsBorderOf R v false (map group_of smaller) start
    starts = begins (sorted_right cmp before smaller ascending)

    in_leaf : group_size R (group_of k) (map group_of smaller) ≡ length smaller - start
    in_leaf =
        let upto = AllByRecursion-weaker (λ x. is_gt (R x (group_of k)) ≡ false) (λ x. is_gt (R x v) ≡ false) (λ x e. ap is_gt (alike_right o v (group_of k) x made) ∙ e) (map group_of smaller) (groups_upto smaller below) in
        omega (arith, size_alike o v (group_of k) made (map group_of smaller), size_to_last o v (map group_of smaller) start starts upto, length-map smaller group_of)

    whole : group_size R (group_of k) (map group_of (before ++ smaller)) ≡ group_size R (group_of k) (map group_of before) + (length smaller - start)
    whole = omega (arith, ap (group_size R (group_of k)) (map-append group_of before smaller), size-append o (group_of k) (map group_of before) (map group_of smaller), in_leaf)

    -- the number, if some smaller key of the leaf is of a lesser group
    pub ranked_in_leaf : 0 < start → length smaller - start ≡ group_size R (group_of k) (map group_of (before ++ smaller))
    ranked_in_leaf p =
        let ascend = rw map-append at (groups_ascend cmp R group_of keeps (before ++ smaller) ascending) in
        let none = size_ahead o v (map group_of before) (map group_of smaller) start p (omega (arith, within, length-map smaller group_of)) starts.before ascend in
        omega (arith, whole, none, size_alike o v (group_of k) made (map group_of before))

    -- the number, if no smaller key of the leaf is of a lesser group
    pub ranked_with_carried : (rank : Option (G × ℕ)) (n : ℕ) → length (before ++ smaller) < 2 ^ 64 → group_size R (group_of k) (map group_of before) ≡ carried R (group_of k) rank → start ≤ 0 → n ≡ carried R v rank → min ((length smaller - start) + n) (2 ^ 64 - 1) ≡ group_size R (group_of k) (map group_of (before ++ smaller))
    ranked_with_carried rank n fits stored l e =
        omega (arith, whole, stored, e, carried_alike o v (group_of k) made rank, size-le o (group_of k) (map group_of (before ++ smaller)), length-map (before ++ smaller) group_of, fits)

  -- the number of keys of k's group that are below k, in a list that is split at k
  none_counted : (rest : List K) → AllByRecursion (λ x. is_lt (cmp x k) ≡ false) rest → count_below cmp k (group R group_of (group_of k) rest) ≡ 0
  none_counted [] h = refl
  none_counted (x ∷ xs) h = by (is_eq (R (group_of x) (group_of k))) (none_counted xs h.1) where
    by : (b : Bool) → count_below cmp k (group R group_of (group_of k) xs) ≡ 0 → count_below cmp k (cond b (x ∷ group R group_of (group_of k) xs) (group R group_of (group_of k) xs)) ≡ 0
    by true e = rw h.0 e
    by false e = e

  counted : (front rest : List K) → AllBelow cmp k front → AllByRecursion (λ x. is_lt (cmp x k) ≡ false) rest → count_below cmp k (group R group_of (group_of k) (front ++ rest)) ≡ group_size R (group_of k) (map group_of front)
  counted [] rest h n = none_counted rest n
  counted (x ∷ xs) rest h n = by (is_eq (R (group_of x) (group_of k))) (counted xs rest h.1 n) where
    by : (b : Bool) → count_below cmp k (group R group_of (group_of k) (xs ++ rest)) ≡ group_size R (group_of k) (map group_of xs) → count_below cmp k (cond b (x ∷ group R group_of (group_of k) (xs ++ rest)) (group R group_of (group_of k) (xs ++ rest))) ≡ length (cond b (group_of x ∷ filter (λ y. is_eq (R y (group_of k))) (map group_of xs)) (filter (λ y. is_eq (R y (group_of k))) (map group_of xs)))
    by true e = rw (ap is_lt h.0) (ap suc e)
    by false e = e

  pub count_in_group : (keys front middle back : List K) → SplitsAt cmp k keys front middle back → count_below cmp k (group R group_of (group_of k) keys) ≡ group_size R (group_of k) (map group_of front)
  count_in_group keys front middle back s =
      let equal = AllByRecursion-weaker (λ x. cmp x k ≡ Equal) (λ x. is_lt (cmp x k) ≡ false) (λ x e. ap is_lt e) middle s.equal in
      let above = AllByRecursion-weaker (λ x. cmp x k ≡ Greater) (λ x. is_lt (cmp x k) ≡ false) (λ x e. ap is_lt e) back s.above in
      rw s.parts (counted front (middle ++ back) s.below (AllByRecursion-append (λ x. is_lt (cmp x k) ≡ false) middle back equal above))

  -- the rank at a slot of a leaf, computed from the smaller keys of the leaf and the rank before it
  module _ (keys before after : List K) (ascending : IsStrictlySortedBy cmp (before ++ (keys ++ after))) (low : AllBelow cmp k before) (high : AllAbove cmp k after) (fits : length (before ++ (keys ++ after)) < 2 ^ 64) (i : ℕ) (r : G × ℕ) (made : R r.0 (group_of k) ≡ Equal) (ranked : IsStrictlySortedBy cmp (before ++ take i keys) → AllBelow cmp k (take i keys) → length (before ++ take i keys) < 2 ^ 64 → r.1 ≡ group_size R (group_of k) (map group_of (before ++ take i keys))) where
    rank_at : (front middle back : List K) → length front ≡ i → SplitsAt cmp k keys front middle back → IsRankInGroup R group_of k cmp (before ++ (keys ++ after)) (Some r)
    rank_at front middle back l s =
        let smaller : take i keys ≡ front = rw s.parts (take_at front (middle ++ back) i l) in
        let split = SplitsAt-within cmp k keys front middle back before after s low high in
        let sorted : IsStrictlySortedBy cmp (before ++ front) = sorted_left cmp (before ++ front) (middle ++ (back ++ after)) (rw split.parts at ascending) in
        let long : length (before ++ front) < 2 ^ 64 = omega (arith, length-append (before ++ front) (middle ++ (back ++ after)), ap length split.parts, fits) in
        (made, rw smaller at ranked sorted s.below long ∙ sym (count_in_group (before ++ (keys ++ after)) (before ++ front) middle (back ++ after) split))

    pub rank_present : IsSlotOf cmp k keys (Ok i) → IsRankInGroup R group_of k cmp (before ++ (keys ++ after)) (Some r)
    rank_present (front, back, x, l, s) = rank_at front (x ∷ []) back l s

    pub rank_absent : IsSlotOf cmp k keys (Err i) → IsRankInGroup R group_of k cmp (before ++ (keys ++ after)) (Some r)
    rank_absent (front, back, l, s) = rank_at front [] back l s

-- no group before groups of which the greatest is below v is equal to v
size_before_greatest : {G : Type 0} {R : G → G → Ordering} (o : IsTotalOrder R) (v m : G) (fs gs : List G) → 0 < group_size R m gs → R m v ≡ Less → IsNonDescending R (fs ++ gs) → group_size R v fs ≡ 0
size_before_greatest {G} {R} o v m fs gs there e h = size_below o v fs (AllByRecursion-weaker (λ y. AllByRecursion (λ z. is_gt (R y z) ≡ false) gs) (λ y. R y v ≡ Less) each fs (crossing o fs gs h)) where
  each : (y : G) → AllByRecursion (λ z. is_gt (R y z) ≡ false) gs → R y v ≡ Less
  each y f = let w = witness o (λ z. is_gt (R y z) ≡ false) m gs there f in le_less o y w.0 v w.1 (o.congr w.0 m v w.2 ∙ e)

-- the pieces from one on are that one and those behind it
flatten-from : {X : Type 0} (pieces : List (List X)) (i : ℕ) → i < length pieces → flatten (drop i pieces) ≡ piece_at pieces i ++ flatten (drop (suc i) pieces)
flatten-from [] i h = absurd (omega arith)
flatten-from (p ∷ ps) zero h = refl
flatten-from (p ∷ ps) (suc i) h = let small : i < length ps = omega arith in flatten-from ps i small

-- if there is no child, nothing is added
pub no_child : {A X : Type 0} (P : A → List X → Type 0) (arguments : List A) (pieces : List (List X)) → AllZip P arguments pieces → length arguments ≡ 0 → (before : List X) → before ++ flatten pieces ≡ before
no_child P arguments pieces summaries e before = let none : pieces ≡ [] = nil_from_length pieces (sym (AllZip-length P arguments pieces summaries) ∙ e) in rw none (append-nil before)

-- the children before the one for k, from the last one backwards
module _ {K G : Type 0} (cmp : K → K → Ordering) (R : G → G → Ordering) (group_of : K → G) (keeps : (x y : K) → is_gt (cmp x y) ≡ false → is_gt (R (group_of x) (group_of y)) ≡ false) (o : IsTotalOrder R) (k : K) (v : G) (made : R v (group_of k) ≡ Equal) (arguments : List (GroupCount G)) (pieces : List (List K)) (summaries : AllZip (λ a keys. IsGroupSummary R a (map group_of keys)) arguments pieces) where
  same_length : length arguments ≡ length pieces
  same_length = AllZip-length (λ a keys. IsGroupSummary R a (map group_of keys)) arguments pieces summaries

  -- behind the last child, the count is 0
  pub none_behind : 0 ≡ min (group_size R v (map group_of (flatten (drop (length arguments) pieces)))) (2 ^ 64 - 1)
  none_behind = let none : drop (length arguments) pieces ≡ [] = rw same_length (drop-length pieces) in rw none (omega arith)

  module _ (m count : ℕ) (counted : count ≡ min (group_size R v (map group_of (flatten (drop m pieces)))) (2 ^ 64 - 1)) where
    -- if no child is left, the number of the whole is that of the children plus that of the rank
    pub all_counted : (rank : Option (G × ℕ)) (n : ℕ) (before : List K) → m ≤ 0 → length (before ++ flatten pieces) < 2 ^ 64 → group_size R (group_of k) (map group_of before) ≡ carried R (group_of k) rank → n ≡ carried R v rank → group_size R (group_of k) (map group_of (before ++ flatten pieces)) ≡ carried R (group_of k) (Some (v, min (count + n) (2 ^ 64 - 1)))
    all_counted rank n before l fits stored e =
        let first : m ≡ 0 = omega arith in
        let here : count ≡ min (group_size R v (map group_of (flatten pieces))) (2 ^ 64 - 1) = rw first at counted in
        let total = ap (group_size R (group_of k)) (map-append group_of before (flatten pieces)) ∙ size-append o (group_of k) (map group_of before) (map group_of (flatten pieces)) in
        rw made (omega (arith, total, here, stored, e, size_alike o v (group_of k) made (map group_of (flatten pieces)), carried_alike o v (group_of k) made rank, size-le o (group_of k) (map group_of (before ++ flatten pieces)), length-map (before ++ flatten pieces) group_of, fits))

    module _ (positive : 0 < m) (within : m ≤ length arguments) (argument : GroupCount G) (read : argument ≡ get_or arguments (m - 1) argument) where
      abbrev here : List G
      here = map group_of (piece_at pieces (m - 1))

      inside : m - 1 < length pieces
      inside = omega (arith, same_length)

      one_on : suc (m - 1) ≡ m
      one_on = omega arith

      summary : IsGroupSummary R argument here
      summary = summary_here R group_of pieces arguments summaries (m - 1) (omega arith) argument read

      sizes : group_size R v (map group_of (flatten (drop (m - 1) pieces))) ≡ group_size R v here + group_size R v (map group_of (flatten (drop m pieces)))
      sizes =
          let back = flatten (drop m pieces) in
          let parts : flatten (drop (m - 1) pieces) ≡ piece_at pieces (m - 1) ++ back = rw one_on at (flatten-from pieces (m - 1) inside) in
          ap (λ t. group_size R v (map group_of t)) parts ∙ (ap (group_size R v) (map-append group_of (piece_at pieces (m - 1)) back) ∙ size-append o v here (map group_of back))

      more : (n : ℕ) → group_size R v here ≡ n → min (count + n) (2 ^ 64 - 1) ≡ min (group_size R v (map group_of (flatten (drop (m - 1) pieces)))) (2 ^ 64 - 1)
      more n e = omega (arith, sizes, e, counted)

      -- the count after one more child, which has no keys
      pub more_none : ((groups : List G) → IsGroupSummary R argument groups → IsGreatestGroup R groups None) → count ≡ min (group_size R v (map group_of (flatten (drop (m - 1) pieces)))) (2 ^ 64 - 1)
      more_none found = let none : group_size R v here ≡ 0 = ap (group_size R v) (found here summary) in omega (arith, more 0 none, counted)

      module _ (h : G) (n : ℕ) (found : (groups : List G) → IsGroupSummary R argument groups → IsGreatestGroup R groups (Some (h, n))) where
        greatest : IsGreatestGroup R here (Some (h, n))
        greatest = found here summary

        -- the count after one more child, whose greatest group is that of k
        pub more_same : Equal ≡ R h v → min (count + n) (2 ^ 64 - 1) ≡ min (group_size R v (map group_of (flatten (drop (m - 1) pieces)))) (2 ^ 64 - 1)
        more_same e = more n (size_greatest_same o v h n here greatest.0 greatest.1 greatest.2 (sym e))

        -- a child whose greatest group is another: no key of k's group is in it or before it
        module _ (r : Ordering) (compared : r ≡ R h v) (other : r ≡ Equal → ⊥) (before : List K) (ascending : IsStrictlySortedBy cmp (before ++ flatten pieces)) (below : AllBelow cmp k (before ++ flatten pieces)) (fits : length (before ++ flatten pieces) < 2 ^ 64) where
          abbrev front : List K
          front = before ++ flatten (take (m - 1) pieces)

          abbrev back : List K
          back = flatten (drop m pieces)

          cut : before ++ flatten pieces ≡ front ++ (piece_at pieces (m - 1) ++ back)
          cut = ap (λ t. before ++ t) (rw one_on at (flatten-cut pieces (m - 1) inside)) ∙ sym (append_assoc before (flatten (take (m - 1) pieces)) (piece_at pieces (m - 1) ++ back))

          lower : R h v ≡ Less
          lower =
              let low = AllByRecursion-left (λ x. cmp x k ≡ Less) (piece_at pieces (m - 1)) back (AllByRecursion-right (λ x. cmp x k ≡ Less) front (piece_at pieces (m - 1) ++ back) (rw cut at below)) in
              let upto = AllByRecursion-weaker (λ x. is_gt (R x (group_of k)) ≡ false) (λ x. is_gt (R x v) ≡ false) (λ x e. ap is_gt (alike_right o v (group_of k) x made) ∙ e) here (groups_upto cmp R group_of keeps o k (piece_at pieces (m - 1)) low) in
              let w = witness o (λ x. is_gt (R x v) ≡ false) h here (omega (arith, greatest.1, greatest.2)) upto in
              less_by (R h v) (ap is_gt (sym (o.congr w.0 h v w.2)) ∙ w.1) (λ e. other (compared ∙ e))

          none_in_front : group_size R v (map group_of front) ≡ 0
          none_in_front =
              let sorted : IsStrictlySortedBy cmp (front ++ piece_at pieces (m - 1)) = sorted_left cmp (front ++ piece_at pieces (m - 1)) back (rw (append_assoc front (piece_at pieces (m - 1)) back) (rw cut at ascending)) in
              size_before_greatest o v h (map group_of front) here (omega (arith, greatest.1, greatest.2)) lower (rw map-append at (groups_ascend cmp R group_of keeps (front ++ piece_at pieces (m - 1)) sorted))

          pub stopped : group_size R (group_of k) (map group_of (before ++ flatten pieces)) ≡ carried R (group_of k) (Some (v, count))
          stopped =
              let none = size_greatest_below o v h n here greatest.0 greatest.1 greatest.2 lower in
              let outer = ap (group_size R v) (map-append group_of front (piece_at pieces (m - 1) ++ back)) ∙ size-append o v (map group_of front) (map group_of (piece_at pieces (m - 1) ++ back)) in
              let inner = ap (group_size R v) (map-append group_of (piece_at pieces (m - 1)) back) ∙ size-append o v here (map group_of back) in
              let total = ap (λ t. group_size R v (map group_of t)) cut in
              rw made (omega (arith, total, outer, inner, none, none_in_front, counted, size_alike o v (group_of k) made (map group_of (before ++ flatten pieces)), size-le o v (map group_of (before ++ flatten pieces)), length-map (before ++ flatten pieces) group_of, fits))
