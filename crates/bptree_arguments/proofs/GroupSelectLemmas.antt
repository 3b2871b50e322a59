-- Items of groups: their indexes in a leaf and below the children of a node.
use Rattle.std.proofs.Common.{◌≡◌, ℕ, zero, suc, ◌+◌, ◌-◌, ◌<◌, ◌≤◌, List, [], ◌∷◌, ◌++◌, length, map, take, drop, get_or, Option, Some, None, Bool, true, false, refl, sym, ap, ◌∙◌, arith, length-append, length-drop}
use Rattle.std.specs.declared.cmp.Ordering.{Ordering}
use Rattle.std.specs.declared.cmp.Ordering.TheVariants.{Less, Equal, Greater}
use Rattle.std.specs.Ordering.{is_eq, is_gt, is_lt, ordering_reverse}
use Rattle.std.specs.Cmp.{IsTotalOrder}
use Rattle.std.specs.List.{AllByRecursion, AllZip}
use Rattle.std.specs.List.Sorted.{IsStrictlySortedBy}
use Rattle.std.proofs.Math.Seq.{take-add, take-append-add}
use Rattle.std.proofs.lemmas.Bool.{true≢false}
use Rattle.std.proofs.lemmas.Cmp.{upto}
use Rattle.std.proofs.lemmas.List.{length-map, length-take, take-append-drop, map-append, take-append-le, get_or_append_left, get_or-append-add, get_or-drop, get_or-map}
use Rattle.bptree_arguments.specs.declared.group.GroupCount.{GroupCount}
use Rattle.bptree_keys.specs.Pieces.{flatten, piece_at, start_of, ArePieces}
use Rattle.bptree_arguments.specs.Selection.{moved_by, IsIndexBelow, LeadsTo}
use Rattle.bptree_arguments.specs.Groups.{group_size, IsGroupSummary, IsGreatestGroup, IsNonDescending, SelectsInGroup}
use Rattle.bptree_arguments.specs.GroupResults.{IsBorderOf}
use Rattle.bptree_keys.proofs.PieceLemmas.{AllByRecursion-at, AllByRecursion-weaker, flatten-cut}
use Rattle.bptree_arguments.proofs.GroupLemmas.{child_within, equal_from, summary_here, size-append, size-le, size_above, size_greatest_below, size_greatest_same, size_after_greatest, groups_ascend, piece_ascends, size_parts, size_more}
use Rattle.bptree_arguments.specs.GroupClones.{less_le}
use Rattle.bptree_arguments.proofs.GroupOrderLemmas.{between, items_from, nondescending_drop, size_from, size_in_front}

-- an item of the middle part, as an item of the whole
module _ {G : Type 0} {R : G → G → Ordering} (o : IsTotalOrder R) (g : G) (front here back : List G) (j n : ℕ) (l : j < length here) where
  pub item_moved : SelectsInGroup R g n here (Some j) → SelectsInGroup R g (group_size R g front + n) (front ++ (here ++ back)) (Some (length front + j))
  item_moved s =
      let taken : take (length front + j) (front ++ (here ++ back)) ≡ front ++ take j here = take-append-add front (here ++ back) j ∙ ap (λ t. front ++ t) (take-append-le j here back (omega arith)) in (
        omega (arith, l, length-append front (here ++ back), length-append here back),
        (λ d. rw (get_or-append-add front (here ++ back) j d, get_or_append_left here back d j l) (s.1 d)),
        ap (group_size R g) taken ∙ size-append o g front (take j here) ∙ ap (λ k. group_size R g front + k) s.2,
      )

module _ {K G : Type 0} (cmp : K → K → Ordering) (R : G → G → Ordering) (group_of : K → G) (keeps : (x y : K) → is_gt (cmp x y) ≡ false → is_gt (R (group_of x) (group_of y)) ≡ false) (o : IsTotalOrder R) (g : G) (pieces : List (List K)) (are : ArePieces cmp pieces) (arguments : List (GroupCount G)) (summaries : AllZip (λ a keys. IsGroupSummary R a (map group_of keys)) arguments pieces) (i : ℕ) (l : i < length arguments) (rest offset : ℕ) (passed : rest + group_size R g (map group_of (flatten (take i pieces))) ≡ offset) where
  inside : i < length pieces
  inside = child_within R group_of pieces arguments summaries i l

  abbrev here : List G
  here = map group_of (piece_at pieces i)

  abbrev selects : G × ℕ → List K → Option ℕ → Type 0
  selects query keys index = SelectsInGroup R query.0 query.1 (map group_of keys) index

  next : (n : ℕ) → group_size R g here ≡ n → n ≤ rest → (rest - n) + group_size R g (map group_of (flatten (take (i + 1) pieces))) ≡ offset
  next n e k = let parts = size_more cmp R group_of keeps o g pieces i inside in omega (arith, parts, e, passed, k)

  leads : (group_size R g here ≤ rest → group_size R g (map group_of (flatten (drop (suc i) pieces))) ≡ 0) → LeadsTo selects (g, offset) pieces (Some (i, (g, rest)))
  leads none = (inside, moved) where
    moved : (index : Option ℕ) → IsIndexBelow (piece_at pieces i) index → selects (g, rest) (piece_at pieces i) index → selects (g, offset) (flatten pieces) (moved_by (start_of pieces i) index)
    moved None p s = let parts = size_parts cmp R group_of keeps o g pieces i inside in omega (arith, parts, none s, s, passed)
    moved (Some j) p s =
        let front = flatten (take i pieces) in
        let back = flatten (drop (suc i) pieces) in
        let cut : map group_of (flatten pieces) ≡ map group_of front ++ (here ++ map group_of back) = ap (map group_of) (flatten-cut pieces i inside) ∙ rw (map-append, map-append) refl in
        let item = item_moved o g (map group_of front) here (map group_of back) j rest s.0 s in
        let total : group_size R g (map group_of front) + rest ≡ offset = omega (arith, passed) in
        rw (cut, ← total, ← length-map front group_of) item

  module _ (argument : GroupCount G) (read : argument ≡ get_or arguments i argument) where
    summary : IsGroupSummary R argument here
    summary = summary_here R group_of pieces arguments summaries i l argument read

    -- past a child, what is left of the index and the keys of the group so far add up to the index
    pub next_none : ((groups : List G) → IsGroupSummary R argument groups → IsGreatestGroup R groups None) → rest + group_size R g (map group_of (flatten (take (i + 1) pieces))) ≡ offset
    next_none found = let none : group_size R g here ≡ 0 = ap (group_size R g) (found here summary) in omega (arith, next 0 none (omega arith))

    module _ (m : G) (n : ℕ) (found : (groups : List G) → IsGroupSummary R argument groups → IsGreatestGroup R groups (Some (m, n))) where
      greatest : IsGreatestGroup R here (Some (m, n))
      greatest = found here summary

      pub next_below : Less ≡ R m g → rest + group_size R g (map group_of (flatten (take (i + 1) pieces))) ≡ offset
      next_below e = omega (arith, next 0 (size_greatest_below o g m n here greatest.0 greatest.1 greatest.2 (sym e)) (omega arith))

      pub next_same : Equal ≡ R m g → n ≤ rest → (rest - n) + group_size R g (map group_of (flatten (take (i + 1) pieces))) ≡ offset
      next_same e k = next n (size_greatest_same o g m n here greatest.0 greatest.1 greatest.2 (sym e)) k

      -- the query leads to the child if the child's greatest group has the key, and if that group
      -- is above the query's
      pub leads_same : Equal ≡ R m g → rest < n → LeadsTo selects (g, offset) pieces (Some (i, (g, rest)))
      leads_same e k = leads (λ s. absurd (omega (arith, s, k, size_greatest_same o g m n here greatest.0 greatest.1 greatest.2 (sym e))))

      pub leads_above : Greater ≡ R m g → LeadsTo selects (g, offset) pieces (Some (i, (g, rest)))
      leads_above e = leads (λ _. size_after_greatest o g m n here greatest.0 greatest.1 greatest.2 (map group_of (flatten (drop (suc i) pieces))) (piece_ascends cmp R group_of keeps o pieces i inside are.ascending) (o.antisymm g m ∙ ap ordering_reverse (sym e)))

-- the index of an item of a leaf, from the beginning of its group
module _ {G : Type 0} {R : G → G → Ordering} (o : IsTotalOrder R) (g : G) where
  -- if no group is below g, those before one that is equal to g are equal too
  size_before : (gs : List G) (n : ℕ) (d : G) → n < length gs → IsNonDescending R gs → AllByRecursion (λ x. is_lt (R x g) ≡ false) gs → R (get_or gs n d) g ≡ Equal → group_size R g (take n gs) ≡ n
  size_before [] n d l h k e = absurd (omega arith)
  size_before (x ∷ xs) zero d l h k e = refl
  size_before (x ∷ xs) (suc n) d l h k e =
      let small : n < length xs = omega arith in
      let low : is_gt (R x g) ≡ false = upto o x (get_or xs n d) g (AllByRecursion-at (λ y. is_gt (R x y) ≡ false) xs n d small h.0) (ap is_gt e) in
      rw (between (R x g) k.0 low) (ap suc (size_before xs n d small h.1 k.1 e))

  -- if no group is below g, no group from one that is not equal to g on is equal to g
  size_to : (gs : List G) (n : ℕ) (d : G) → n < length gs → IsNonDescending R gs → AllByRecursion (λ x. is_lt (R x g) ≡ false) gs → is_eq (R (get_or gs n d) g) ≡ false → group_size R g gs ≤ n
  size_to gs n d l h k e =
      let x = get_or gs n d in
      let above : R g x ≡ Less = o.antisymm g x ∙ turned (R x g) (AllByRecursion-at (λ y. is_lt (R y g) ≡ false) gs n d l k) e in
      let none = size_above o g (drop n gs) (AllByRecursion-weaker (λ y. is_gt (R x y) ≡ false) (λ y. R g y ≡ Less) (λ y f. less_le o g x y above f) (drop n gs) (items_from o gs n d l h)) in
      let sum = rw take-append-drop at (size-append o g (take n gs) (drop n gs)) in
      omega (arith, sum, none, size-le o g (take n gs), length-take n gs)
    where
      turned : (r : Ordering) → is_lt r ≡ false → is_eq r ≡ false → ordering_reverse r ≡ Less
      turned Less a b = absurd (true≢false a)
      turned Equal a b = absurd (true≢false b)
      turned Greater a b = refl

  module _ (gs : List G) (h : IsNonDescending R gs) (start : ℕ) (s : IsBorderOf R g false gs start) (n : ℕ) where
    ascends : IsNonDescending R (drop start gs)
    ascends = nondescending_drop o gs start h

    past : length gs ≤ start + n → group_size R g gs ≤ n
    past l = omega (arith, size_from o g gs start s, size-le o g (drop start gs), length-drop start gs, l)

    module _ (d : G) (l : start + n < length gs) where
      there : get_or (drop start gs) n d ≡ get_or gs (start + n) d
      there = get_or-drop start gs n d

      small : n < length (drop start gs)
      small = omega (arith, l, length-drop start gs)

      other : is_eq (R (get_or gs (start + n) d) g) ≡ false → group_size R g gs ≤ n
      other e = omega (arith, size_from o g gs start s, size_to (drop start gs) n d small ascends s.from_there (rw there e))

      index : R (get_or gs (start + n) d) g ≡ Equal → group_size R g (take (start + n) gs) ≡ n
      index e =
          let parts : take (start + n) gs ≡ take start gs ++ take n (drop start gs) = take-add start n gs in
          let sum = size-append o g (take start gs) (take n (drop start gs)) in
          ap (group_size R g) parts ∙ omega (arith, sum, size_in_front o g gs start s, size_before (drop start gs) n d small ascends s.from_there (rw there e))

module _ {K G : Type 0} (cmp : K → K → Ordering) (R : G → G → Ordering) (group_of : K → G) (keeps : (x y : K) → is_gt (cmp x y) ≡ false → is_gt (R (group_of x) (group_of y)) ≡ false) (o : IsTotalOrder R) (g : G) (keys : List K) (ascending : IsStrictlySortedBy cmp keys) (start : ℕ) (s : IsBorderOf R g false (map group_of keys) start) (n : ℕ) where
  ascend : IsNonDescending R (map group_of keys)
  ascend = groups_ascend cmp R group_of keeps keys ascending

  -- the query selects `None`, if the index is past the leaf
  pub leaf_past : length keys - start ≤ n → SelectsInGroup R g n (map group_of keys) None
  leaf_past l = past o g (map group_of keys) ascend start s n (omega (arith, l, length-map keys group_of))

  module _ (l : n < length keys - start) (k : K) (read : k ≡ get_or keys (start + n) k) (v : G) (made : R v (group_of k) ≡ Equal) (r : Ordering) (compared : r ≡ R v g) (outcome : Bool) (is : outcome ≡ is_eq r) where
    within_leaf : start + n < length (map group_of keys)
    within_leaf = omega (arith, l, length-map keys group_of)

    same : (d : G) → R (get_or (map group_of keys) (start + n) d) g ≡ r
    same d =
        let within : start + n < length keys = omega (arith, l) in
        let here : get_or (map group_of keys) (start + n) d ≡ group_of k = get_or-map group_of keys (start + n) k d within ∙ ap group_of (sym read) in
        rw here (sym (compared ∙ o.congr v (group_of k) g made))

    -- the query selects `None`, if the key at the index is of another group
    pub leaf_other : outcome ≡ false → SelectsInGroup R g n (map group_of keys) None
    leaf_other e = other o g (map group_of keys) ascend start s n v within_leaf (ap is_eq (same v) ∙ (sym is ∙ e))

    -- the query selects the key at the index, if that key is of the group
    pub leaf_item : outcome ≡ true → SelectsInGroup R g n (map group_of keys) (Some (start + n))
    leaf_item e =
        let equal = equal_from r (sym is ∙ e) in
        (within_leaf, (λ d. same d ∙ equal), index o g (map group_of keys) ascend start s n v within_leaf (same v ∙ equal))
