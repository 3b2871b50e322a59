-- The items of a group among keys.
use Rattle.std.proofs.Common.{◌≡◌, ℕ, zero, suc, ◌+◌, ◌<◌, ◌≤◌, List, [], ◌∷◌, ◌++◌, length, map, take, Option, Some, None, Result, Ok, Err, MatchOption, MatchResult, IfOk, IfErr, IfSome, Bool, true, false, cond, ◌&&◌, refl, sym, ap, ◌∙◌, arith, append-nil}
use Rattle.std.specs.Prelude.{is_ok, slice_get}
use Rattle.std.specs.Option.{option_map}
use Rattle.std.specs.declared.cmp.Ordering.{Ordering}
use Rattle.std.specs.declared.cmp.Ordering.TheVariants.{Equal}
use Rattle.std.specs.Ordering.{is_eq, is_lt}
use Rattle.std.specs.List.{HoldsAt, filter}
use Rattle.std.proofs.Math.Bool.{and-true, and-false}
use Rattle.std.proofs.lemmas.Bool.{true≢false}
use Rattle.std.proofs.lemmas.List.{get_or-map, length-map, take-map}
use Rattle.std.proofs.lemmas.Option.{slice_get_past}
use Rattle.bptree_arguments.specs.Groups.{group_size, SelectsInGroup}
use Rattle.bptree_arguments.specs.Selection.{IsIndexBelow, LeadsTo, moved_by}
use Rattle.bptree_arguments.specs.GroupResults.{IsInGroup, IsRankInGroup}
use Rattle.bptree_arguments.proofs.GroupLemmas.{size_of_keys}

-- An element that passes a test is an item of the elements that pass. Its index there is the number
-- of elements before it that pass.
item_at : {X : Type 0} (p : X → Bool) (xs : List X) (i : ℕ) → i < length xs → HoldsAt (λ x. p x ≡ true) xs i → slice_get xs i ≡ slice_get (filter p xs) (length (filter p (take i xs)))
item_at p [] i l h = absurd (omega arith)
item_at p (x ∷ xs) zero l h = rw (h x) refl
item_at p (x ∷ xs) (suc i) l h = let small : i < length xs = omega arith in by (p x) (item_at p xs i small h) where
  by : (b : Bool) → slice_get xs i ≡ slice_get (filter p xs) (length (filter p (take i xs))) → slice_get xs i ≡ slice_get (cond b (x ∷ filter p xs) (filter p xs)) (length (cond b (x ∷ filter p (take i xs)) (filter p (take i xs))))
  by true e = e
  by false e = e

-- An index below the length has an element.
present : {X : Type 0} (xs : List X) (i : ℕ) → i < length xs → slice_get xs i ≡ None → ⊥
present [] i l e = absurd (omega arith)
present (x ∷ xs) zero l e = cc
present (x ∷ xs) (suc i) l e = let small : i < length xs = omega arith in present xs i small e

module _ {K G : Type 0} (R : G → G → Ordering) (group_of : K → G) (g : G) where
  -- The key at an index that a query selects.
  module _ (n : ℕ) (keys : List K) (i : ℕ) (s : SelectsInGroup R g n (map group_of keys) (Some i)) where
    pub selected_within : i < length keys
    selected_within = omega (arith, s.0, length-map keys group_of)

    pub selected_of_group : HoldsAt (λ x. R (group_of x) g ≡ Equal) keys i
    selected_of_group d = let l = selected_within in rw (get_or-map group_of keys i d (group_of d) l) at (s.1 (group_of d))

    pub selected_after : length (filter (λ x. is_eq (R (group_of x) g)) (take i keys)) ≡ n
    selected_after = sym (size_of_keys R group_of g (take i keys)) ∙ (ap (group_size R g) (sym (take-map group_of i keys)) ∙ s.2)

    selected_item : slice_get keys i ≡ slice_get (filter (λ x. is_eq (R (group_of x) g)) keys) n
    selected_item = rw selected_after at (item_at (λ x. is_eq (R (group_of x) g)) keys i selected_within (λ d. ap is_eq (selected_of_group d)))

    selected_before_end : length (filter (λ x. is_eq (R (group_of x) g)) keys) ≤ n → ⊥
    selected_before_end l = present keys i selected_within (selected_item ∙ slice_get_past (filter (λ x. is_eq (R (group_of x) g)) keys) n l)

  -- The result of a query satisfies what holds of the selected key, if it is `Some`.
  pub result_within : (n : ℕ) (keys : List K) (index : Option ℕ) → SelectsInGroup R g n (map group_of keys) index → IfSome index (λ i. i < length keys)
  result_within n keys None s = tt
  result_within n keys (Some i) s = selected_within n keys i s

  pub result_of_group : (n : ℕ) (keys : List K) (index : Option ℕ) → SelectsInGroup R g n (map group_of keys) index → IfSome index (HoldsAt (λ x. R (group_of x) g ≡ Equal) keys)
  result_of_group n keys None s = tt
  result_of_group n keys (Some i) s = selected_of_group n keys i s

  pub result_after : (n : ℕ) (keys : List K) (index : Option ℕ) → SelectsInGroup R g n (map group_of keys) index → IfSome index (λ i. length (filter (λ x. is_eq (R (group_of x) g)) (take i keys)) ≡ n)
  result_after n keys None s = tt
  result_after n keys (Some i) s = selected_after n keys i s

  pub result_past : (n : ℕ) (keys : List K) (index : Option ℕ) → SelectsInGroup R g n (map group_of keys) index → length (filter (λ x. is_eq (R (group_of x) g)) keys) ≤ n → index ≡ None
  result_past n keys None s l = refl
  result_past n keys (Some i) s l = absurd (selected_before_end n keys i s l)

  pub result_item : (n : ℕ) (keys : List K) (index : Option ℕ) → SelectsInGroup R g n (map group_of keys) index → MatchOption index (slice_get (filter (λ x. is_eq (R (group_of x) g)) keys) n ≡ None) (λ i. slice_get keys i ≡ slice_get (filter (λ x. is_eq (R (group_of x) g)) keys) n)
  result_item n keys None s = slice_get_past (filter (λ x. is_eq (R (group_of x) g)) keys) n (omega (arith, s, size_of_keys R group_of g keys))
  result_item n keys (Some i) s = selected_item n keys i s

  -- The item below a node of two leaves.
  module _ (n : ℕ) (left right : List K) where
    abbrev selects : G × ℕ → List K → Option ℕ → Type 0
    selects query keys index = SelectsInGroup R query.0 query.1 (map group_of keys) index

    abbrev both : List K
    both = left ++ right

    pub none_below : LeadsTo selects (g, n) (left ∷ right ∷ []) None → slice_get (filter (λ x. is_eq (R (group_of x) g)) (left ++ right)) n ≡ None
    none_below leads = let l : group_size R g (map group_of both) ≤ n = rw (append-nil right) at leads in result_item n both None l

    module _ (child : ℕ) (next : G × ℕ) (leads : LeadsTo selects (g, n) (left ∷ right ∷ []) (Some (child, next))) (index : Option ℕ) where
      pub item_in_first : child ≡ 0 → IsIndexBelow left index → selects next left index → MatchOption index (slice_get (filter (λ x. is_eq (R (group_of x) g)) (left ++ right)) n ≡ None) (λ i. slice_get (left ++ right) i ≡ slice_get (filter (λ x. is_eq (R (group_of x) g)) (left ++ right)) n)
      item_in_first e p s = by index p s where
        whole : (found : Option ℕ) → IsIndexBelow left found → selects next left found → SelectsInGroup R g n (map group_of both) (moved_by 0 found)
        whole found a b = rw (append-nil right) at ((rw e at leads).1 found a b)

        by : (found : Option ℕ) → IsIndexBelow left found → selects next left found → MatchOption found (slice_get (filter (λ x. is_eq (R (group_of x) g)) (left ++ right)) n ≡ None) (λ i. slice_get (left ++ right) i ≡ slice_get (filter (λ x. is_eq (R (group_of x) g)) (left ++ right)) n)
        by None a b = result_item n both None (whole None a b)
        by (Some i) a b = let same : 0 + i ≡ i = omega arith in result_item n both (Some i) (rw same at (whole (Some i) a b))

      pub item_in_second : (child ≡ 0 → ⊥) → IsIndexBelow right index → selects next right index → MatchOption (option_map (λ i. length left + i) index) (slice_get (filter (λ x. is_eq (R (group_of x) g)) (left ++ right)) n ≡ None) (λ i. slice_get (left ++ right) i ≡ slice_get (filter (λ x. is_eq (R (group_of x) g)) (left ++ right)) n)
      item_in_second other p s = by index p s where
        last : child ≡ 1
        last = omega (arith, leads.0, other)

        whole : (found : Option ℕ) → IsIndexBelow right found → selects next right found → SelectsInGroup R g n (map group_of both) (moved_by (length left) found)
        whole found a b = rw (append-nil right, append-nil left) at ((rw last at leads).1 found a b)

        by : (found : Option ℕ) → IsIndexBelow right found → selects next right found → MatchOption (option_map (λ i. length left + i) found) (slice_get (filter (λ x. is_eq (R (group_of x) g)) (left ++ right)) n ≡ None) (λ i. slice_get (left ++ right) i ≡ slice_get (filter (λ x. is_eq (R (group_of x) g)) (left ++ right)) n)
        by None a b = result_item n both None (whole None a b)
        by (Some i) a b = result_item n both (Some (length left + i)) (whole (Some i) a b)

-- ---- ranks

-- Filtering by two tests, one after the other, is filtering by both at once.
filter_both : {X : Type 0} (p q : X → Bool) (xs : List X) → filter p (filter q xs) ≡ filter (λ x. p x && q x) xs
filter_both p q [] = refl
filter_both p q (x ∷ xs) = by (q x) (filter_both p q xs) where
  by : (b : Bool) → filter p (filter q xs) ≡ filter (λ y. p y && q y) xs → filter p (cond b (x ∷ filter q xs) (filter q xs)) ≡ cond (p x && b) (x ∷ filter (λ y. p y && q y) xs) (filter (λ y. p y && q y) xs)
  by true e = rw (and-true (p x), e) refl
  by false e = rw (and-false (p x)) e

module _ {K G : Type 0} (cmp : K → K → Ordering) (R : G → G → Ordering) (group_of : K → G) (k : K) (keys : List K) where
  -- The two tests of a rank, written as one test.
  rank_in_words : (rank : Option (G × ℕ)) → IsRankInGroup R group_of k cmp keys rank → IsInGroup R (group_of k) (length (filter (λ x. is_lt (cmp x k) && is_eq (R (group_of x) (group_of k))) keys)) rank
  rank_in_words None h = h
  rank_in_words (Some r) h = (h.0, h.1 ∙ ap length (filter_both (λ x. is_lt (cmp x k)) (λ x. is_eq (R (group_of x) (group_of k))) keys))

  pub either_in_words : (outcome : Result (Option (G × ℕ)) (Option (G × ℕ))) → MatchResult outcome (IsRankInGroup R group_of k cmp keys) (IsRankInGroup R group_of k cmp keys) → MatchResult outcome (IsInGroup R (group_of k) (length (filter (λ x. is_lt (cmp x k) && is_eq (R (group_of x) (group_of k))) keys))) (IsInGroup R (group_of k) (length (filter (λ x. is_lt (cmp x k) && is_eq (R (group_of x) (group_of k))) keys)))
  either_in_words (Ok rank) h = rank_in_words rank h
  either_in_words (Err rank) h = rank_in_words rank h

  pub rank_present : (slot : Result ℕ ℕ) (outcome : Result (Option (G × ℕ)) (Option (G × ℕ))) → is_ok outcome ≡ is_ok slot → MatchResult outcome (IsRankInGroup R group_of k cmp keys) (IsRankInGroup R group_of k cmp keys) → IfOk slot (λ _. MatchResult outcome (IsInGroup R (group_of k) (length (filter (λ x. is_lt (cmp x k) && is_eq (R (group_of x) (group_of k))) keys))) (λ _. ⊥))
  rank_present (Ok i) (Ok rank) same h = rank_in_words rank h
  rank_present (Ok i) (Err rank) same h = absurd (true≢false (sym same))
  rank_present (Err i) outcome same h = tt

  pub rank_absent : (slot : Result ℕ ℕ) (outcome : Result (Option (G × ℕ)) (Option (G × ℕ))) → is_ok outcome ≡ is_ok slot → MatchResult outcome (IsRankInGroup R group_of k cmp keys) (IsRankInGroup R group_of k cmp keys) → IfErr slot (λ _. MatchResult outcome (λ _. ⊥) (IsInGroup R (group_of k) (length (filter (λ x. is_lt (cmp x k) && is_eq (R (group_of x) (group_of k))) keys))))
  rank_absent (Ok i) outcome same h = tt
  rank_absent (Err i) (Ok rank) same h = absurd (true≢false same)
  rank_absent (Err i) (Err rank) same h = rank_in_words rank h
