-- Groups that do not descend, and the beginning and the end of one of them.
use Rattle.std.proofs.Common.{◌≡◌, ℕ, zero, suc, ◌+◌, ◌<◌, ◌≤◌, List, [], ◌∷◌, length, map, take, drop, get_or, Bool, true, false, not, refl, sym, ap, ◌∙◌, arith, add-one}
use Rattle.std.specs.declared.cmp.Ordering.{Ordering}
use Rattle.std.specs.declared.cmp.Ordering.TheVariants.{Less, Equal, Greater}
use Rattle.std.specs.Ordering.{is_eq, is_gt, is_lt}
use Rattle.std.specs.Cmp.{IsTotalOrder}
use Rattle.std.specs.List.{AllByRecursion}
use Rattle.std.specs.List.Sorted.{IsStrictlySortedBy}
use Rattle.std.proofs.lemmas.List.{length-map, get_or-map, drop-map, take-append-drop}
use Rattle.std.proofs.lemmas.Bool.{true≢false, not-true, not-false, not_from_false, false_from_ne_true}
use Rattle.std.proofs.lemmas.Cmp.{upto, tied_itself}
use Rattle.bptree_arguments.specs.Groups.{group_size, IsNonDescending}
use Rattle.bptree_arguments.specs.GroupResults.{IsBorderOf, is_before}
use Rattle.bptree_keys.proofs.PieceLemmas.{AllByRecursion-at, AllByRecursion-weaker, sorted_right}
use Rattle.bptree_arguments.proofs.GroupLemmas.{size-append, size_below, groups_ascend}
use Rattle.bptree_arguments.specs.GroupClones.{le_less}
use Rattle.bptree_arguments.proofs.RankLemmas.{filter_none}

pub less_from : (r : Ordering) → is_lt r ≡ true → r ≡ Less
less_from Less e = refl
less_from Equal e = absurd (true≢false (sym e))
less_from Greater e = absurd (true≢false (sym e))

other_above : (r : Ordering) → is_gt r ≡ true → is_eq r ≡ false
other_above Less e = refl
other_above Equal e = absurd (true≢false (sym e))
other_above Greater e = refl

-- an order that is neither below nor above is equal
pub between : (r : Ordering) → is_lt r ≡ false → is_gt r ≡ false → r ≡ Equal
between Less h k = absurd (true≢false h)
between Equal h k = refl
between Greater h k = absurd (true≢false k)

module _ {G : Type 0} {R : G → G → Ordering} (o : IsTotalOrder R) where
  -- a group that is not above another is before the border if the other is
  pub before_below : (g : G) (end : Bool) (x y : G) → is_gt (R x y) ≡ false → is_before end (R y g) ≡ true → is_before end (R x g) ≡ true
  before_below g true x y h e = not_from_false (is_gt (R x g)) (upto o x y g h (not-true (is_gt (R y g)) e))
  before_below g false x y h e = ap is_lt (le_less o x y g h (less_from (R y g) e))

  -- no group up to an item is above it, and no group from it on is below it, if the groups do not
  -- descend
  items_upto : (gs : List G) (m : ℕ) (d : G) → m < length gs → IsNonDescending R gs → AllByRecursion (λ x. is_gt (R x (get_or gs m d)) ≡ false) (take (suc m) gs)
  items_upto [] m d l h = absurd (omega arith)
  items_upto (x ∷ xs) zero d l h = (ap is_gt (tied_itself o x), tt)
  items_upto (x ∷ xs) (suc m) d l h = let small : m < length xs = omega arith in (AllByRecursion-at (λ y. is_gt (R x y) ≡ false) xs m d small h.0, items_upto xs m d small h.1)

  pub items_from : (gs : List G) (m : ℕ) (d : G) → m < length gs → IsNonDescending R gs → AllByRecursion (λ y. is_gt (R (get_or gs m d) y) ≡ false) (drop m gs)
  items_from [] m d l h = absurd (omega arith)
  items_from (x ∷ xs) zero d l h = (ap is_gt (tied_itself o x), h.0)
  items_from (x ∷ xs) (suc m) d l h = let small : m < length xs = omega arith in items_from xs m d small h.1

  pub nondescending_drop : (gs : List G) (n : ℕ) → IsNonDescending R gs → IsNonDescending R (drop n gs)
  nondescending_drop gs zero h = h
  nondescending_drop [] (suc n) h = h
  nondescending_drop (x ∷ xs) (suc n) h = nondescending_drop xs n h.1

  module _ (g : G) (end : Bool) (gs : List G) (h : IsNonDescending R gs) (m : ℕ) (d : G) (l : m < length gs) where
    -- if an item is before the border, so are those up to it; if it is not, neither are those from
    -- it on
    all_before : is_before end (R (get_or gs m d) g) ≡ true → AllByRecursion (λ x. is_before end (R x g) ≡ true) (take (m + 1) gs)
    all_before e = rw add-one (AllByRecursion-weaker (λ x. is_gt (R x (get_or gs m d)) ≡ false) (λ x. is_before end (R x g) ≡ true) (λ x f. before_below g end x (get_or gs m d) f e) (take (suc m) gs) (items_upto gs m d l h))

    none_before : is_before end (R (get_or gs m d) g) ≡ false → AllByRecursion (λ x. is_before end (R x g) ≡ false) (drop m gs)
    none_before e = AllByRecursion-weaker (λ x. is_gt (R (get_or gs m d) x) ≡ false) (λ x. is_before end (R x g) ≡ false) (λ x f. false_from_ne_true (is_before end (R x g)) (λ t. true≢false (sym (before_below g end (get_or gs m d) x f t) ∙ e))) (drop m gs) (items_from gs m d l h)

  module _ (g : G) where
    -- no group before the beginning of g is equal to g
    pub size_in_front : (gs : List G) (n : ℕ) → IsBorderOf R g false gs n → group_size R g (take n gs) ≡ 0
    size_in_front gs n s = size_below o g (take n gs) (AllByRecursion-weaker (λ x. is_lt (R x g) ≡ true) (λ x. R x g ≡ Less) (λ x. less_from (R x g)) (take n gs) s.before)

    pub size_from : (gs : List G) (n : ℕ) → IsBorderOf R g false gs n → group_size R g gs ≡ group_size R g (drop n gs)
    size_from gs n s = let sum = rw take-append-drop at (size-append o g (take n gs) (drop n gs)) in omega (arith, sum, size_in_front gs n s)

    -- if no group is below g, those up to the end of g are equal to g
    size_upto : (gs : List G) (n : ℕ) → n ≤ length gs → AllByRecursion (λ x. is_lt (R x g) ≡ false) gs → AllByRecursion (λ x. not (is_gt (R x g)) ≡ true) (take n gs) → AllByRecursion (λ x. not (is_gt (R x g)) ≡ false) (drop n gs) → group_size R g gs ≡ n
    size_upto [] n l low up past = omega (arith, l)
    size_upto (x ∷ xs) zero l low up past = ap length (filter_none (λ y. is_eq (R y g)) (x ∷ xs) (AllByRecursion-weaker (λ y. not (is_gt (R y g)) ≡ false) (λ y. is_eq (R y g) ≡ false) (λ y e. other_above (R y g) (not-false (is_gt (R y g)) e)) (x ∷ xs) past))
    size_upto (x ∷ xs) (suc n) l low up past = let small : n ≤ length xs = omega arith in rw (between (R x g) low.0 (not-true (is_gt (R x g)) up.0)) (ap suc (size_upto xs n small low.1 up.1 past))

module _ {K G : Type 0} (cmp : K → K → Ordering) (R : G → G → Ordering) (group_of : K → G) (o : IsTotalOrder R) (g : G) (keys : List K) (ascending : IsStrictlySortedBy cmp keys) where
  -- the size of a group is the number of keys from its beginning to its end
  pub size_between : (start n : ℕ) (rest : List K) → rest ≡ drop start keys → IsBorderOf R g false (map group_of keys) start → n ≤ length rest → (IsStrictlySortedBy cmp rest → IsBorderOf R g true (map group_of rest) n) → n ≡ group_size R g (map group_of keys)
  size_between start n rest is begins within ends =
      let border = ends (rw is (sorted_right cmp (take start keys) (drop start keys) (rw take-append-drop ascending))) in
      let same : drop start (map group_of keys) ≡ map group_of rest = drop-map group_of start keys ∙ ap (map group_of) (sym is) in
      sym (size_from o g (map group_of keys) start begins ∙ (ap (group_size R g) same ∙ size_upto o g (map group_of rest) n (omega (arith, within, length-map rest group_of)) (rw same at begins.from_there) border.before border.from_there))

  module _ (keeps : (x y : K) → is_gt (cmp x y) ≡ false → is_gt (R (group_of x) (group_of y)) ≡ false) (end : Bool) (m : ℕ) (k : K) (l : m < length keys) (read : k ≡ get_or keys m k) (v : G) (made : R v (group_of k) ≡ Equal) (r : Ordering) (compared : r ≡ R v g) where
    inside : m < length (map group_of keys)
    inside = omega (arith, l, length-map keys group_of)

    outcome : is_before end (R (get_or (map group_of keys) m v) g) ≡ is_before end r
    outcome =
        let here : get_or (map group_of keys) m v ≡ group_of k = get_or-map group_of keys m k v l ∙ ap group_of (sym read) in
        ap (is_before end) (rw here (sym (compared ∙ o.congr v (group_of k) g made)))

    -- `all_before` and `none_before` of ascending keys, by the group that was made from one of them
    pub up_to_key : true ≡ is_before end r → AllByRecursion (λ x. is_before end (R x g) ≡ true) (take (m + 1) (map group_of keys))
    up_to_key e = all_before o g end (map group_of keys) (groups_ascend cmp R group_of keeps keys ascending) m v inside (outcome ∙ sym e)

    pub from_key : false ≡ is_before end r → AllByRecursion (λ x. is_before end (R x g) ≡ false) (drop m (map group_of keys))
    from_key e = none_before o g end (map group_of keys) (groups_ascend cmp R group_of keeps keys ascending) m v inside (outcome ∙ sym e)
