use Rattle.std.proofs.Common.{◌≡◌, ℕ, suc, ◌+◌, ◌-◌, ◌^◌, ◌<◌, ◌≤◌, min, List, [], ◌∷◌, ◌++◌, length, map, take, drop, get_or, Bool, true, false, cond, ◌||◌, refl, sym, ap, ◌∙◌, subst, arith, length-append}
use Rattle.std.specs.declared.cmp.Ordering.{Ordering}
use Rattle.std.specs.declared.cmp.Ordering.TheVariants.{Less, Equal, Greater}
use Rattle.std.specs.Ordering.{is_eq, is_gt, ordering_reverse}
use Rattle.std.specs.Cmp.{IsTotalOrder}
use Rattle.std.specs.List.{AllByRecursion, AllZip, filter, list_any}
use Rattle.std.specs.List.Sorted.{IsStrictlySortedBy}
use Rattle.std.proofs.lemmas.List.{append_assoc, map-append, length-map, length-take, take_more, take-append-drop}
use Rattle.std.proofs.lemmas.Cmp.{upto, tied_itself, tied_back, alike_right}
use Rattle.std.proofs.lemmas.Bool.{true≢false}
use Rattle.std.proofs.lemmas.List.Folds.{list_any-append}
use Rattle.std.proofs.lemmas.List.Elements.{filter-append}
use Rattle.bptree_arguments.specs.declared.group.GroupCount.{GroupCount}
use Rattle.bptree_arguments.specs.GroupClones.{less_le, le_less, size_alike, greatest_alike}
use Rattle.bptree_arguments.specs.Groups.{group, group_size, different, IsNonDescending, AreExtremes, IsGroupSummary}
use Rattle.bptree_keys.specs.Pieces.{flatten, piece_at, ArePieces}
use Rattle.bptree_keys.proofs.PieceLemmas.{AllByRecursion-append, AllByRecursion-right, AllByRecursion-weaker, AllZip-at, AllZip-length, flatten-cut, sorted_left, sorted_right, flatten-take_more}
use Rattle.bptree_arguments.proofs.RankLemmas.{filter_none}

list_any_none : {X : Type 0} (p : X → Bool) (xs : List X) → AllByRecursion (λ x. p x ≡ false) xs → list_any p xs ≡ false
list_any_none p [] h = refl
list_any_none p (x ∷ xs) h = rw h.0 (list_any_none p xs h.1)

-- an order that is neither above nor equal is below
pub less_by : (r : Ordering) → is_gt r ≡ false → (r ≡ Equal → ⊥) → r ≡ Less
less_by Less h k = refl
less_by Equal h k = absurd (k refl)
less_by Greater h k = absurd (true≢false h)

pub equal_from : (r : Ordering) → is_eq r ≡ true → r ≡ Equal
equal_from Less e = absurd (true≢false (sym e))
equal_from Equal e = refl
equal_from Greater e = absurd (true≢false (sym e))

module _ {G : Type 0} {R : G → G → Ordering} (o : IsTotalOrder R) where
  not_equal_above : (x g : G) → R g x ≡ Less → is_eq (R x g) ≡ false
  not_equal_above x g e = ap is_eq (o.antisymm x g ∙ ap ordering_reverse e)

  -- the size of a group in two lists, one after the other, is the sum of its sizes in both
  pub size-append : (g : G) (xs ys : List G) → group_size R g (xs ++ ys) ≡ group_size R g xs + group_size R g ys
  size-append g xs ys = ap length (filter-append (λ x. is_eq (R x g)) xs ys) ∙ length-append (filter (λ x. is_eq (R x g)) xs) _

  pub size_below : (g : G) (xs : List G) → AllByRecursion (λ x. R x g ≡ Less) xs → group_size R g xs ≡ 0
  size_below g xs h = ap length (filter_none (λ x. is_eq (R x g)) xs (AllByRecursion-weaker (λ x. R x g ≡ Less) (λ x. is_eq (R x g) ≡ false) (λ x e. ap is_eq e) xs h))

  pub size_above : (g : G) (xs : List G) → AllByRecursion (λ x. R g x ≡ Less) xs → group_size R g xs ≡ 0
  size_above g xs h = ap length (filter_none (λ x. is_eq (R x g)) xs (AllByRecursion-weaker (λ x. R g x ≡ Less) (λ x. is_eq (R x g) ≡ false) (λ x e. not_equal_above x g e) xs h))

  pub size-le : (g : G) (xs : List G) → group_size R g xs ≤ length xs
  size-le g [] = omega arith
  size-le g (x ∷ xs) = by (is_eq (R x g)) (size-le g xs) where
    by : (b : Bool) → group_size R g xs ≤ length xs → length (cond b (x ∷ filter (λ y. is_eq (R y g)) xs) (filter (λ y. is_eq (R y g)) xs)) ≤ suc (length xs)
    by true h = omega arith
    by false h = omega arith

  -- if a group has a size, some element is of that group
  pub witness : (P : G → Type 0) (g : G) (xs : List G) → 0 < group_size R g xs → AllByRecursion P xs → (x : G) × P x × (R x g ≡ Equal)
  witness P g [] s h = absurd (omega arith)
  witness P g (x ∷ xs) s h = by (R x g) refl (λ t. witness P g xs t h.1) where
    by : (r : Ordering) → R x g ≡ r → (0 < group_size R g xs → (y : G) × P y × (R y g ≡ Equal)) → (y : G) × P y × (R y g ≡ Equal)
    by Less e k = k (rw e at s)
    by Equal e k = (x, h.0, e)
    by Greater e k = k (rw e at s)

  -- no element of the first part is above any of the second
  pub crossing : (xs ys : List G) → IsNonDescending R (xs ++ ys) → AllByRecursion (λ x. AllByRecursion (λ y. is_gt (R x y) ≡ false) ys) xs
  crossing [] ys h = tt
  crossing (x ∷ xs) ys h = (AllByRecursion-right (λ y. is_gt (R x y) ≡ false) xs ys h.0, crossing xs ys h.1)

  -- the number of different groups is at most the length
  pub different-le : (xs : List G) → different R xs ≤ length xs
  different-le [] = omega arith
  different-le (x ∷ xs) = by (list_any (λ y. is_eq (R x y)) xs) (different-le xs) where
    by : (b : Bool) → different R xs ≤ length xs → cond b 0 1 + different R xs ≤ suc (length xs)
    by true h = omega arith
    by false h = omega arith

  pub different_apart : (xs ys : List G) → AllByRecursion (λ x. list_any (λ y. is_eq (R x y)) ys ≡ false) xs → different R (xs ++ ys) ≡ different R xs + different R ys
  different_apart [] ys h = omega arith
  different_apart (x ∷ xs) ys h = rw (list_any-append (λ y. is_eq (R x y)) xs ys, h.0) (by (list_any (λ y. is_eq (R x y)) xs) (different_apart xs ys h.1)) where
    by : (b : Bool) → different R (xs ++ ys) ≡ different R xs + different R ys → cond (b || false) 0 1 + different R (xs ++ ys) ≡ (cond b 0 1 + different R xs) + different R ys
    by true e = omega arith
    by false e = omega arith

  joined_step : (a c e : Bool) (d p q : ℕ) → (c ≡ true → a ≡ e) → d + cond e 1 0 ≡ p + q → (cond (a || c) 0 1 + d) + cond (c || e) 1 0 ≡ (cond a 0 1 + p) + q
  joined_step true true true d p q h k = omega arith
  joined_step true true false d p q h k = absurd (true≢false (h refl))
  joined_step false true true d p q h k = absurd (true≢false (sym (h refl)))
  joined_step false true false d p q h k = omega arith
  joined_step true false true d p q h k = omega arith
  joined_step true false false d p q h k = omega arith
  joined_step false false true d p q h k = omega arith
  joined_step false false false d p q h k = omega arith

  turned : (x m : G) → is_eq (R m x) ≡ is_eq (R x m)
  turned x m = ap is_eq (o.antisymm m x) ∙ same (R x m) where
    same : (r : Ordering) → is_eq (ordering_reverse r) ≡ is_eq r
    same Less = refl
    same Equal = refl
    same Greater = refl

  any_alike : (x m : G) → R x m ≡ Equal → (xs : List G) → list_any (λ y. is_eq (R x y)) xs ≡ list_any (λ y. is_eq (R m y)) xs
  any_alike x m e [] = refl
  any_alike x m e (y ∷ ys) = rw (o.congr x m y e, any_alike x m e ys) refl

  pub different_joined : (m : G) (xs ys : List G) → AllByRecursion (λ x. list_any (λ y. is_eq (R x y)) ys ≡ is_eq (R x m)) xs → different R (xs ++ ys) + cond (list_any (λ x. is_eq (R m x)) xs) 1 0 ≡ different R xs + different R ys
  different_joined m [] ys h = omega arith
  different_joined m (x ∷ xs) ys h =
      rw (list_any-append (λ y. is_eq (R x y)) xs ys, h.0, turned x m)
      (joined_step (list_any (λ y. is_eq (R x y)) xs) (is_eq (R x m)) (list_any (λ y. is_eq (R m y)) xs) (different R (xs ++ ys)) (different R xs) (different R ys) (λ e. any_alike x m (equal_from (R x m) e) xs) (different_joined m xs ys h.1))

  any_true : (x g : G) (ys : List G) → 0 < group_size R g ys → R x g ≡ Equal → list_any (λ y. is_eq (R x y)) ys ≡ true
  any_true x g [] s e = absurd (omega arith)
  any_true x g (y ∷ ys) s e = by (R y g) refl (λ t. any_true x g ys t e) where
    none : is_eq (R y g) ≡ false → (0 < group_size R g ys → list_any (λ z. is_eq (R x z)) ys ≡ true) → (is_eq (R x y) || list_any (λ z. is_eq (R x z)) ys) ≡ true
    none f k = rw (k (rw f at s)) (or_true (is_eq (R x y))) where
      or_true : (b : Bool) → (b || true) ≡ true
      or_true true = refl
      or_true false = refl

    by : (r : Ordering) → R y g ≡ r → (0 < group_size R g ys → list_any (λ z. is_eq (R x z)) ys ≡ true) → (is_eq (R x y) || list_any (λ z. is_eq (R x z)) ys) ≡ true
    by Less f k = none (ap is_eq f) k
    by Equal f k = rw (alike_right o y g x f, e) refl
    by Greater f k = none (ap is_eq f) k

  -- the least is not above the greatest
  pub ends_ordered : (xs : List G) (l g : G × ℕ) (d : ℕ) → AreExtremes R xs l g d → is_gt (R l.0 g.0) ≡ false
  ends_ordered xs l g d a =
      let w = witness (λ x. is_gt (R l.0 x) ≡ false) g.0 xs (omega (arith, a.greatest_there, a.greatest_size)) a.least_bound in
      upto o l.0 w.0 g.0 w.1 (ap is_gt w.2)

  -- two lists, one after the other, each with its extremes
  module _ (xs ys : List G) (l1 g1 l2 g2 : G × ℕ) (d1 d2 : ℕ) (a : AreExtremes R xs l1 g1 d1) (b : AreExtremes R ys l2 g2 d2) (h : IsNonDescending R (xs ++ ys)) where
    pub boundary : is_gt (R g1.0 l2.0) ≡ false
    boundary =
        let w = witness (λ x. AllByRecursion (λ y. is_gt (R x y) ≡ false) ys) g1.0 xs (omega (arith, a.greatest_there, a.greatest_size)) (crossing xs ys h) in
        let v = witness (λ y. is_gt (R w.0 y) ≡ false) l2.0 ys (omega (arith, b.least_there, b.least_size)) w.1 in
        upto o g1.0 w.0 l2.0 (ap is_gt (tied_back o w.0 g1.0 w.2)) (upto o w.0 v.0 l2.0 v.1 (ap is_gt v.2))

    -- the least group of the first part is not above any group of either
    least_all : AllByRecursion (λ x. is_gt (R l1.0 x) ≡ false) (xs ++ ys)
    least_all = AllByRecursion-append (λ x. is_gt (R l1.0 x) ≡ false) xs ys a.least_bound (AllByRecursion-weaker (λ y. is_gt (R l2.0 y) ≡ false) (λ y. is_gt (R l1.0 y) ≡ false) (λ y e. upto o l1.0 l2.0 y (upto o l1.0 g1.0 l2.0 (ends_ordered xs l1 g1 d1 a) boundary) e) ys b.least_bound)

    greatest_all : AllByRecursion (λ x. is_gt (R x g2.0) ≡ false) (xs ++ ys)
    greatest_all = AllByRecursion-append (λ x. is_gt (R x g2.0) ≡ false) xs ys (AllByRecursion-weaker (λ x. is_gt (R x g1.0) ≡ false) (λ x. is_gt (R x g2.0) ≡ false) (λ x e. upto o x g1.0 g2.0 e (upto o g1.0 l2.0 g2.0 boundary (ends_ordered ys l2 g2 d2 b))) xs a.greatest_bound) b.greatest_bound

    -- the size in the other part of the least or the greatest group
    pub least_shared : R l1.0 l2.0 ≡ Equal → group_size R l1.0 ys ≡ l2.1
    least_shared e = size_alike o l1.0 l2.0 e ys ∙ sym b.least_size

    pub least_apart : R l1.0 l2.0 ≡ Less → group_size R l1.0 ys ≡ 0
    least_apart e = size_above l1.0 ys (AllByRecursion-weaker (λ y. is_gt (R l2.0 y) ≡ false) (λ y. R l1.0 y ≡ Less) (λ y f. less_le o l1.0 l2.0 y e f) ys b.least_bound)

    pub greatest_shared : R g1.0 g2.0 ≡ Equal → group_size R g2.0 xs ≡ g1.1
    greatest_shared e = sym (size_alike o g1.0 g2.0 e xs) ∙ sym a.greatest_size

    pub greatest_apart : R g1.0 g2.0 ≡ Less → group_size R g2.0 xs ≡ 0
    greatest_apart e = size_below g2.0 xs (AllByRecursion-weaker (λ x. is_gt (R x g1.0) ≡ false) (λ x. R x g2.0 ≡ Less) (λ x f. le_less o x g1.0 g2.0 f e) xs a.greatest_bound)

    -- the number of different groups in both lists
    count_apart : R g1.0 l2.0 ≡ Less → different R (xs ++ ys) ≡ d1 + d2
    count_apart e =
        let none : AllByRecursion (λ x. list_any (λ y. is_eq (R x y)) ys ≡ false) xs =
        AllByRecursion-weaker (λ x. is_gt (R x g1.0) ≡ false) (λ x. list_any (λ y. is_eq (R x y)) ys ≡ false)
        (λ x f. list_any_none (λ y. is_eq (R x y)) ys (AllByRecursion-weaker (λ y. is_gt (R l2.0 y) ≡ false) (λ y. is_eq (R x y) ≡ false) (λ y k. ap is_eq (less_le o x l2.0 y (le_less o x g1.0 l2.0 f e) k)) ys b.least_bound)) xs a.greatest_bound in
        omega (arith, different_apart xs ys none, a.count_is, b.count_is)

    in_both : R g1.0 l2.0 ≡ Equal → (x : G) → is_gt (R x g1.0) ≡ false → list_any (λ y. is_eq (R x y)) ys ≡ is_eq (R x g1.0)
    in_both e x f = by (R x g1.0) refl f where
      by : (r : Ordering) → R x g1.0 ≡ r → is_gt r ≡ false → list_any (λ y. is_eq (R x y)) ys ≡ is_eq r
      by Less k u = list_any_none (λ y. is_eq (R x y)) ys (AllByRecursion-weaker (λ y. is_gt (R l2.0 y) ≡ false) (λ y. is_eq (R x y) ≡ false) (λ y v. ap is_eq (less_le o x l2.0 y (sym (alike_right o g1.0 l2.0 x e) ∙ k) v)) ys b.least_bound)
      by Equal k u = any_true x l2.0 ys (omega (arith, b.least_there, b.least_size)) (sym (alike_right o g1.0 l2.0 x e) ∙ k)
      by Greater k u = absurd (true≢false u)

    count_shared : R g1.0 l2.0 ≡ Equal → different R (xs ++ ys) + 1 ≡ d1 + d2
    count_shared e =
        let all = AllByRecursion-weaker (λ x. is_gt (R x g1.0) ≡ false) (λ x. list_any (λ y. is_eq (R x y)) ys ≡ is_eq (R x g1.0)) (in_both e) xs a.greatest_bound in
        let there = any_true g1.0 g1.0 xs (omega (arith, a.greatest_there, a.greatest_size)) (tied_itself o g1.0) in
        let both = rw there at (different_joined g1.0 xs ys all) in
        omega (arith, both, a.count_is, b.count_is)

    -- the extremes of both lists, given each size and the count
    pub merged : (n m d : ℕ) → n ≡ l1.1 + group_size R l1.0 ys → m ≡ group_size R g2.0 xs + g2.1 → d ≡ different R (xs ++ ys) → AreExtremes R (xs ++ ys) (l1.0, n) (g2.0, m) d
    merged n m d e f k = record {
      least_bound = least_all;
      least_size = omega (arith, e, size-append l1.0 xs ys, a.least_size);
      least_there = omega (arith, e, a.least_there);
      greatest_bound = greatest_all;
      greatest_size = omega (arith, f, size-append g2.0 xs ys, b.greatest_size);
      greatest_there = omega (arith, f, b.greatest_there);
      count_is = k;
    }

  -- the sizes and the count are at most the length
  pub sizes_fit : (xs : List G) (l g : G × ℕ) (d : ℕ) → AreExtremes R xs l g d → (l.1 ≤ length xs) × (g.1 ≤ length xs) × (d ≤ length xs)
  sizes_fit xs l g d a = (omega (arith, a.least_size, size-le l.0 xs), omega (arith, a.greatest_size, size-le g.0 xs), omega (arith, a.count_is, different-le xs))

  pub capped : (n m : ℕ) (xs ys : List G) → n ≤ length xs → m ≤ length ys → length (xs ++ ys) < 2 ^ 64 → min (n + m) (2 ^ 64 - 1) ≡ n + m
  capped n m xs ys h k l = omega (arith, length-append xs ys)

  -- the cases of a merge
  module _ (xs ys : List G) (l1 g1 l2 g2 : G × ℕ) (d1 d2 : ℕ) (a : AreExtremes R xs l1 g1 d1) (b : AreExtremes R ys l2 g2 d2) (h : IsNonDescending R (xs ++ ys)) (fits : length (xs ++ ys) < 2 ^ 64) where
    pub below : (R g1.0 l2.0 ≡ Equal → ⊥) → R g1.0 l2.0 ≡ Less
    below k = less_by (R g1.0 l2.0) (boundary xs ys l1 g1 l2 g2 d1 d2 a b h) k

    pub many_left : R l1.0 g1.0 ≡ Less → l1.1 ≡ l1.1 + group_size R l1.0 ys
    many_left e = omega (arith, least_apart xs ys l1 g1 l2 g2 d1 d2 a b h (less_le o l1.0 g1.0 l2.0 e (boundary xs ys l1 g1 l2 g2 d1 d2 a b h)))

    pub many_right : R l2.0 g2.0 ≡ Less → g2.1 ≡ group_size R g2.0 xs + g2.1
    many_right e = omega (arith, greatest_apart xs ys l1 g1 l2 g2 d1 d2 a b h (le_less o g1.0 l2.0 g2.0 (boundary xs ys l1 g1 l2 g2 d1 d2 a b h) e))

    pub shared_count : R g1.0 l2.0 ≡ Equal → min (d1 + d2) (2 ^ 64 - 1) - 1 ≡ different R (xs ++ ys)
    shared_count e = omega (arith, count_shared xs ys l1 g1 l2 g2 d1 d2 a b h e, capped d1 d2 xs ys (sizes_fit xs l1 g1 d1 a).2 (sizes_fit ys l2 g2 d2 b).2 fits)

    pub apart_count : R g1.0 l2.0 ≡ Less → min (d1 + d2) (2 ^ 64 - 1) ≡ different R (xs ++ ys)
    apart_count e = omega (arith, count_apart xs ys l1 g1 l2 g2 d1 d2 a b h e, capped d1 d2 xs ys (sizes_fit xs l1 g1 d1 a).2 (sizes_fit ys l2 g2 d2 b).2 fits)

  module _ (xs ys : List G) (h : IsNonDescending R (xs ++ ys)) (fits : length (xs ++ ys) < 2 ^ 64) where
    -- one group in each part
    pub one_one_shared : (x y : G) (n m : ℕ) → AreExtremes R xs (x, n) (x, n) 1 → AreExtremes R ys (y, m) (y, m) 1 → R x y ≡ Equal → AreExtremes R (xs ++ ys) (x, min (n + m) (2 ^ 64 - 1)) (x, min (n + m) (2 ^ 64 - 1)) 1
    one_one_shared x y n m a b q =
        let sum = capped n m xs ys (sizes_fit xs (x, n) (x, n) 1 a).0 (sizes_fit ys (y, m) (y, m) 1 b).0 fits in
        let left = least_shared xs ys (x, n) (x, n) (y, m) (y, m) 1 1 a b h q in
        let right = greatest_shared xs ys (x, n) (x, n) (y, m) (y, m) 1 1 a b h q in
        let count = count_shared xs ys (x, n) (x, n) (y, m) (y, m) 1 1 a b h q in
        greatest_alike o (xs ++ ys) (x, min (n + m) (2 ^ 64 - 1)) (y, min (n + m) (2 ^ 64 - 1)) 1 x (tied_back o x y q)
        (merged xs ys (x, n) (x, n) (y, m) (y, m) 1 1 a b h _ _ 1 (omega (arith, sum, left)) (omega (arith, sum, right)) (omega (arith, count)))

    pub one_one_apart : (x y c : G) (n m : ℕ) → AreExtremes R xs (x, n) (x, n) 1 → AreExtremes R ys (y, m) (y, m) 1 → R y c ≡ Equal → (R x y ≡ Equal → ⊥) → AreExtremes R (xs ++ ys) (x, n) (c, m) 2 × (R x c ≡ Less)
    one_one_apart x y c n m a b k q =
        let low : R x y ≡ Less = below xs ys (x, n) (x, n) (y, m) (y, m) 1 1 a b h fits q in
        let left = least_apart xs ys (x, n) (x, n) (y, m) (y, m) 1 1 a b h low in
        let right = greatest_apart xs ys (x, n) (x, n) (y, m) (y, m) 1 1 a b h low in
        let count = count_apart xs ys (x, n) (x, n) (y, m) (y, m) 1 1 a b h low in (
          greatest_alike o (xs ++ ys) (x, n) (y, m) 2 c k (merged xs ys (x, n) (x, n) (y, m) (y, m) 1 1 a b h n m 2 (omega (arith, left)) (omega (arith, right)) (omega (arith, count))),
          less_le o x y c low (ap is_gt k),
        )

    -- several groups, and then one
    pub many_one_shared : (y : G) (m : ℕ) (l g : G × ℕ) (d : ℕ) → AreExtremes R xs l g d → R l.0 g.0 ≡ Less → AreExtremes R ys (y, m) (y, m) 1 → R g.0 y ≡ Equal → AreExtremes R (xs ++ ys) l (g.0, min (g.1 + m) (2 ^ 64 - 1)) d × (R l.0 g.0 ≡ Less)
    many_one_shared y m l g d a f b q =
        let sum = capped g.1 m xs ys (sizes_fit xs l g d a).1 (sizes_fit ys (y, m) (y, m) 1 b).0 fits in
        let left = many_left xs ys l g (y, m) (y, m) d 1 a b h fits f in
        let right = greatest_shared xs ys l g (y, m) (y, m) d 1 a b h q in
        let count = count_shared xs ys l g (y, m) (y, m) d 1 a b h q in (
          greatest_alike o (xs ++ ys) l (y, min (g.1 + m) (2 ^ 64 - 1)) d g.0 (tied_back o g.0 y q) (merged xs ys l g (y, m) (y, m) d 1 a b h l.1 _ d left (omega (arith, sum, right)) (omega (arith, count))),
          f,
        )

    pub many_one_apart : (y c : G) (m : ℕ) (l g : G × ℕ) (d : ℕ) → AreExtremes R xs l g d → R l.0 g.0 ≡ Less → AreExtremes R ys (y, m) (y, m) 1 → R y c ≡ Equal → (R g.0 y ≡ Equal → ⊥) → AreExtremes R (xs ++ ys) l (c, m) (min (d + 1) (2 ^ 64 - 1)) × (R l.0 c ≡ Less)
    many_one_apart y c m l g d a f b k q =
        let low : R g.0 y ≡ Less = below xs ys l g (y, m) (y, m) d 1 a b h fits q in
        let left = many_left xs ys l g (y, m) (y, m) d 1 a b h fits f in
        let right = greatest_apart xs ys l g (y, m) (y, m) d 1 a b h low in
        let count = apart_count xs ys l g (y, m) (y, m) d 1 a b h fits low in (
          greatest_alike o (xs ++ ys) l (y, m) _ c k (merged xs ys l g (y, m) (y, m) d 1 a b h l.1 m _ left (omega (arith, right)) count),
          less_le o l.0 y c (o.trans l.0 g.0 y f low) (ap is_gt k),
        )

  -- the summary after one more group
  abbrev pub TakesNext : GroupCount G → G → GroupCount G → Type 0
  TakesNext before next after = (groups : List G) (x : G) → R next x ≡ Equal → IsGroupSummary R before groups → IsNonDescending R (groups ++ x ∷ []) → length (groups ++ x ∷ []) < 2 ^ 64 → IsGroupSummary R after (groups ++ x ∷ [])

  -- the extremes of a list of one group
  pub single : (x g : G) → R g x ≡ Equal → AreExtremes R (x ∷ []) (g, 1) (g, 1) 1
  single x g e =
      let there : 1 ≡ group_size R g (x ∷ []) = rw (tied_back o g x e) refl in
      record {
        least_bound = (ap is_gt e, tt);
        least_size = there;
        least_there = omega arith;
        greatest_bound = (ap is_gt (tied_back o g x e), tt);
        greatest_size = there;
        greatest_there = omega arith;
        count_is = refl;
      }

module _ {G : Type 0} {R : G → G → Ordering} (o : IsTotalOrder R) (g m : G) (n : ℕ) (gs : List G) (bound : AllByRecursion (λ x. is_gt (R x m) ≡ false) gs) (size : n ≡ group_size R m gs) (there : 0 < n) where
  -- the size of another group in a list, by the greatest group of the list
  pub size_greatest_below : R m g ≡ Less → group_size R g gs ≡ 0
  size_greatest_below e = size_below o g gs (AllByRecursion-weaker (λ x. is_gt (R x m) ≡ false) (λ x. R x g ≡ Less) (λ x f. le_less o x m g f e) gs bound)

  pub size_greatest_same : R m g ≡ Equal → group_size R g gs ≡ n
  size_greatest_same e = sym (size_alike o m g e gs) ∙ sym size

  -- no group of a later list is below the greatest
  pub size_after_greatest : (back : List G) → IsNonDescending R (gs ++ back) → R g m ≡ Less → group_size R g back ≡ 0
  size_after_greatest back h e =
      let w = witness o (λ x. AllByRecursion (λ y. is_gt (R x y) ≡ false) back) m gs (omega (arith, there, size)) (crossing o gs back h) in
      size_above o g back (AllByRecursion-weaker (λ y. is_gt (R w.0 y) ≡ false) (λ y. R g y ≡ Less) (λ y f. less_le o g w.0 y (alike_right o w.0 m g w.2 ∙ e) f) back w.1)

module _ {K G : Type 0} (cmp : K → K → Ordering) (R : G → G → Ordering) (group_of : K → G) (keeps : (x y : K) → is_gt (cmp x y) ≡ false → is_gt (R (group_of x) (group_of y)) ≡ false) where
  above : (x : K) (keys : List K) → AllByRecursion (λ y. cmp x y ≡ Less) keys → AllByRecursion (λ y. is_gt (R (group_of x) y) ≡ false) (map group_of keys)
  above x [] h = tt
  above x (y ∷ ys) h = (keeps x y (ap is_gt h.0), above x ys h.1)

  -- the groups of ascending keys do not descend
  pub groups_ascend : (keys : List K) → IsStrictlySortedBy cmp keys → IsNonDescending R (map group_of keys)
  unfolding IsStrictlySortedBy
  groups_ascend [] h = tt
  groups_ascend (x ∷ xs) h = (above x xs h.0, groups_ascend xs h.1)

  module _ (o : IsTotalOrder R) where
    -- the summary after one more key of a leaf
    pub key_step : (keys : List K) (i : ℕ) (k : K) (g : G) (before after : GroupCount G) → i < length keys → k ≡ get_or keys i k → length keys < 2 ^ 64 → IsStrictlySortedBy cmp keys → R g (group_of k) ≡ Equal → TakesNext o before g after → IsGroupSummary R before (map group_of (take i keys)) → IsGroupSummary R after (map group_of (take (i + 1) keys))
    key_step keys i k g before after l read fits s e m a =
        let front = map group_of (take i keys) in
        let more : take (i + 1) keys ≡ take i keys ++ k ∷ [] = take_more keys i k l ∙ ap (λ x. take i keys ++ x ∷ []) (sym read) in
        let whole : map group_of (take (i + 1) keys) ≡ front ++ group_of k ∷ [] = ap (map group_of) more ∙ map-append group_of (take i keys) (k ∷ []) in
        let ascends : IsStrictlySortedBy cmp (take (i + 1) keys) = sorted_left cmp (take (i + 1) keys) (drop (i + 1) keys) (rw (take-append-drop (i + 1) keys) s) in
        let fits' : length (front ++ group_of k ∷ []) < 2 ^ 64 = omega (arith, length-append front (group_of k ∷ []), length-map (take i keys) group_of, length-take i keys, l, fits) in
        rw whole (m front (group_of k) e a (rw whole at (groups_ascend (take (i + 1) keys) ascends)) fits')

    -- the groups below one more child of an inner node
    module _ (pieces : List (List K)) (i : ℕ) (l : i < length pieces) where
      pub piece_whole : map group_of (flatten (take (i + 1) pieces)) ≡ map group_of (flatten (take i pieces)) ++ map group_of (piece_at pieces i)
      piece_whole = ap (map group_of) (flatten-take_more pieces i l) ∙ map-append group_of (flatten (take i pieces)) (piece_at pieces i)

      pub piece_order : ArePieces cmp pieces → IsNonDescending R (map group_of (flatten (take i pieces)) ++ map group_of (piece_at pieces i))
      piece_order are =
          let front = flatten (take i pieces) in
          let piece = piece_at pieces i in
          let back = flatten (drop (suc i) pieces) in
          let s : IsStrictlySortedBy cmp (front ++ (piece ++ back)) = rw (flatten-cut pieces i l) at are.ascending in
          rw map-append at (groups_ascend (front ++ piece) (sorted_left cmp (front ++ piece) back (rw append_assoc s)))

      pub piece_fits : ArePieces cmp pieces → length (map group_of (flatten (take i pieces)) ++ map group_of (piece_at pieces i)) < 2 ^ 64
      piece_fits are =
          let front = flatten (take i pieces) in
          let piece = piece_at pieces i in
          let back = flatten (drop (suc i) pieces) in
          omega (arith, length-append (map group_of front) (map group_of piece), length-map front group_of, length-map piece group_of, are.fits, ap length (flatten-cut pieces i l), length-append front (piece ++ back), length-append piece back)

    -- the groups of a part of ascending keys, and of what follows it, do not descend
    pub piece_ascends : (pieces : List (List K)) (i : ℕ) → i < length pieces → IsStrictlySortedBy cmp (flatten pieces) → IsNonDescending R (map group_of (piece_at pieces i) ++ map group_of (flatten (drop (suc i) pieces)))
    piece_ascends pieces i l s =
        let piece = piece_at pieces i in
        let back = flatten (drop (suc i) pieces) in
        rw map-append at (groups_ascend (piece ++ back) (sorted_right cmp (flatten (take i pieces)) (piece ++ back) (rw (flatten-cut pieces i l) at s)))

    -- the size of a group in the whole, by its sizes in the parts
    pub size_parts : (g : G) (pieces : List (List K)) (i : ℕ) → i < length pieces → group_size R g (map group_of (flatten pieces)) ≡ group_size R g (map group_of (flatten (take i pieces))) + (group_size R g (map group_of (piece_at pieces i)) + group_size R g (map group_of (flatten (drop (suc i) pieces))))
    size_parts g pieces i l =
        let front = flatten (take i pieces) in
        let piece = piece_at pieces i in
        let back = flatten (drop (suc i) pieces) in
        ap (λ t. group_size R g (map group_of t)) (flatten-cut pieces i l) ∙ rw (map-append group_of front (piece ++ back), map-append group_of piece back, size-append o g (map group_of front) (map group_of piece ++ map group_of back), size-append o g (map group_of piece) (map group_of back)) refl

    pub size_more : (g : G) (pieces : List (List K)) (i : ℕ) → i < length pieces → group_size R g (map group_of (flatten (take (i + 1) pieces))) ≡ group_size R g (map group_of (flatten (take i pieces))) + group_size R g (map group_of (piece_at pieces i))
    size_more g pieces i l =
        ap (λ t. group_size R g (map group_of t)) (flatten-take_more pieces i l) ∙ rw (map-append group_of (flatten (take i pieces)) (piece_at pieces i), size-append o g (map group_of (flatten (take i pieces))) (map group_of (piece_at pieces i))) refl

-- the size of a group is the number of its keys
pub size_of_keys : {K G : Type 0} (R : G → G → Ordering) (group_of : K → G) (g : G) (keys : List K) → group_size R g (map group_of keys) ≡ length (group R group_of g keys)
size_of_keys R group_of g [] = refl
size_of_keys R group_of g (k ∷ ks) = by (is_eq (R (group_of k) g)) (size_of_keys R group_of g ks) where
  by : (b : Bool) → group_size R g (map group_of ks) ≡ length (group R group_of g ks) → length (cond b (group_of k ∷ filter (λ x. is_eq (R x g)) (map group_of ks)) (filter (λ x. is_eq (R x g)) (map group_of ks))) ≡ length (cond b (k ∷ filter (λ x. is_eq (R (group_of x) g)) ks) (filter (λ x. is_eq (R (group_of x) g)) ks))
  by true e = ap suc e
  by false e = e

-- a child's summary is one of the keys below that child
module _ {K G : Type 0} (R : G → G → Ordering) (group_of : K → G) (pieces : List (List K)) (arguments : List (GroupCount G)) (summaries : AllZip (λ a keys. IsGroupSummary R a (map group_of keys)) arguments pieces) (i : ℕ) (l : i < length arguments) where
  pub child_within : i < length pieces
  child_within = omega (arith, l, AllZip-length (λ a keys. IsGroupSummary R a (map group_of keys)) arguments pieces summaries)

  pub summary_here : (argument : GroupCount G) → argument ≡ get_or arguments i argument → IsGroupSummary R argument (map group_of (piece_at pieces i))
  summary_here argument read = subst (λ a. IsGroupSummary R a (map group_of (piece_at pieces i))) (sym read) (AllZip-at (λ a keys. IsGroupSummary R a (map group_of keys)) arguments pieces i argument [] summaries l)
