-- The ends of a list of groups, and of two lists, one after the other.
use Rattle.std.proofs.Common.{◌≡◌, ◌≢◌, ℕ, zero, suc, ◌+◌, ◌-◌, ◌^◌, ◌<◌, min, List, [], ◌∷◌, ◌++◌, length, map, take, get_or, Result, Ok, Err, Bool, true, false, cond, ◌||◌, Option, refl, sym, ap, ◌∙◌, subst, arith}
use Rattle.std.specs.Prelude.{MatchOption, IfOk}
use Rattle.std.specs.declared.cmp.Ordering.{Ordering}
use Rattle.std.specs.declared.cmp.Ordering.TheVariants.{Less, Equal, Greater}
use Rattle.std.specs.Ordering.{is_eq, is_gt}
use Rattle.std.specs.Cmp.{IsTotalOrder}
use Rattle.std.specs.List.{AllByRecursion, AllZip, list_any}
use Rattle.std.proofs.lemmas.Cmp.{upto, tied_itself, tied_back, alike_right}
use Rattle.std.proofs.lemmas.Bool.{true≢false}
use Rattle.std.specs.List.Sorted.{IsStrictlySortedBy}
use Rattle.std.proofs.lemmas.List.{append-nil, length-map, take_all, take_more}
use Rattle.bptree_arguments.specs.declared.group.GroupCount.{GroupCount}
use Rattle.bptree_arguments.specs.declared.group.Ends.{Ends}
use Rattle.bptree_arguments.specs.Groups.{group_size, different, IsNonDescending, AreExtremes, AreEnds, IsGroupSummary}
use Rattle.bptree_keys.specs.Pieces.{flatten, piece_at, ArePieces}
use Rattle.bptree_keys.proofs.PieceLemmas.{AllByRecursion-append, AllByRecursion-weaker}
use Rattle.bptree_arguments.proofs.GroupLemmas.{less_by, ends_ordered, witness, crossing, sizes_fit, capped, merged, least_shared, greatest_shared, below, many_left, many_right, shared_count, apart_count, least_apart, greatest_apart, single, one_one_shared, one_one_apart, many_one_shared, many_one_apart, groups_ascend, piece_whole, piece_order, piece_fits}
use Rattle.bptree_arguments.specs.GroupClones.{less_le, size_alike, least_alike, greatest_alike, le_less}

module _ {G : Type 0} {R : G → G → Ordering} (o : IsTotalOrder R) where
  any_of_alike : (x y : G) (zs : List G) → AllByRecursion (λ z. R y z ≡ Equal) zs → list_any (λ z. is_eq (R x z)) zs ≡ true → R x y ≡ Equal
  any_of_alike x y [] h e = absurd (true≢false (sym e))
  any_of_alike x y (z ∷ zs) h e = by (R x z) refl (any_of_alike x y zs h.1) e where
    by : (r : Ordering) → R x z ≡ r → (list_any (λ u. is_eq (R x u)) zs ≡ true → R x y ≡ Equal) → (is_eq r || list_any (λ u. is_eq (R x u)) zs) ≡ true → R x y ≡ Equal
    by Less f k t = k t
    by Equal f k t = alike_right o y z x h.0 ∙ f
    by Greater f k t = k t

  different_positive : (y : G) (ys : List G) → 0 < different R (y ∷ ys)
  different_positive y [] = omega arith
  different_positive y (z ∷ zs) = omega (arith, different_positive z zs)

  -- if there is one group, all are equal
  all_alike : (x : G) (xs : List G) → different R (x ∷ xs) ≡ 1 → AllByRecursion (λ y. R x y ≡ Equal) xs
  all_alike x [] h = tt
  all_alike x (y ∷ ys) h = by (list_any (λ z. is_eq (R x z)) (y ∷ ys)) refl (all_alike y ys) h where
    by : (b : Bool) → list_any (λ z. is_eq (R x z)) (y ∷ ys) ≡ b → (different R (y ∷ ys) ≡ 1 → AllByRecursion (λ z. R y z ≡ Equal) ys) → cond b 0 1 + different R (y ∷ ys) ≡ 1 → AllByRecursion (λ z. R x z ≡ Equal) (y ∷ ys)
    by true e k t =
        let rest = k (omega (arith, t)) in
        let same = any_of_alike x y (y ∷ ys) (tied_itself o y, rest) e in
        (same, AllByRecursion-weaker (λ z. R y z ≡ Equal) (λ z. R x z ≡ Equal) (λ z f. o.congr x y z same ∙ f) ys rest)
    by false e k t = absurd (omega (arith, t, different_positive y ys))

  -- if all are equal, there is one group
  one_different : (m : G) (xs : List G) → 0 < length xs → AllByRecursion (λ x. R m x ≡ Equal) xs → different R xs ≡ 1
  one_different m [] l h = absurd (omega arith)
  one_different m (x ∷ []) l h = refl
  one_different m (x ∷ y ∷ ys) l h = rw (o.congr x m y (tied_back o m x h.0) ∙ h.1.0) (let one = one_different m (y ∷ ys) (omega arith) h.1 in omega (arith, one))

  between : (l g : G) → R l g ≡ Equal → (xs : List G) → AllByRecursion (λ x. is_gt (R l x) ≡ false) xs → AllByRecursion (λ x. is_gt (R x g) ≡ false) xs → AllByRecursion (λ x. R l x ≡ Equal) xs
  between l g e [] h k = tt
  between l g e (x ∷ xs) h k = (by (R l x) refl h.0, between l g e xs h.1 k.1) where
    by : (r : Ordering) → R l x ≡ r → is_gt r ≡ false → r ≡ Equal
    by Less f t = sym (less_le o l x g f k.0) ∙ e
    by Equal f t = refl
    by Greater f t = absurd (true≢false t)

  module _ (xs : List G) (l g : G × ℕ) (d : ℕ) (a : AreExtremes R xs l g d) where
    nonempty : (ys : List G) → 0 < group_size R l.0 ys → 0 < length ys
    nonempty [] h = absurd (omega arith)
    nonempty (y ∷ ys) h = omega arith

    pub several_groups : d ≢ 1 → R l.0 g.0 ≡ Less
    several_groups k = less_by (R l.0 g.0) (ends_ordered o xs l g d a) (λ e. k (a.count_is ∙ one_different l.0 xs (nonempty xs (omega (arith, a.least_there, a.least_size))) (between l.0 g.0 e xs a.least_bound a.greatest_bound)))

  pub one_group : (xs : List G) (l g : G × ℕ) → AreExtremes R xs l g 1 → R l.0 g.0 ≡ Equal
  one_group [] l g a = absurd (omega (arith, a.greatest_there, a.greatest_size))
  one_group (x ∷ xs) l g a =
      let all : AllByRecursion (λ y. R x y ≡ Equal) (x ∷ xs) = (tied_itself o x, all_alike x xs (sym a.count_is)) in
      let w = witness o (λ y. R x y ≡ Equal) l.0 (x ∷ xs) (omega (arith, a.least_there, a.least_size)) all in
      let v = witness o (λ y. R x y ≡ Equal) g.0 (x ∷ xs) (omega (arith, a.greatest_there, a.greatest_size)) all in
      o.congr l.0 x g.0 (tied_back o x l.0 (o.congr x w.0 l.0 w.1 ∙ w.2)) ∙ (o.congr x v.0 g.0 v.1 ∙ v.2)

  -- clones of the ends make a summary
  pub one_kept : (groups : List G) (l g : G × ℕ) (d : ℕ) (c : G) → d ≡ 1 → R l.0 c ≡ Equal → AreExtremes R groups l g d → AreExtremes R groups (c, l.1) (c, l.1) 1
  one_kept groups l g d c e k a =
      let one : AreExtremes R groups l g 1 = rw e at a in
      let same = one_group groups l g one in
      let sizes : g.1 ≡ l.1 = a.greatest_size ∙ sym (size_alike o l.0 g.0 same groups) ∙ sym a.least_size in
      let both = greatest_alike o groups (c, l.1) g 1 c (o.congr g.0 l.0 c (tied_back o l.0 g.0 same) ∙ k) (least_alike o groups l g 1 c k one) in
      rw sizes at both

  pub several_kept : (groups : List G) (l g : G × ℕ) (d : ℕ) (c e : G) → d ≢ 1 → R l.0 c ≡ Equal → R g.0 e ≡ Equal → AreExtremes R groups l g d → AreExtremes R groups (c, l.1) (e, g.1) d × (R c e ≡ Less)
  several_kept groups l g d c e k p q a = (
    greatest_alike o groups (c, l.1) g d e q (least_alike o groups l g d c p a),
    less_le o c g.0 e (o.congr c l.0 g.0 (tied_back o l.0 c p) ∙ several_groups groups l g d a k) (ap is_gt q),
  )

  module _ (xs ys : List G) (l1 g1 l2 g2 : G × ℕ) (d1 d2 : ℕ) (a : AreExtremes R xs l1 g1 d1) (b : AreExtremes R ys l2 g2 d2) (h : IsNonDescending R (xs ++ ys)) (fits : length (xs ++ ys) < 2 ^ 64) where
    left_share : R g1.0 l2.0 ≡ Equal → (n : ℕ) → (d1 ≡ 1 → n ≡ min (l1.1 + l2.1) (2 ^ 64 - 1)) → (d1 ≢ 1 → n ≡ l1.1) → n ≡ l1.1 + group_size R l1.0 ys
    left_share q n only several = by d1 refl where
      one : d1 ≡ 1 → n ≡ l1.1 + group_size R l1.0 ys
      one e =
          let same : R l1.0 l2.0 ≡ Equal = o.congr l1.0 g1.0 l2.0 (one_group xs l1 g1 (rw e at a)) ∙ q in
          let sum = capped o l1.1 l2.1 xs ys (sizes_fit o xs l1 g1 d1 a).0 (sizes_fit o ys l2 g2 d2 b).0 fits in
          omega (arith, only e, sum, least_shared o xs ys l1 g1 l2 g2 d1 d2 a b h same)

      more : d1 ≢ 1 → n ≡ l1.1 + group_size R l1.0 ys
      more k = several k ∙ many_left o xs ys l1 g1 l2 g2 d1 d2 a b h fits (several_groups xs l1 g1 d1 a k)

      by : (d : ℕ) → d1 ≡ d → n ≡ l1.1 + group_size R l1.0 ys
      by zero e = more (λ f. absurd (omega (arith, e, f)))
      by (suc zero) e = one e
      by (suc (suc d)) e = more (λ f. absurd (omega (arith, e, f)))

    right_share : R g1.0 l2.0 ≡ Equal → (m : ℕ) → (d2 ≡ 1 → m ≡ min (g2.1 + g1.1) (2 ^ 64 - 1)) → (d2 ≢ 1 → m ≡ g2.1) → m ≡ group_size R g2.0 xs + g2.1
    right_share q m only several = by d2 refl where
      one : d2 ≡ 1 → m ≡ group_size R g2.0 xs + g2.1
      one e =
          let same : R g1.0 g2.0 ≡ Equal = o.congr g1.0 l2.0 g2.0 q ∙ one_group ys l2 g2 (rw e at b) in
          let sum = capped o g1.1 g2.1 xs ys (sizes_fit o xs l1 g1 d1 a).1 (sizes_fit o ys l2 g2 d2 b).1 fits in
          omega (arith, only e, sum, greatest_shared o xs ys l1 g1 l2 g2 d1 d2 a b h same)

      more : d2 ≢ 1 → m ≡ group_size R g2.0 xs + g2.1
      more k = several k ∙ many_right o xs ys l1 g1 l2 g2 d1 d2 a b h fits (several_groups ys l2 g2 d2 b k)

      by : (d : ℕ) → d2 ≡ d → m ≡ group_size R g2.0 xs + g2.1
      by zero e = more (λ f. absurd (omega (arith, e, f)))
      by (suc zero) e = one e
      by (suc (suc d)) e = more (λ f. absurd (omega (arith, e, f)))

    -- the extremes of both lists, if the last group of the first is the first of the second
    pub joined_shared : (n m : ℕ) → R g1.0 l2.0 ≡ Equal → (d1 ≡ 1 → n ≡ min (l1.1 + l2.1) (2 ^ 64 - 1)) → (d1 ≢ 1 → n ≡ l1.1) → (d2 ≡ 1 → m ≡ min (g2.1 + g1.1) (2 ^ 64 - 1)) → (d2 ≢ 1 → m ≡ g2.1) → AreExtremes R (xs ++ ys) (l1.0, n) (g2.0, m) (min (d1 + d2) (2 ^ 64 - 1) - 1)
    joined_shared n m q u v w z = merged o xs ys l1 g1 l2 g2 d1 d2 a b h n m _ (left_share q n u v) (right_share q m w z) (shared_count o xs ys l1 g1 l2 g2 d1 d2 a b h fits q)

    -- the extremes of both lists, if they have no group in common
    pub joined_apart : (R g1.0 l2.0 ≡ Equal → ⊥) → AreExtremes R (xs ++ ys) l1 g2 (min (d1 + d2) (2 ^ 64 - 1))
    joined_apart k =
        let low : R g1.0 l2.0 ≡ Less = below o xs ys l1 g1 l2 g2 d1 d2 a b h fits k in
        let left = least_apart o xs ys l1 g1 l2 g2 d1 d2 a b h (le_less o l1.0 g1.0 l2.0 (ends_ordered o xs l1 g1 d1 a) low) in
        let right = greatest_apart o xs ys l1 g1 l2 g2 d1 d2 a b h (less_le o g1.0 l2.0 g2.0 low (ends_ordered o ys l2 g2 d2 b)) in
        merged o xs ys l1 g1 l2 g2 d1 d2 a b h l1.1 g2.1 _ (omega (arith, left)) (omega (arith, right)) (apart_count o xs ys l1 g1 l2 g2 d1 d2 a b h fits low)

-- a list of groups with one more group after the others
module _ {G : Type 0} {R : G → G → Ordering} (o : IsTotalOrder R) (groups : List G) (x next : G) (e : R next x ≡ Equal) (h : IsNonDescending R (groups ++ x ∷ [])) (fits : length (groups ++ x ∷ []) < 2 ^ 64) where
  pub next_same : (g : G) (n : ℕ) → AreExtremes R groups (g, n) (g, n) 1 → R g next ≡ Equal → AreExtremes R (groups ++ x ∷ []) (g, min (n + 1) (2 ^ 64 - 1)) (g, min (n + 1) (2 ^ 64 - 1)) 1
  next_same g n a q = one_one_shared o groups (x ∷ []) h fits g next n 1 a (single o x next e) q

  pub next_second : (g : G) (n : ℕ) → AreExtremes R groups (g, n) (g, n) 1 → (R g next ≡ Equal → ⊥) → AreExtremes R (groups ++ x ∷ []) (g, n) (next, 1) 2 × (R g next ≡ Less)
  next_second g n a q = one_one_apart o groups (x ∷ []) h fits g next next n 1 a (single o x next e) (tied_itself o next) q

  pub next_greatest : (l g : G × ℕ) (d : ℕ) → AreExtremes R groups l g d × (R l.0 g.0 ≡ Less) → R g.0 next ≡ Equal → AreExtremes R (groups ++ x ∷ []) l (g.0, min (g.1 + 1) (2 ^ 64 - 1)) d × (R l.0 g.0 ≡ Less)
  next_greatest l g d a q = many_one_shared o groups (x ∷ []) h fits next 1 l g d a.0 a.1 (single o x next e) q

  pub next_above : (l g : G × ℕ) (d : ℕ) → AreExtremes R groups l g d × (R l.0 g.0 ≡ Less) → (R g.0 next ≡ Equal → ⊥) → AreExtremes R (groups ++ x ∷ []) l (next, 1) (min (d + 1) (2 ^ 64 - 1)) × (R l.0 next ≡ Less)
  next_above l g d a q = many_one_apart o groups (x ∷ []) h fits next next 1 l g d a.0 a.1 (single o x next e) (tied_itself o next) q

-- the ends of a list of groups, or `None` if the list is empty
abbrev pub AreKnownEnds : {G : Type 0} → (G → G → Ordering) → List G → Option (Ends G) → Type 0
AreKnownEnds R groups whole = MatchOption whole (groups ≡ []) (λ ends. AreEnds R groups ends)

-- the ends after one more piece
module _ {K G : Type 0} (cmp : K → K → Ordering) (R : G → G → Ordering) (group_of : K → G) (keeps : (x y : K) → is_gt (cmp x y) ≡ false → is_gt (R (group_of x) (group_of y)) ≡ false) (o : IsTotalOrder R) (pieces : List (List K)) (i : ℕ) (l : i < length pieces) (are : ArePieces cmp pieces) where
  abbrev before : List G
  before = map group_of (flatten (take i pieces))

  abbrev here : List G
  here = map group_of (piece_at pieces i)

  abbrev after : List G
  after = map group_of (flatten (take (i + 1) pieces))

  after_is : after ≡ before ++ here
  after_is = piece_whole cmp R group_of keeps o pieces i l

  pub ends_skip : (whole : Option (Ends G)) → AreKnownEnds R before whole → here ≡ [] → AreKnownEnds R after whole
  ends_skip whole known none = subst (λ t. AreKnownEnds R t whole) (sym (after_is ∙ ap (λ t. before ++ t) none ∙ append-nil before)) known

  pub ends_first : (next : Ends G) → before ≡ [] → AreEnds R here next → AreEnds R after next
  ends_first next none known = subst (λ t. AreEnds R t next) (sym (after_is ∙ ap (λ t. t ++ here) none)) known

  pub ends_more : (ends next joined : Ends G) → ((xs ys : List G) → AreEnds R xs ends → AreEnds R ys next → IsNonDescending R (xs ++ ys) → length (xs ++ ys) < 2 ^ 64 → AreEnds R (xs ++ ys) joined) → AreEnds R before ends → AreEnds R here next → AreEnds R after joined
  ends_more ends next joined f a b = subst (λ t. AreEnds R t joined) (sym after_is) (f before here a b (piece_order cmp R group_of keeps o pieces i l are) (piece_fits cmp R group_of keeps o pieces i l are))

module _ {K G : Type 0} (cmp : K → K → Ordering) (R : G → G → Ordering) (group_of : K → G) where
  -- a summary made from the ends of all pieces is one of the keys of all pieces
  pub ends_kept : {E : Type 0} (r : Result (GroupCount G) E) (arguments : List (GroupCount G)) (ends : Ends G) → IfOk r (λ summary. (groups : List G) → AreEnds R groups ends → IsGroupSummary R summary groups) → ((pieces : List (List K)) → ArePieces cmp pieces → AllZip (λ a keys. IsGroupSummary R a (map group_of keys)) arguments pieces → AreEnds R (map group_of (flatten pieces)) ends) → IfOk r (λ summary. (pieces : List (List K)) → ArePieces cmp pieces → AllZip (λ a keys. IsGroupSummary R a (map group_of keys)) arguments pieces → IsGroupSummary R summary (map group_of (flatten pieces)))
  ends_kept (Ok summary) arguments ends f known = λ pieces are summaries. f _ (known pieces are summaries)
  ends_kept (Err e) arguments ends f known = tt

-- the groups of a leaf, if those of its first and its last key are equal
module _ {G : Type 0} {R : G → G → Ordering} (o : IsTotalOrder R) where
  whole_size : (m : G) (groups : List G) → AllByRecursion (λ x. R m x ≡ Equal) groups → length groups ≡ group_size R m groups
  whole_size m [] h = refl
  whole_size m (x ∷ xs) h = rw (tied_back o m x h.0) (ap suc (whole_size m xs h.1))

  all_one : (m : G) (groups : List G) → 0 < length groups → AllByRecursion (λ x. R m x ≡ Equal) groups → AreExtremes R groups (m, length groups) (m, length groups) 1
  all_one m groups l h = record {
    least_bound = AllByRecursion-weaker (λ x. R m x ≡ Equal) (λ x. is_gt (R m x) ≡ false) (λ x e. ap is_gt e) groups h;
    least_size = whole_size m groups h;
    least_there = l;
    greatest_bound = AllByRecursion-weaker (λ x. R m x ≡ Equal) (λ x. is_gt (R x m) ≡ false) (λ x e. ap is_gt (tied_back o m x e)) groups h;
    greatest_size = whole_size m groups h;
    greatest_there = l;
    count_is = sym (one_different o m groups l h);
  }

  lower : (m : G) (groups : List G) (x : G) → 0 < length groups → x ≡ get_or groups 0 x → R m x ≡ Equal → IsNonDescending R groups → AllByRecursion (λ y. is_gt (R m y) ≡ false) groups
  lower m [] x l read e h = absurd (omega arith)
  lower m (y ∷ ys) x l read e h =
      let first : R m y ≡ Equal = rw (← read) e in
      (ap is_gt first, AllByRecursion-weaker (λ z. is_gt (R y z) ≡ false) (λ z. is_gt (R m z) ≡ false) (λ z f. upto o m y z (ap is_gt first) f) ys h.0)

  upper : (m : G) (groups : List G) (i : ℕ) (x : G) → i + 1 ≡ length groups → x ≡ get_or groups i x → R x m ≡ Equal → IsNonDescending R groups → AllByRecursion (λ y. is_gt (R y m) ≡ false) groups
  upper m groups i x n read e h =
      let front = take i groups in
      let parts : groups ≡ front ++ x ∷ [] = sym (take_all (i + 1) groups (omega (arith, n))) ∙ (take_more groups i x (omega (arith, n)) ∙ ap (λ t. front ++ t ∷ []) (sym read)) in
      let below = crossing o front (x ∷ []) (rw parts at h) in
      rw parts (AllByRecursion-append (λ y. is_gt (R y m) ≡ false) front (x ∷ []) (AllByRecursion-weaker (λ y. AllByRecursion (λ z. is_gt (R y z) ≡ false) (x ∷ [])) (λ y. is_gt (R y m) ≡ false) (λ y f. upto o y x m f.0 (ap is_gt e)) front below) (ap is_gt e, tt))

  pub same_throughout : (m : G) (groups : List G) (i : ℕ) (x z : G) → i + 1 ≡ length groups → x ≡ get_or groups 0 x → z ≡ get_or groups i z → R m x ≡ Equal → R z m ≡ Equal → IsNonDescending R groups → AreExtremes R groups (m, length groups) (m, length groups) 1
  same_throughout m groups i x z n first last e f h =
      all_one m groups (omega (arith, n)) (between o m m (tied_itself o m) groups (lower m groups x (omega (arith, n)) first e h) (upper m groups i z n last f h))

module _ {K G : Type 0} (cmp : K → K → Ordering) (R : G → G → Ordering) (group_of : K → G) (keeps : (x y : K) → is_gt (cmp x y) ≡ false → is_gt (R (group_of x) (group_of y)) ≡ false) (o : IsTotalOrder R) (keys : List K) (x z : K) (first last : G) (read_first : x ≡ get_or keys 0 x) (read_last : z ≡ get_or keys (length keys - 1) z) (e : R first (group_of x) ≡ Equal) (f : R last (group_of z) ≡ Equal) (l : 0 < length keys) where
  read_group : (xs : List K) (i : ℕ) (y : K) → i < length xs → y ≡ get_or xs i y → group_of y ≡ get_or (map group_of xs) i (group_of y)
  read_group [] i y h r = absurd (omega arith)
  read_group (k ∷ ks) zero y h r = ap group_of r
  read_group (k ∷ ks) (suc i) y h r = let small : i < length ks = omega arith in read_group ks i y small r

  pub one_group_throughout : R first last ≡ Equal → IsStrictlySortedBy cmp keys → AreExtremes R (map group_of keys) (first, length keys) (first, length keys) 1
  one_group_throughout same s =
      let size = length-map keys group_of in
      let whole = same_throughout o first (map group_of keys) (length keys - 1) (group_of x) (group_of z) (omega (arith, size)) (read_group keys 0 x l read_first) (read_group keys (length keys - 1) z (omega arith) read_last) e (tied_back o first (group_of z) (o.congr first last (group_of z) same ∙ f)) (groups_ascend cmp R group_of keeps keys s) in
      rw size at whole

  pub two_keys : (R first last ≡ Equal → ⊥) → 1 < length keys
  two_keys apart = by keys refl where
    by : (ks : List K) → keys ≡ ks → 1 < length ks
    by [] p = absurd (omega (arith, l, ap length p))
    by (k ∷ []) p =
        let same : group_of x ≡ group_of z = ap group_of ((rw p at read_first) ∙ sym (rw p at read_last)) in
        absurd (apart (o.congr first (group_of x) last e ∙ (rw (← same) at (tied_back o last (group_of z) f))))
    by (k ∷ j ∷ ks) p = omega arith

  pub first_key : AreExtremes R (map group_of (take 1 keys)) (first, 1) (first, 1) 1
  first_key = by keys read_first l where
    by : (ks : List K) → x ≡ get_or ks 0 x → 0 < length ks → AreExtremes R (map group_of (take 1 ks)) (first, 1) (first, 1) 1
    by [] r h = absurd (omega arith)
    by (k ∷ ks) r h = single o (group_of k) first (rw (← r) e)
