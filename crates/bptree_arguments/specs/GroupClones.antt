-- Summaries of groups depend on keys only up to equality.
use Rattle.std.proofs.Common.{◌≡◌, ℕ, suc, ◌+◌, List, [], ◌∷◌, length, map, Bool, true, false, cond, ◌||◌, refl, sym, ap, ◌∙◌, subst}
use Rattle.std.specs.declared.cmp.Ordering.{Ordering}
use Rattle.std.specs.declared.cmp.Ordering.TheVariants.{Less, Equal, Greater}
use Rattle.std.specs.Ordering.{is_eq, is_gt, ordering_reverse}
use Rattle.std.specs.Cmp.{IsTotalOrder}
use Rattle.std.specs.List.{AllByRecursion, AllZip, filter, list_any}
use Rattle.std.proofs.lemmas.Bool.{true≢false}
use Rattle.std.proofs.lemmas.Cmp.{upto, tied_back, alike_right}
use Rattle.std.proofs.lemmas.List.Elements.{filter_agree}
use Rattle.bptree_arguments.specs.declared.group.GroupCount.{GroupCount}
use Rattle.bptree_arguments.specs.declared.group.GroupCount.TheVariants.{Zero, One, Multiple}
use Rattle.bptree_arguments.specs.Groups.{group_size, different, AreExtremes, IsGroupSummary, AreAlike}
use Rattle.bptree_keys.proofs.PieceLemmas.{AllByRecursion-weaker}

-- an order that is not above, in either direction, is equal
equal_both_ways : (r s : Ordering) → s ≡ ordering_reverse r → is_gt r ≡ false → is_gt s ≡ false → r ≡ Equal
equal_both_ways Less s e first second = absurd (true≢false (rw e at second))
equal_both_ways Equal s e first second = refl
equal_both_ways Greater s e first second = absurd (true≢false first)

module _ {G : Type 0} {R : G → G → Ordering} (o : IsTotalOrder R) where
  pub less_le : (x y z : G) → R x y ≡ Less → is_gt (R y z) ≡ false → R x z ≡ Less
  less_le x y z p q = by (R y z) refl q where
    by : (r : Ordering) → R y z ≡ r → is_gt r ≡ false → R x z ≡ Less
    by Less e h = o.trans x y z p e
    by Equal e h = sym (alike_right o y z x e) ∙ p
    by Greater e h = absurd (true≢false h)

  pub le_less : (x y z : G) → is_gt (R x y) ≡ false → R y z ≡ Less → R x z ≡ Less
  le_less x y z p q = by (R x y) refl p where
    by : (r : Ordering) → R x y ≡ r → is_gt r ≡ false → R x z ≡ Less
    by Less e h = o.trans x y z e q
    by Equal e h = o.congr x y z e ∙ q
    by Greater e h = absurd (true≢false h)

  pub size_alike : (g h : G) → R g h ≡ Equal → (xs : List G) → group_size R g xs ≡ group_size R h xs
  size_alike g h e xs = ap length (filter_agree (λ x. is_eq (R x g)) (λ x. is_eq (R x h)) (λ x. ap is_eq (alike_right o g h x e)) xs)

  -- an extreme can be replaced by a group equal to it
  pub least_alike : (xs : List G) (l g : G × ℕ) (d : ℕ) (m : G) → R l.0 m ≡ Equal → AreExtremes R xs l g d → AreExtremes R xs (m, l.1) g d
  least_alike xs l g d m e a = record {
    least_bound = AllByRecursion-weaker (λ x. is_gt (R l.0 x) ≡ false) (λ x. is_gt (R m x) ≡ false) (λ x f. upto o m l.0 x (ap is_gt (tied_back o l.0 m e)) f) xs a.least_bound;
    least_size = a.least_size ∙ size_alike l.0 m e xs;
    least_there = a.least_there;
    greatest_bound = a.greatest_bound;
    greatest_size = a.greatest_size;
    greatest_there = a.greatest_there;
    count_is = a.count_is;
  }

  pub greatest_alike : (xs : List G) (l g : G × ℕ) (d : ℕ) (m : G) → R g.0 m ≡ Equal → AreExtremes R xs l g d → AreExtremes R xs l (m, g.1) d
  greatest_alike xs l g d m e a = record {
    least_bound = a.least_bound;
    least_size = a.least_size;
    least_there = a.least_there;
    greatest_bound = AllByRecursion-weaker (λ x. is_gt (R x g.0) ≡ false) (λ x. is_gt (R x m) ≡ false) (λ x f. upto o x g.0 m f (ap is_gt e)) xs a.greatest_bound;
    greatest_size = a.greatest_size ∙ size_alike g.0 m e xs;
    greatest_there = a.greatest_there;
    count_is = a.count_is;
  }

  less_alike : (a b c d : G) → R a b ≡ Less → R a c ≡ Equal → R b d ≡ Equal → R c d ≡ Less
  less_alike a b c d e f h = le_less c a d (ap is_gt (tied_back o a c f)) (less_le a b d e (ap is_gt h))

  pub summary_alike : (x y : GroupCount G) (gs : List G) → AreAlike R x y → IsGroupSummary R x gs → IsGroupSummary R y gs
  summary_alike Zero Zero gs e s = s
  summary_alike Zero (One h m) gs e s = absurd e
  summary_alike Zero (Multiple l g m) gs e s = absurd e
  summary_alike (One g n) Zero gs e s = absurd e
  summary_alike (One g n) (One h m) gs e s = subst (λ k. AreExtremes R gs (h, k) (h, k) 1) e.1 (greatest_alike gs (h, n) (g, n) 1 h e.0 (least_alike gs (g, n) (g, n) 1 h e.0 s))
  summary_alike (One g n) (Multiple l h m) gs e s = absurd e
  summary_alike (Multiple l g n) Zero gs e s = absurd e
  summary_alike (Multiple l g n) (One h m) gs e s = absurd e
  summary_alike (Multiple l g n) (Multiple l' g' m) gs e s =
      let moved = greatest_alike gs (l'.0, l.1) g n g'.0 e.2 (least_alike gs l g n l'.0 e.0 s.0) in
      (subst (λ k. AreExtremes R gs l' (g'.0, k) m) e.3 (subst (λ k. AreExtremes R gs (l'.0, k) (g'.0, g.1) m) e.1 (subst (λ k. AreExtremes R gs (l'.0, l.1) (g'.0, g.1) k) e.4 moved)), less_alike l.0 g.0 l'.0 g'.0 s.1 e.0 e.2)

  -- a property that equal groups share holds of each group of a list if it holds of each of an
  -- equal list
  all_equal : (P : G → Type 0) → ((x y : G) → R x y ≡ Equal → P x → P y) → (xs ys : List G) → AllZip (λ x y. R x y ≡ Equal) xs ys → AllByRecursion P xs → AllByRecursion P ys
  all_equal P turns [] [] equal all = tt
  all_equal P turns [] (y ∷ ys) equal all = absurd equal
  all_equal P turns (x ∷ xs) [] equal all = absurd equal
  all_equal P turns (x ∷ xs) (y ∷ ys) equal all = (turns x y equal.0 all.0, all_equal P turns xs ys equal.1 all.1)

  size_equal : (g : G) (xs ys : List G) → AllZip (λ x y. R x y ≡ Equal) xs ys → group_size R g ys ≡ group_size R g xs
  size_equal g [] [] equal = refl
  size_equal g [] (y ∷ ys) equal = absurd equal
  size_equal g (x ∷ xs) [] equal = absurd equal
  size_equal g (x ∷ xs) (y ∷ ys) equal = rw (← o.congr x y g equal.0) (by (is_eq (R x g)) (size_equal g xs ys equal.1))
    where
      by : (b : Bool) → group_size R g ys ≡ group_size R g xs → length (cond b (y ∷ filter (λ z. is_eq (R z g)) ys) (filter (λ z. is_eq (R z g)) ys)) ≡ length (cond b (x ∷ filter (λ z. is_eq (R z g)) xs) (filter (λ z. is_eq (R z g)) xs))
      by true rest = ap suc rest
      by false rest = rest

  any_equal : (g h : G) → R g h ≡ Equal → (xs ys : List G) → AllZip (λ x y. R x y ≡ Equal) xs ys → list_any (λ z. is_eq (R h z)) ys ≡ list_any (λ z. is_eq (R g z)) xs
  any_equal g h e [] [] equal = refl
  any_equal g h e [] (y ∷ ys) equal = absurd equal
  any_equal g h e (x ∷ xs) [] equal = absurd equal
  any_equal g h e (x ∷ xs) (y ∷ ys) equal =
      ap (λ r. is_eq r || list_any (λ z. is_eq (R h z)) ys) (sym (o.congr g h y e) ∙ sym (alike_right o x y g equal.0)) ∙ ap (λ b. is_eq (R g x) || b) (any_equal g h e xs ys equal.1)

  different_equal : (xs ys : List G) → AllZip (λ x y. R x y ≡ Equal) xs ys → different R ys ≡ different R xs
  different_equal [] [] equal = refl
  different_equal [] (y ∷ ys) equal = absurd equal
  different_equal (x ∷ xs) [] equal = absurd equal
  different_equal (x ∷ xs) (y ∷ ys) equal =
      ap (λ b. cond b 0 1 + different R ys) (any_equal x y equal.0 xs ys equal.1) ∙ ap (λ n. cond (list_any (λ z. is_eq (R x z)) xs) 0 1 + n) (different_equal xs ys equal.1)

  extremes_equal : (xs ys : List G) → AllZip (λ x y. R x y ≡ Equal) xs ys → (l g : G × ℕ) (d : ℕ) → AreExtremes R xs l g d → AreExtremes R ys l g d
  extremes_equal xs ys equal l g d a = record {
    least_bound = all_equal (λ x. is_gt (R l.0 x) ≡ false) (λ x y e h. ap is_gt (sym (alike_right o x y l.0 e)) ∙ h) xs ys equal a.least_bound;
    least_size = a.least_size ∙ sym (size_equal l.0 xs ys equal);
    least_there = a.least_there;
    greatest_bound = all_equal (λ x. is_gt (R x g.0) ≡ false) (λ x y e h. ap is_gt (sym (o.congr x y g.0 e)) ∙ h) xs ys equal a.greatest_bound;
    greatest_size = a.greatest_size ∙ sym (size_equal g.0 xs ys equal);
    greatest_there = a.greatest_there;
    count_is = a.count_is ∙ sym (different_equal xs ys equal);
  }

  nil_equal : (xs ys : List G) → AllZip (λ x y. R x y ≡ Equal) xs ys → xs ≡ [] → ys ≡ []
  nil_equal [] [] equal e = refl
  nil_equal [] (y ∷ ys) equal e = absurd equal
  nil_equal (x ∷ xs) [] equal e = refl
  nil_equal (x ∷ xs) (y ∷ ys) equal e = cc

  summary_equal : (a : GroupCount G) (xs ys : List G) → AllZip (λ x y. R x y ≡ Equal) xs ys → IsGroupSummary R a xs → IsGroupSummary R a ys
  summary_equal Zero xs ys equal s = nil_equal xs ys equal s
  summary_equal (One g n) xs ys equal s = extremes_equal xs ys equal (g, n) (g, n) 1 s
  summary_equal (Multiple l g n) xs ys equal s = (extremes_equal xs ys equal l g n s.0, s.1)

module _ {K G : Type 0} {cmp : K → K → Ordering} {R : G → G → Ordering} (total : IsTotalOrder cmp) (o : IsTotalOrder R) (group_of : K → G) (keeps : (x y : K) → is_gt (cmp x y) ≡ false → is_gt (R (group_of x) (group_of y)) ≡ false) where
  -- equal keys have equal groups
  groups_equal : (keys copies : List K) → AllZip (λ k c. cmp k c ≡ Equal) keys copies → AllZip (λ g h. R g h ≡ Equal) (map group_of keys) (map group_of copies)
  groups_equal [] [] equal = tt
  groups_equal [] (c ∷ copies) equal = absurd equal
  groups_equal (k ∷ keys) [] equal = absurd equal
  groups_equal (k ∷ keys) (c ∷ copies) equal = (
    equal_both_ways (R (group_of k) (group_of c)) (R (group_of c) (group_of k)) (o.antisymm (group_of c) (group_of k))
        (keeps k c (ap is_gt equal.0)) (keeps c k (ap is_gt (tied_back total k c equal.0))),
    groups_equal keys copies equal.1,
  )

  -- a clone of a summary is a summary of equal keys
  pub clone_summarizes : (a b : GroupCount G) (keys copies : List K) → AreAlike R a b → AllZip (λ k c. cmp k c ≡ Equal) keys copies → IsGroupSummary R a (map group_of keys) → IsGroupSummary R b (map group_of copies)
  clone_summarizes a b keys copies alike equal summary =
      summary_equal o b (map group_of keys) (map group_of copies) (groups_equal keys copies equal) (summary_alike o a b (map group_of keys) alike summary)
