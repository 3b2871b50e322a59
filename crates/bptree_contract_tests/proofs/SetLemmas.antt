-- Consequences for callers of sets of the clauses of calls that take a key or a second set.
use Rattle.std.proofs.Common.{◌≡◌, ◌∙◌, ◌≤◌, ◌||◌, ℕ, Bool, true, false, cond, List, [], ◌∷◌, Contains, Option, Some, None, IfSome, IsSome, is_some, option_copied, unwrap_or, filter, arith, suc, refl, sym, ap}
use mathlib.Core.Bool.{true≢false}
use Rattle.std.specs.declared.cmp.Ordering.{Ordering}
use Rattle.std.specs.declared.cmp.Ordering.TheVariants.{Less, Equal, Greater}
use Rattle.std.specs.Borrow.{Bor}
use Rattle.std.specs.Iterator.{UpTo, at_most}
use Rattle.std.specs.Map.Iter.{TakesFirst}
use Rattle.std.specs.Ordering.{is_eq}
use Rattle.bptree_map.specs.Keys.{IsDisjoint, IsSubset, holds, key_found}

module _ {X : Type 0} where
  -- The first item of a list is a member, and so is a later one.
  contains_first : (x : X) (l : List X) → Contains (x ∷ l) x
  contains_first x l = (0, omega arith, refl)

  contains_later : (y x : X) (l : List X) → Contains l x → Contains (y ∷ l) x
  contains_later y x l there = (suc there.0, omega (arith, there.1), there.2)

  contains_same : (y x : X) (l : List X) → y ≡ x → Contains (y ∷ l) x
  contains_same y x l same = rw same (contains_first x l)

  first_inside : {x y : X} {l t : List X} → y ∷ l ≡ x ∷ t → y ≡ x
  first_inside e = cc

  -- The first of the members that pass a test is a member.
  first_passing : (test : X → Bool) (l : List X) (x : X) (t : List X) → filter test l ≡ x ∷ t → Contains l x
  first_passing test [] x t is = absurd (cc)
  first_passing test (y ∷ l) x t is = by (first_passing test l x t) (test y) is
    where
      by : (filter test l ≡ x ∷ t → Contains l x) → (b : Bool) → cond b (y ∷ filter test l) (filter test l) ≡ x ∷ t → Contains (y ∷ l) x
      by later true is = contains_same y x l (first_inside is)
      by later false is = contains_later y x l (later is)

  pub taken_own : {A : Type 0} (shows : A → X) (test : X → Bool) (s t l : List X) (o : Option A) → TakesFirst shows s o t → s ≡ filter test l → IfSome o (λ a. Contains l (shows a))
  taken_own shows test s t l None step is = tt
  taken_own shows test s t l (Some a) step is = first_passing test l (shows a) t (sym is ∙ step)

module _ {K : Type 0} (cmp : K → K → Ordering) where
  -- A key is found if and only if an equal key is held, and the key that is found is a member.
  found_there : (keys : List K) (k : K) → is_some (key_found cmp keys k) ≡ holds cmp keys k
  found_there [] k = refl
  found_there (key ∷ keys) k = by (found_there keys k) (cmp key k)
    where
      by : is_some (key_found cmp keys k) ≡ holds cmp keys k → (o : Ordering) → is_some (cond (is_eq o) (Some key) (key_found cmp keys k)) ≡ (is_eq o || holds cmp keys k)
      by later Less = later
      by later Equal = refl
      by later Greater = later

  some_inside : {x y : K} → Some y ≡ Some x → y ≡ x
  some_inside e = cc

  found_member : (keys : List K) (k x : K) → key_found cmp keys k ≡ Some x → Contains keys x × (cmp x k ≡ Equal)
  found_member [] k x is = absurd (cc)
  found_member (key ∷ keys) k x is = by (found_member keys k x) (cmp key k) refl is
    where
      by : (key_found cmp keys k ≡ Some x → Contains keys x × (cmp x k ≡ Equal)) → (o : Ordering) → cmp key k ≡ o → cond (is_eq o) (Some key) (key_found cmp keys k) ≡ Some x → Contains (key ∷ keys) x × (cmp x k ≡ Equal)
      by later Less e is = (contains_later key x keys (later is).0, (later is).1)
      by later Equal e is = (contains_same key x keys (some_inside is), ap (λ z. cmp z k) (sym (some_inside is)) ∙ e)
      by later Greater e is = (contains_later key x keys (later is).0, (later is).1)

  module _ (keys : List K) (k : K) where
    pub found_if_held : (found : Option (Bor K)) → option_copied found ≡ key_found cmp keys k → is_some found ≡ holds cmp keys k
    found_if_held None is = ap is_some is ∙ found_there keys k
    found_if_held (Some key) is = ap is_some is ∙ found_there keys k

    pub found_own : (found : Option (Bor K)) → option_copied found ≡ key_found cmp keys k → IfSome found (λ key. Contains keys key.now)
    found_own None is = tt
    found_own (Some key) is = (found_member keys k key.now (sym is)).0

    pub found_equal : (found : Option (Bor K)) → option_copied found ≡ key_found cmp keys k → IfSome found (λ key. cmp key.now k ≡ Equal)
    found_equal None is = tt
    found_equal (Some key) is = (found_member keys k key.now (sym is)).1

  -- If one list holds a key and the other does not, the first is no subset. If both hold a key,
  -- they are not disjoint.
  pub no_subset : (outcome : Bool) (keys others : List K) → (outcome ≡ true → IsSubset cmp keys others) → (k : K) → holds cmp keys k ≡ true → holds cmp others k ≡ false → outcome ≡ false
  no_subset true keys others subset k there absent = absurd (true≢false (sym (subset refl k there) ∙ absent))
  no_subset false keys others subset k there absent = refl

  pub not_disjoint : (outcome : Bool) (keys others : List K) → (outcome ≡ true → IsDisjoint cmp keys others) → (k : K) → holds cmp keys k ≡ true → holds cmp others k ≡ true → outcome ≡ false
  not_disjoint true keys others disjoint k there there_too = absurd (true≢false (sym there_too ∙ disjoint refl k there))
  not_disjoint false keys others disjoint k there there_too = refl

-- An upper bound that is present.
pub upper_there : (r : Option ℕ) (n : ℕ) → IfSome r (UpTo (at_most n)) → IsSome r → n ≤ unwrap_or r 0
upper_there None n upper there = absurd (true≢false (sym there))
upper_there (Some x) n upper there = upper.1
