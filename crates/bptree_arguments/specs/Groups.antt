use Rattle.std.specs.Prelude.{◌≡◌, ◌↔◌, ℕ, ◌+◌, ◌<◌, ◌≤◌, ◌^◌, List, [], ◌∷◌, ◌++◌, length, map, take, get_or, Bool, false, cond, Option, Some, None, IsTrue, MatchOption, ⊤}
use Rattle.std.proofs.Common.{refl}
use Rattle.std.specs.declared.cmp.Ordering.{Ordering}
use Rattle.std.specs.declared.cmp.Ordering.TheVariants.{Less, Equal, Greater}
use Rattle.std.specs.Ordering.{is_eq, is_gt, ordering_then}
use Rattle.std.specs.List.{AllByRecursion, filter, list_any}
use Rattle.bptree_arguments.specs.declared.group.GroupCount.{GroupCount}
use Rattle.bptree_arguments.specs.declared.group.GroupCount.TheVariants.{Zero, One, Multiple}
use Rattle.bptree_arguments.specs.declared.group.Ends.{Ends}

module _ {G : Type 0} (cmp : G → G → Ordering) where
  -- the number of groups that are equal to g
  abbrev pub group_size : G → List G → ℕ
  group_size g groups = length (filter (λ x. is_eq (cmp x g)) groups)

  -- the number of different groups
  abbrev pub different : List G → ℕ
  different [] = 0
  different (x ∷ xs) = cond (list_any (λ y. is_eq (cmp x y)) xs) 0 1 + different xs

  -- no group is above a later one
  abbrev pub IsNonDescending : List G → Type 0
  IsNonDescending [] = ⊤
  IsNonDescending (x ∷ xs) = AllByRecursion (λ y. is_gt (cmp x y) ≡ false) xs × IsNonDescending xs

  -- the least and the greatest group, each with its size, and the number of different groups
  pub record AreExtremes (groups : List G) (least greatest : G × ℕ) (count : ℕ) : Type 0 where
    pub least_bound : AllByRecursion (λ x. is_gt (cmp least.0 x) ≡ false) groups
    pub least_size : least.1 ≡ group_size least.0 groups
    pub least_there : 0 < least.1
    pub greatest_bound : AllByRecursion (λ x. is_gt (cmp x greatest.0) ≡ false) groups
    pub greatest_size : greatest.1 ≡ group_size greatest.0 groups
    pub greatest_there : 0 < greatest.1
    pub count_is : count ≡ different groups

  -- the `GroupCount` is a summary of these groups, in order
  abbrev pub IsGroupSummary : GroupCount G → List G → Type 0
  IsGroupSummary Zero groups = groups ≡ []
  IsGroupSummary (One g n) groups = AreExtremes groups (g, n) (g, n) 1
  IsGroupSummary (Multiple least greatest count) groups = AreExtremes groups least greatest count × (cmp least.0 greatest.0 ≡ Less)

  -- the two summaries are equal up to equality of groups
  abbrev pub AreAlike : GroupCount G → GroupCount G → Type 0
  AreAlike Zero Zero = ⊤
  AreAlike (One g n) (One h m) = (cmp g h ≡ Equal) × (n ≡ m)
  AreAlike (Multiple l g n) (Multiple l' g' m) = (cmp l.0 l'.0 ≡ Equal) × (l.1 ≡ l'.1) × (cmp g.0 g'.0 ≡ Equal) × (g.1 ≡ g'.1) × (n ≡ m)
  AreAlike _ _ = ⊥

  -- the greatest group with its size, or `None` if there is no group
  abbrev pub IsGreatestGroup : List G → Option (G × ℕ) → Type 0
  IsGreatestGroup groups None = groups ≡ []
  IsGreatestGroup groups (Some greatest) = AllByRecursion (λ x. is_gt (cmp x greatest.0) ≡ false) groups × (greatest.1 ≡ group_size greatest.0 groups) × (0 < greatest.1)

  -- What a summary determines of the groups that it is made of: the greatest group, whether there
  -- is no group, the number of different groups, and the extremes.
  abbrev pub ReportsGreatest : GroupCount G → Option (G × ℕ) → Type 0
  ReportsGreatest summary greatest = (groups : List G) → IsGroupSummary summary groups → IsGreatestGroup groups greatest

  abbrev pub ReportsIfNone : GroupCount G → Bool → Type 0
  ReportsIfNone summary none = (groups : List G) → IsGroupSummary summary groups → IsTrue none ↔ (groups ≡ [])

  abbrev pub ReportsDifferent : GroupCount G → ℕ → Type 0
  ReportsDifferent summary n = (groups : List G) → IsGroupSummary summary groups → n ≡ different groups

  abbrev pub ReportsEnds : GroupCount G → Option (Ends G) → Type 0
  ReportsEnds summary reported = (groups : List G) → IsGroupSummary summary groups → MatchOption reported (groups ≡ []) (λ ends. AreExtremes groups (ends.least.now, ends.least_size) (ends.greatest.now, ends.greatest_size) ends.group_count)

  -- a summary of some groups becomes one of these and of one more, which equals `next` and is not below them
  abbrev pub TakesNext : GroupCount G → G → GroupCount G → Type 0
  TakesNext old next new = (groups : List G) (x : G) → cmp next x ≡ Equal → IsGroupSummary old groups → IsNonDescending (groups ++ x ∷ []) → length (groups ++ x ∷ []) < 2 ^ 64 → IsGroupSummary new (groups ++ x ∷ [])

  -- summaries that are alike are summaries of the same groups
  abbrev pub AlikeSumUpSame : Type 0
  AlikeSumUpSame = (a b : GroupCount G) → (groups : List G) → AreAlike a b → IsGroupSummary a groups → IsGroupSummary b groups

  -- a query is a group and an index in it, which selects that key, or `None` if the group has no
  -- such key
  abbrev pub SelectsInGroup : G → ℕ → List G → Option ℕ → Type 0
  SelectsInGroup g n groups None = group_size g groups ≤ n
  SelectsInGroup g n groups (Some j) = (j < length groups) × ((d : G) → cmp (get_or groups j d) g ≡ Equal) × (group_size g (take j groups) ≡ n)

-- if a pair is not above another, neither is its first component
pub first_not_above : (r s : Ordering) → is_gt (ordering_then r s) ≡ false → is_gt r ≡ false
first_not_above Less s h = refl
first_not_above Equal s h = refl
first_not_above Greater s h = h

-- the ends, which are borrowed, are the extremes of a list of groups
abbrev pub AreEnds : {G : Type 0} → (G → G → Ordering) → List G → Ends G → Type 0
AreEnds cmp groups ends = AreExtremes cmp groups (ends.least.now, ends.least_size) (ends.greatest.now, ends.greatest_size) ends.group_count

module _ {G : Type 0} (cmp : G → G → Ordering) where
  -- `both` is the extremes of two lists, one after the other, that have the extremes `first` and
  -- `second`
  abbrev pub EndsOfBoth : Ends G → Ends G → Ends G → Type 0
  EndsOfBoth first second both = (xs ys : List G) → AreEnds cmp xs first → AreEnds cmp ys second → IsNonDescending cmp (xs ++ ys) → length (xs ++ ys) < 2 ^ 64 → AreEnds cmp (xs ++ ys) both

  -- the summary is one of each list of groups that has these ends as its extremes
  abbrev pub SumsUpEnds : Ends G → GroupCount G → Type 0
  SumsUpEnds ends summary = (groups : List G) → AreEnds cmp groups ends → IsGroupSummary cmp summary groups

module _ {K G : Type 0} (cmp : G → G → Ordering) (group_of : K → G) where
  -- the summary is one of the groups of the keys
  abbrev pub SumsUpGroups : GroupCount G → List K → Type 0
  SumsUpGroups summary keys = IsGroupSummary cmp summary (map group_of keys)

  -- the keys whose group equals g
  abbrev pub group : G → List K → List K
  group g keys = filter (λ k. is_eq (cmp (group_of k) g)) keys

  -- the pairs whose key's group equals g
  abbrev pub of_group : {V : Type 0} → G → List (K × V) → List (K × V)
  of_group g pairs = filter (λ pair. is_eq (cmp (group_of pair.0) g)) pairs

  -- the size of a group is the number of its keys
  abbrev pub SizeCountsKeys : Type 0
  SizeCountsKeys = (g : G) → (keys : List K) → group_size cmp g (map group_of keys) ≡ length (group g keys)

  -- the keys of a group in two lists, one after the other, are those of the first and then those of
  -- the second
  abbrev pub GroupOfBoth : Type 0
  GroupOfBoth = (g : G) → (front back : List K) → group g (front ++ back) ≡ group g front ++ group g back
