-- The beginning and the end of a group among keys, and the rank of a key in its group.
use Rattle.std.specs.Prelude.{◌≡◌, ℕ, ◌-◌, ◌<◌, ◌^◌, min, List, ◌++◌, length, map, take, drop, Bool, true, false, not, cond, Option, Some, None, Result, MatchResult}
use Rattle.std.specs.declared.cmp.Ordering.{Ordering}
use Rattle.std.specs.declared.cmp.Ordering.TheVariants.{Equal}
use Rattle.std.specs.Ordering.{is_eq, is_gt, is_lt}
use Rattle.std.specs.List.{AllByRecursion}
use Rattle.std.specs.List.Sorted.{IsStrictlySortedBy}
use Rattle.bptree_keys.specs.Ends.{is_back}
use Rattle.bptree_keys.specs.declared.end.End.{End}
use Rattle.bptree_arguments.specs.declared.group.GroupCount.{GroupCount}
use Rattle.bptree_arguments.specs.CountLaws.{count_below}
use Rattle.bptree_arguments.specs.GroupSums.{carried_over}
use Rattle.bptree_arguments.specs.Groups.{SumsUpGroups, group, group_size}
use Rattle.bptree_arguments.specs.Ranks.{AllAbove, AllBelow, Carries, IsSlotOf}

-- whether a group that compares so to another is before the end of the other, or, if the flag is
-- false, before its beginning
abbrev pub is_before : Bool → Ordering → Bool
is_before true r = not (is_gt r)
is_before false r = is_lt r

module _ {G : Type 0} (cmp : G → G → Ordering) (g : G) where
  -- the first n groups are before the end of g, or before its beginning if `end` is false, and the
  -- others are not
  pub record IsBorderOf (end : Bool) (groups : List G) (n : ℕ) : Type 0 where
    pub before : AllByRecursion (λ x. is_before end (cmp x g) ≡ true) (take n groups)
    pub from_there : AllByRecursion (λ x. is_before end (cmp x g) ≡ false) (drop n groups)

  -- the number that a rank carries for g: the rank's number if its group is equal to g, and
  -- otherwise 0
  abbrev pub carried : Option (G × ℕ) → ℕ
  carried None = 0
  carried (Some r) = cond (is_eq (cmp r.0 g)) r.1 0

  -- the rank is a group equal to g, with the number n
  abbrev pub IsInGroup : ℕ → Option (G × ℕ) → Type 0
  IsInGroup n None = ⊥
  IsInGroup n (Some r) = (cmp r.0 g ≡ Equal) × (r.1 ≡ n)

  -- the number is the one that the rank carries, and no more
  abbrev pub CarriesOnly : Option (G × ℕ) → G × ℕ → Type 0
  CarriesOnly rank counted = counted.1 ≡ carried rank

  -- the key is absent, and the number in its rank is the one that was carried
  abbrev pub StaysCarried : Option (G × ℕ) → Result (Option (G × ℕ)) (Option (G × ℕ)) → Type 0
  StaysCarried rank outcome = MatchResult outcome (λ _. ⊥) (IsInGroup (carried rank))

  -- the next rank is g, with the number that the rank carries for g, carried on over the summaries,
  -- or with the greatest `usize` if that is less
  abbrev pub IsCarriedOn : Option (G × ℕ) → List (GroupCount G) → Option (G × ℕ) → Type 0
  IsCarriedOn rank summaries next = IsInGroup (min (carried_over cmp g (carried rank) summaries) (2 ^ 64 - 1)) next

-- if the keys ascend, n is the index at which a group begins or ends
abbrev pub IsGroupBorder : {K G : Type 0} → (K → K → Ordering) → (G → G → Ordering) → (K → G) → G → Bool → List K → ℕ → Type 0
IsGroupBorder cmp compare group_of g end keys n = IsStrictlySortedBy cmp keys → IsBorderOf compare g end (map group_of keys) n

abbrev pub HasGroupBorder : {K G : Type 0} → (K → K → Ordering) → (G → G → Ordering) → (K → G) → G → End → List K → ℕ → Type 0
HasGroupBorder cmp compare group_of g end = IsGroupBorder cmp compare group_of g (is_back end)

module _ {K G : Type 0} (compare : G → G → Ordering) (group_of : K → G) (k : K) where
  -- the rank carries the number of keys that are in the group of k
  abbrev pub RepresentsInGroup : List K → Option (G × ℕ) → Type 0
  RepresentsInGroup keys rank = group_size compare (group_of k) (map group_of keys) ≡ carried compare (group_of k) rank

  -- the rank is the group of k, with the number of keys in it that are smaller than k
  abbrev pub IsRankInGroup : (K → K → Ordering) → List K → Option (G × ℕ) → Type 0
  IsRankInGroup cmp keys rank = IsInGroup compare (group_of k) (count_below cmp k (group compare group_of (group_of k) keys)) rank

  -- if the rank carries the keys before the smaller ones, the number is that of all these keys in
  -- the group of k
  abbrev pub CountsInGroup : (K → K → Ordering) → Option (G × ℕ) → List K → G × ℕ → Type 0
  CountsInGroup cmp rank smaller counted =
      (before : List K) → IsStrictlySortedBy cmp (before ++ smaller) → AllBelow cmp k smaller → length (before ++ smaller) < 2 ^ 64 → RepresentsInGroup before rank
      → counted.1 ≡ group_size compare (group_of k) (map group_of (before ++ smaller))

  -- `Carries` for ranks in a group
  abbrev pub CarriesInGroup : (K → K → Ordering) → List (GroupCount G) → Option (G × ℕ) → Option (G × ℕ) → Type 0
  CarriesInGroup cmp arguments rank next =
      Carries (SumsUpGroups compare group_of) cmp arguments (λ rank k keys. group_size compare (group_of k) (map group_of keys) ≡ carried compare (group_of k) rank) rank k next

  -- `RanksAtSlot` for ranks in a group
  abbrev pub RanksInGroup : (K → K → Ordering) → Option (G × ℕ) → List K → Result ℕ ℕ → Result (Option (G × ℕ)) (Option (G × ℕ)) → Type 0
  RanksInGroup cmp rank keys slot outcome =
      IsSlotOf cmp k keys slot → (before after : List K) → IsStrictlySortedBy cmp (before ++ (keys ++ after)) → AllBelow cmp k before → AllAbove cmp k after
      → length (before ++ (keys ++ after)) < 2 ^ 64 → RepresentsInGroup before rank
      → MatchResult outcome (IsRankInGroup cmp (before ++ (keys ++ after))) (IsRankInGroup cmp (before ++ (keys ++ after)))
