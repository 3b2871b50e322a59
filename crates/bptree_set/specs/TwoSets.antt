-- The keys of a list that is made of two others, and when it ascends.
use Rattle.std.specs.Prelude.{◌≡◌, not, ◌&&◌, List, if◌then◌else◌}
use Rattle.std.specs.declared.cmp.Ordering.{Ordering}
use Rattle.std.specs.List.Sorted.{IsStrictlySortedBy}
use Rattle.bptree_map.specs.Keys.{holds}

module _ {K : Type 0} (cmp : K → K → Ordering) where
  module _ (first second keys : List K) where
    -- keys holds each key that the first list holds and the second does not
    abbrev pub IsDifference : Type 0
    IsDifference = (k : K) → holds cmp keys k ≡ holds cmp first k && not (holds cmp second k)

    -- keys holds each key that both lists hold
    abbrev pub IsIntersection : Type 0
    IsIntersection = (k : K) → holds cmp keys k ≡ holds cmp first k && holds cmp second k

    -- keys holds each key that one of the lists holds and the other does not
    abbrev pub IsSymmetricDifference : Type 0
    IsSymmetricDifference = (k : K) → holds cmp keys k ≡ (if holds cmp first k then not (holds cmp second k) else holds cmp second k)

  module _ (made : List K → List K → List K) where
    -- the list that is made of two ascending lists ascends
    abbrev pub KeepsOrder : Type 0
    KeepsOrder = (first second : List K) → IsStrictlySortedBy cmp first → IsStrictlySortedBy cmp second → IsStrictlySortedBy cmp (made first second)

    -- the list that is made ascends if the first list does
    abbrev pub KeepsFirstOrder : Type 0
    KeepsFirstOrder = (first second : List K) → IsStrictlySortedBy cmp first → IsStrictlySortedBy cmp (made first second)

    -- the list that is made of any two lists is their difference, or their intersection
    abbrev pub MakesDifference : Type 0
    MakesDifference = (first second : List K) → IsDifference first second (made first second)

    abbrev pub MakesIntersection : Type 0
    MakesIntersection = (first second : List K) → IsIntersection first second (made first second)

    -- the list that is made of two ascending lists is their symmetric difference
    abbrev pub MakesSymmetricDifference : Type 0
    MakesSymmetricDifference = (first second : List K) → IsStrictlySortedBy cmp first → IsStrictlySortedBy cmp second → IsSymmetricDifference first second (made first second)
