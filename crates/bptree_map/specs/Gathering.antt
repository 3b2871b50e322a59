-- Maps and sets of all items of an iterator, and the greatest number of comparisons of a look-up.
use Rattle.std.specs.Prelude.{◌≡◌, ℕ, ◌+◌, ◌-◌, ◌*◌, ◌^◌, ◌<◌, ◌≤◌, List, Option, ⊤}
use Rattle.std.specs.declared.cmp.Ordering.{Ordering}
use Rattle.std.specs.Iterator.{Drains, DrainsIf}
use Rattle.bptree_keys.specs.Contents.{gather}
use Rattle.bptree_map.specs.Keys.{gathered}

module _ {U S : Type 0} (becomes : U → S → Type 0) where
  -- the map of the pairs that the iterator of the items yielded
  abbrev pub IsMapOf : {K V : Type 0} → (K → K → Ordering) → (S → Option (K × V) → S → Type 0) → U → List (K × V) → Type 0
  IsMapOf {K} {V} cmp steps items map = (it : S) × (given : List (K × V)) × becomes items it × Drains steps it given × (map ≡ gather cmp given)

  -- the set of the keys that the iterator of the items yielded
  abbrev pub IsSetOf : {K : Type 0} → (K → K → Ordering) → (S → Option K → S → Type 0) → U → List K → Type 0
  IsSetOf {K} cmp steps items set = (it : S) × (xs : List K) × becomes items it × DrainsIf steps ⊤ it xs × (set ≡ gathered cmp xs)

-- 7 comparisons for each level of a tree that has so many pairs, and 2 more
abbrev pub AreFewFor : ℕ → ℕ → Type 0
AreFewFor len compares = (h : ℕ) × (h ≤ 15) × (0 < h → 32 * 17 ^ (h - 1) ≤ len) × (compares ≤ 7 * (h + 1) + 2)
