-- Pages of a list: so many members each, counted from 0.
use Rattle.std.specs.Prelude.{ℕ, zero, suc, ◌*◌, List, [], ◌++◌, ◌≡◌, ◌/◌, Result, Ok, Err, if◌then◌else◌}
use Rattle.std.specs.declared.cmp.Ordering.{Ordering}
use Rattle.bptree_arguments.specs.Groups.{of_group}
use Rattle.bptree_keys.specs.Ranges.{part}
use Rattle.std.specs.Map.{keys_of}
use Rattle.bptree_arguments.specs.CountLaws.{count_below}
use Rattle.bptree_keys.specs.Contents.{has}

module _ {X : Type 0} where
  -- page p of s members, or of fewer at the end of the list
  abbrev pub page : List X → ℕ → ℕ → List X
  page l p s = part l (p * s) s

  -- the first n pages, one after another
  abbrev pub first_pages : List X → ℕ → ℕ → List X
  first_pages l s zero = []
  first_pages l s (suc n) = first_pages l s n ++ page l n s

module _ {K V G : Type 0} (cmp : G → G → Ordering) (group_of : K → G) where
  -- page p of s pairs of one group
  abbrev pub group_page : G → List (K × V) → ℕ → ℕ → List (K × V)
  group_page g l p s = page (of_group cmp group_of g l) p s

-- the page of a key, or the page at which it would be inserted
abbrev pub IsPageOf : {K V : Type 0} → (K → K → Ordering) → List (K × V) → K → ℕ → Result ℕ ℕ → Type 0
IsPageOf cmp l k s outcome = let at = count_below cmp k (keys_of l) / s in outcome ≡ (if has cmp l k then Ok at else Err at)
