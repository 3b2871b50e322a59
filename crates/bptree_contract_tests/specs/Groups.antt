-- Statements of callers about the keys and pairs of a group.
use Rattle.std.specs.Prelude.{◌≡◌, ℕ, Bool, List, Option, IfSome, length}
use Rattle.std.specs.Borrow.{Bor}
use Rattle.std.specs.declared.cmp.Ordering.{Ordering}
use Rattle.std.specs.declared.cmp.Ordering.TheVariants.{Equal}
use Rattle.std.specs.Map.{keys_of}
use Rattle.std.specs.Ordering.{is_eq}
use Rattle.bptree_arguments.specs.Groups.{group}

module _ {K V G : Type 0} (cmp : G → G → Ordering) (group_of : K → G) (g : G) where
  -- Whether a pair is of the group.
  abbrev pub is_of_group : K × V → Bool
  is_of_group pair = is_eq (cmp (group_of pair.0) g)

  -- The number of keys of a list of pairs that are of the group.
  abbrev pub group_len : List (K × V) → ℕ
  group_len l = length (group cmp group_of g (keys_of l))

  -- A borrowed pair, if there is one, has a key of the group.
  abbrev pub BorrowsOneOf : Option (Bor K × Bor V) → Type 0
  BorrowsOneOf reported = IfSome reported (λ pair. cmp (group_of pair.0.now) g ≡ Equal)
