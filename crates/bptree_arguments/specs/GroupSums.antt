-- The contents of summaries of groups, of one and of several together, for any keys. Sums stop at
-- the greatest `usize`.
use Rattle.std.specs.Prelude.{◌≡◌, ℕ, ◌+◌, ◌-◌, ◌^◌, ◌==◌, min, List, Bool, true, false, cond, Option, Some, None}
use Rattle.std.specs.declared.cmp.Ordering.{Ordering}
use Rattle.std.specs.Ordering.{is_eq}
use Rattle.std.specs.List.{fold}
use Rattle.bptree_arguments.specs.declared.group.GroupCount.{GroupCount}
use Rattle.bptree_arguments.specs.declared.group.GroupCount.TheVariants.{Zero, One, Multiple}
use Rattle.bptree_arguments.specs.declared.group.Ends.{Ends}

-- the sum, or the greatest `usize` if that is less
abbrev pub capped_sum : ℕ → ℕ → ℕ
capped_sum n m = min (n + m) (2 ^ 64 - 1)

-- the least and the greatest group, each with its size, and the number of groups
pub record Reported (G : Type 0) : Type 0 where
  pub least : G × ℕ
  pub greatest : G × ℕ
  pub count : ℕ

-- the contents of a summary, or `None` if it has no group
abbrev pub summary_of_group : {G : Type 0} → GroupCount G → Option (Reported G)
summary_of_group Zero = None
summary_of_group (One g n) = Some (record { least = (g, n); greatest = (g, n); count = 1 })
summary_of_group (Multiple least greatest n) = Some (record { least = least; greatest = greatest; count = n })

-- the greatest group with its size
abbrev pub greatest_of : {G : Type 0} → GroupCount G → Option (G × ℕ)
greatest_of Zero = None
greatest_of (One g n) = Some (g, n)
greatest_of (Multiple least greatest n) = Some greatest

-- the number of groups
abbrev pub number_of_groups : {G : Type 0} → GroupCount G → ℕ
number_of_groups Zero = 0
number_of_groups (One g n) = 1
number_of_groups (Multiple least greatest n) = n

-- whether there is no group
abbrev pub has_no_group : {G : Type 0} → GroupCount G → Bool
has_no_group Zero = true
has_no_group (One g n) = false
has_no_group (Multiple least greatest n) = false

-- the contents of a list's ends
abbrev pub summary_of_ends : {G : Type 0} → Ends G → Reported G
summary_of_ends ends = record { least = (ends.least.now, ends.least_size); greatest = (ends.greatest.now, ends.greatest_size); count = ends.group_count }

-- the size of a group at an end of a list; if it is the only group, the neighbour's share is added
abbrev pub shared : ℕ → ℕ → ℕ → ℕ
shared size count share = cond (count == 1) (capped_sum size share) size

-- the summary with these contents
abbrev pub summary_of : {G : Type 0} → Option (Reported G) → GroupCount G
summary_of None = Zero
summary_of (Some reported) = cond (reported.count == 1) (One reported.least.0 reported.least.1) (Multiple reported.least reported.greatest reported.count)

module _ {G : Type 0} (cmp : G → G → Ordering) where
  -- The contents of two lists, one after the other. If the greatest group of the first equals the
  -- least of the second, the two are one group, and its size is the sum of both.
  abbrev pub combined : Reported G → Reported G → Reported G
  combined a b = cond (is_eq (cmp a.greatest.0 b.least.0))
      (record { least = (a.least.0, shared a.least.1 a.count b.least.1); greatest = (b.greatest.0, shared b.greatest.1 b.count a.greatest.1); count = capped_sum a.count b.count - 1 })
      (record { least = a.least; greatest = b.greatest; count = capped_sum a.count b.count })

  -- the contents of `both` are those of the two lists, one after the other
  abbrev pub AreCombined : Ends G → Ends G → Ends G → Type 0
  AreCombined first second both = summary_of_ends both ≡ combined (summary_of_ends first) (summary_of_ends second)

  -- the contents of two lists, one after the other, if either may have no group
  abbrev pub combined_options : Option (Reported G) → Option (Reported G) → Option (Reported G)
  combined_options whole None = whole
  combined_options None (Some b) = Some b
  combined_options (Some a) (Some b) = Some (combined a b)

  -- the contents of several summaries, one after another
  abbrev pub combined_all : List (GroupCount G) → Option (Reported G)
  combined_all summaries = fold (λ whole summary. combined_options whole (summary_of_group summary)) None summaries

  -- the summary of several summaries together
  abbrev pub summary_of_all : List (GroupCount G) → GroupCount G
  summary_of_all summaries = summary_of (combined_all summaries)

  module _ (g : G) where
    -- A number of keys of g, carried on over a summary with this greatest group: if there is no
    -- group, the number is unchanged; if the group is g, its size is added; otherwise the number is
    -- 0.
    abbrev pub carried_past : ℕ → Option (G × ℕ) → ℕ
    carried_past n None = n
    carried_past n (Some greatest) = cond (is_eq (cmp greatest.0 g)) (n + greatest.1) 0

    -- a number of keys of g, carried on over summaries, one after another
    abbrev pub carried_over : ℕ → List (GroupCount G) → ℕ
    carried_over n summaries = fold (λ n summary. carried_past n (greatest_of summary)) n summaries
