use Rattle.std.proofs.Common.{◌≡◌, ℕ, suc, ◌+◌, ◌-◌, ◌^◌, ◌<◌, ◌≤◌, min, List, length, map, take, drop, get_or, Some, None, false, sym, ap, ◌∙◌, arith}
use Rattle.std.specs.declared.cmp.Ordering.{Ordering}
use Rattle.std.specs.declared.cmp.Ordering.TheVariants.{Less, Equal, Greater}
use Rattle.std.specs.Ordering.{is_gt, ordering_reverse}
use Rattle.std.specs.Cmp.{IsTotalOrder}
use Rattle.std.specs.List.{AllZip}
use Rattle.std.proofs.lemmas.List.{take_all}
use Rattle.bptree_arguments.specs.declared.group.GroupCount.{GroupCount}
use Rattle.bptree_keys.specs.Pieces.{flatten, piece_at, ArePieces}
use Rattle.bptree_arguments.specs.declared.group.Ends.{Ends}
use Rattle.bptree_arguments.specs.Groups.{group_size, AreEnds, IsGroupSummary, ReportsEnds}
use Rattle.bptree_keys.proofs.PieceLemmas.{AllByRecursion-weaker, AllZip-length}
use Rattle.bptree_arguments.proofs.GroupLemmas.{child_within, summary_here, size_above, size_greatest_below, size_greatest_same, size_after_greatest, piece_ascends, size_parts, size_more}
use Rattle.bptree_arguments.specs.GroupClones.{less_le, size_alike}

-- the count after the last piece is that of all pieces
pub count_all : {K G : Type 0} (R : G → G → Ordering) (group_of : K → G) (g : G) (pieces : List (List K)) (arguments : List (GroupCount G)) → AllZip (λ a keys. IsGroupSummary R a (map group_of keys)) arguments pieces → (i : ℕ) → length arguments ≤ i → (start count : ℕ) → count ≡ min (start + group_size R g (map group_of (flatten (take i pieces)))) (2 ^ 64 - 1) → count ≡ min (start + group_size R g (map group_of (flatten pieces))) (2 ^ 64 - 1)
count_all R group_of g pieces arguments summaries i past start count counted =
    let whole = take_all i pieces (omega (arith, past, AllZip-length (λ a keys. IsGroupSummary R a (map group_of keys)) arguments pieces summaries)) in
    rw whole at counted

module _ {K G : Type 0} (cmp : K → K → Ordering) (R : G → G → Ordering) (group_of : K → G) (keeps : (x y : K) → is_gt (cmp x y) ≡ false → is_gt (R (group_of x) (group_of y)) ≡ false) (o : IsTotalOrder R) (g : G) (pieces : List (List K)) (are : ArePieces cmp pieces) (arguments : List (GroupCount G)) (summaries : AllZip (λ a keys. IsGroupSummary R a (map group_of keys)) arguments pieces) (i : ℕ) (l : i < length arguments) where
  inside : i < length pieces
  inside = child_within R group_of pieces arguments summaries i l

  abbrev here : List G
  here = map group_of (piece_at pieces i)

  module _ (start count : ℕ) (counted : count ≡ min (start + group_size R g (map group_of (flatten (take i pieces)))) (2 ^ 64 - 1)) where
    more : (n : ℕ) → group_size R g here ≡ n → min (count + n) (2 ^ 64 - 1) ≡ min (start + group_size R g (map group_of (flatten (take (i + 1) pieces)))) (2 ^ 64 - 1)
    more n e = let parts = size_more cmp R group_of keeps o g pieces i inside in omega (arith, parts, e, counted)

    small : count ≡ min count (2 ^ 64 - 1)
    small = omega (arith, counted)

    module _ (argument : GroupCount G) (read : argument ≡ get_or arguments i argument) where
      summary : IsGroupSummary R argument here
      summary = summary_here R group_of pieces arguments summaries i l argument read

      pub count_none : ReportsEnds R argument None → count ≡ min (start + group_size R g (map group_of (flatten (take (i + 1) pieces)))) (2 ^ 64 - 1)
      count_none reports = let none : group_size R g here ≡ 0 = ap (group_size R g) (reports here summary) in omega (arith, more 0 none, small)

      module _ (ends : Ends G) (reports : ReportsEnds R argument (Some ends)) where
        are_ends : AreEnds R here ends
        are_ends = reports here summary

        -- the count, if the greatest group of the piece is below the wanted one, is that one, or is
        -- above it
        pub count_below : Less ≡ R ends.greatest.now g → count ≡ min (start + group_size R g (map group_of (flatten (take (i + 1) pieces)))) (2 ^ 64 - 1)
        count_below e = omega (arith, more 0 (size_greatest_below o g ends.greatest.now ends.greatest_size here are_ends.greatest_bound are_ends.greatest_size are_ends.greatest_there (sym e)), small)

        pub count_same : Equal ≡ R ends.greatest.now g → min (count + ends.greatest_size) (2 ^ 64 - 1) ≡ min (start + group_size R g (map group_of (flatten (take (i + 1) pieces)))) (2 ^ 64 - 1)
        count_same e = more ends.greatest_size (size_greatest_same o g ends.greatest.now ends.greatest_size here are_ends.greatest_bound are_ends.greatest_size are_ends.greatest_there (sym e))

        module _ (above : Greater ≡ R ends.greatest.now g) where
          pub count_down : min (count + group_size R g here) (2 ^ 64 - 1) ≡ min (start + group_size R g (map group_of (flatten pieces))) (2 ^ 64 - 1)
          count_down =
              let parts = size_parts cmp R group_of keeps o g pieces i inside in
              let back = size_after_greatest o g ends.greatest.now ends.greatest_size here are_ends.greatest_bound are_ends.greatest_size are_ends.greatest_there (map group_of (flatten (drop (suc i) pieces))) (piece_ascends cmp R group_of keeps o pieces i inside are.ascending) (o.antisymm g ends.greatest.now ∙ ap ordering_reverse (sym above)) in
              omega (arith, parts, back, counted)

          -- the count, if the wanted group is the first of the piece
          pub count_begun : Equal ≡ R ends.least.now g → min (count + ends.least_size) (2 ^ 64 - 1) ≡ min (start + group_size R g (map group_of (flatten pieces))) (2 ^ 64 - 1)
          count_begun e =
              let size : group_size R g here ≡ ends.least_size = sym (size_alike o ends.least.now g (sym e) here) ∙ sym are_ends.least_size in
              rw size at count_down

          -- the count, if every group of the piece is above the wanted one
          pub count_over : Greater ≡ R ends.least.now g → count ≡ min (start + group_size R g (map group_of (flatten pieces))) (2 ^ 64 - 1)
          count_over e =
              let low : R g ends.least.now ≡ Less = o.antisymm g ends.least.now ∙ ap ordering_reverse (sym e) in
              let none = size_above o g here (AllByRecursion-weaker (λ x. is_gt (R ends.least.now x) ≡ false) (λ x. R g x ≡ Less) (λ x f. less_le o g ends.least.now x low f) here are_ends.least_bound) in
              omega (arith, count_down, none, small)
