-- The number of pairs from an index on.
use Rattle.std.proofs.Common.{◌≡◌, ℕ, ◌-◌, ◌<◌, min, List, length, drop, length-drop, Option, Some, None, ap, arith}
use Rattle.std.specs.Map.{keys_of}
use Rattle.std.proofs.lemmas.List.{length-take}
use Rattle.std.proofs.lemmas.Map.Entries.{length-keys_of}
use Rattle.bptree_arguments.specs.CountLaws.{SelectsIndex}
use Rattle.bptree_arguments.specs.declared.count.Count.{Count}
use Rattle.bptree_ranges.specs.Summaries.{IsPartSummary}
use Rattle.bptree_search.specs.ByArgument.{IsPartSelected}

pub part_len : {K V : Type 0} (l : List (K × V)) (i n : ℕ) (found : List (K × V)) → IsPartSelected SelectsIndex i l n found → length found ≡ min n (length l - i)
part_len l i n found (None, within, past, part) = omega (arith, ap length part, past, length-keys_of l)
part_len l i n found (Some j, within, at, part) = omega (arith, ap length part, at.0, length-take n (drop j l), length-drop j l)

-- If pairs are asked for, the part is empty only if the query selects `None`.
pub none_allowed : {K V Q : Type 0} (selects : Q → List K → Option ℕ → Type 0) (query : Q) (l : List (K × V)) (n : ℕ) (found : List (K × V)) → 0 < n → IsPartSelected selects query l n found → length found ≡ 0 → selects query (keys_of l) None
none_allowed selects query l n found some (None, within, selected, part) none = selected
none_allowed selects query l n found some (Some j, within, selected, part) none = absurd (omega (arith, some, none, within, ap length part, length-take n (drop j l), length-drop j l))

-- The count of the keys from one index up to another.
pub part_count : {K : Type 0} (keys : List K) (from to : ℕ) (a : Count) → IsPartSummary (λ (b : Count) (some : List K). b.0 ≡ length some) SelectsIndex from to keys a → a.0 ≡ min to (length keys) - from
part_count keys from to a (None, within, past, sums) = omega (arith, past, sums)
part_count keys from to a (Some i, here, at, (None, there, past, sums)) = omega (arith, at.0, at.1, past, sums, length-drop i keys)
part_count keys from to a (Some i, here, at, (Some j, there, end, sums)) = omega (arith, at.0, at.1, end.0, end.1, sums, length-take (j - i) (drop i keys), length-drop i keys)
