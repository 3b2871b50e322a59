-- Maps compared pair by pair, and sets key by key: the first that differ decide, and else the lengths do.
use Rattle.std.specs.Prelude.{ℕ, Bool, ◌&&◌, List, ◌++◌, Option}
use Rattle.std.specs.Cmp.Lexicographic.{pointwise, slice_cmp, slice_partial_cmp}
use Rattle.std.specs.Hash as fed
use Rattle.std.specs.Ordering.{ordering_then, partial_ordering_then}
use Rattle.std.specs.declared.cmp.Ordering.{Ordering}

module _ {K V : Type 0} where
  -- both lists are equally long, with equal keys and equal values at each index
  abbrev pub pairs_eq : (K → K → Bool) → (V → V → Bool) → List (K × V) → List (K × V) → Bool
  pairs_eq key_eq value_eq = pointwise (λ p q. key_eq p.0 q.0 && value_eq p.1 q.1)

  -- the order of two pairs: that of the keys, or of the values if the keys are equal
  abbrev pub pair_cmp : (K → K → Ordering) → (V → V → Ordering) → K × V → K × V → Ordering
  pair_cmp key_cmp value_cmp p q = ordering_then (key_cmp p.0 q.0) (value_cmp p.1 q.1)

  -- the order of two lists: that of the first two pairs that differ, or else of the lengths
  abbrev pub pairs_cmp : (K → K → Ordering) → (V → V → Ordering) → List (K × V) → List (K × V) → Ordering
  pairs_cmp key_cmp value_cmp = slice_cmp (pair_cmp key_cmp value_cmp)

  -- the order of two lists, or `None` if the two keys or values that determine it have no order
  abbrev pub pairs_partial_cmp : (K → K → Option Ordering) → (V → V → Option Ordering) → List (K × V) → List (K × V) → Option Ordering
  pairs_partial_cmp key_cmp value_cmp = slice_partial_cmp (λ p q. partial_ordering_then (key_cmp p.0 q.0) (value_cmp p.1 q.1))

  -- the input of a hasher for a pair: its key and then its value
  abbrev pub pair_hash_input : (K → List (List ℕ)) → (V → List (List ℕ)) → K × V → List (List ℕ)
  pair_hash_input key_input value_input p = key_input p.0 ++ value_input p.1

  -- the input of a hasher for a list of pairs: its length, and then each pair
  abbrev pub pairs_hash_input : (K → List (List ℕ)) → (V → List (List ℕ)) → List (K × V) → List (List ℕ)
  pairs_hash_input key_input value_input = fed.slice (pair_hash_input key_input value_input)
