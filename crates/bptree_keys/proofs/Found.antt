-- The parts of a list at an index, and the results of a search.
use Rattle.std.proofs.Common.{◌≡◌, ℕ, ◌<◌, ◌≤◌, ◌+◌, zero, suc, false, List, [], ◌∷◌, ◌++◌, length, get_or, set, take, drop, refl, sym, ap, subst, ◌∙◌, arith, slice_get, IsSomeAnd, Some, None}
use Rattle.std.specs.declared.cmp.Ordering.{Ordering}
use Rattle.std.specs.declared.cmp.Ordering.TheVariants.{Less, Equal, Greater}
use Rattle.std.specs.Ordering.{is_lt, is_eq, ordering_index}
use Rattle.std.specs.List.{insert}
use Rattle.std.specs.List.Sorted.{IsNonDecreasingBy}
use Rattle.std.specs.Cmp.{IsTotalOrder}
use Rattle.std.specs.Map.{keys_of, set_value}
use Rattle.std.proofs.lemmas.List.{take-append-drop, get_or-map, take_at, drop_at, length-append}
use Rattle.std.proofs.lemmas.List.Sorted.{searchable_from_sorted}
use Rattle.std.proofs.lemmas.Map.Keys.{Less-from_sorted}
use Rattle.std.proofs.lemmas.Map.Entries.{length-keys_of}
use Rattle.bptree_keys.specs.Contents.{IsAscending, below, has, value, put, pairs_below, pairs_above}
use Rattle.bptree_keys.specs.Indexes.{AllCompare, IsKeyGap, IsHit}
use Rattle.bptree_keys.proofs.Ascending.{equal_parts, greater_turned, gap_if_absent, ascending_with_value, ascending_in_gap}
use Rattle.bptree_keys.proofs.Parted.{value_gap, put_gap, value_hit, put_hit, set_value_hit}

-- a list is the members before an index, the member at the index, and the members after the index
pub parts_at : {X : Type 0} (xs : List X) (i : ℕ) (d : X) → i < length xs → xs ≡ take i xs ++ get_or xs i d ∷ drop (suc i) xs
parts_at [] i d within = absurd (omega arith)
parts_at (x ∷ xs) zero d within = refl
parts_at (x ∷ xs) (suc i) d within = ap (λ rest. x ∷ rest) (parts_at xs i d (omega arith))

-- a write at an index keeps the members before and after the index
pub set_at : {X : Type 0} (xs : List X) (i : ℕ) (x : X) → i < length xs → set xs i x ≡ take i xs ++ x ∷ drop (suc i) xs
set_at [] i x within = absurd (omega arith)
set_at (y ∷ xs) zero x within = refl
set_at (y ∷ xs) (suc i) x within = ap (λ rest. y ∷ rest) (set_at xs i x (omega arith))

-- the gap of a key is at the index that is the length of its first part
gap_by_length : {K V : Type 0} (cmp : K → K → Ordering) (l before after : List (K × V)) (k : K) (i : ℕ) → IsKeyGap cmp l before after k → i ≡ length before → (i ≤ length l) × IsKeyGap cmp l (take i l) (drop i l) k
gap_by_length cmp l before after k i gap at =
    let first : take i l ≡ before = ap (take i) gap.parts ∙ take_at before after i (sym at) in
    let rest : drop i l ≡ after = ap (drop i) gap.parts ∙ drop_at before after i (sym at) in (
      omega (arith, ap length gap.parts, length-append before after),
      record {
        parts = sym (take-append-drop i l);
        smaller = subst (AllCompare cmp k Less) (sym first) gap.smaller;
        greater = subst (AllCompare cmp k Greater) (sym rest) gap.greater;
      },
    )

module _ {K V : Type 0} (cmp : K → K → Ordering) (total : IsTotalOrder cmp) (l : List (K × V)) (ascending : IsAscending cmp l) (k : K) where
  -- the comparisons with k do not descend along an ascending list
  pub results_rise : IsNonDecreasingBy (λ pair. ordering_index (cmp pair.0 k)) l
  results_rise = searchable_from_sorted total (λ pair. pair.0) l k (λ i d from within.
      let keys_len : length (keys_of l) ≡ length l = length-keys_of l in
      let here = get_or-map (λ (pair : K × V). pair.0) l i d d.0 (omega arith) in
      let after = get_or-map (λ (pair : K × V). pair.0) l (i + 1) d d.0 within in
      let less : cmp (get_or l i d).0 (get_or l (i + 1) d).0 ≡ Less = rw (← here, ← after) (Less-from_sorted cmp (keys_of l) i (i + 1) d.0 ascending (omega arith) (omega arith)) in
      ap is_lt (greater_turned cmp total _ _ less))

  -- an equal key at index i divides the list at i
  pub hit_at : (i : ℕ) (d : K × V) → IsSomeAnd (slice_get l i) (λ pair. cmp pair.0 k ≡ Equal) → (i < length l) × IsHit cmp l (take i l) (get_or l i d) (drop (suc i) l) k
  hit_at i d found =
      let within = read_within l i found in
      let is_equal = read_holds l i d found in
      let hit = equal_parts cmp total (take i l) (get_or l i d) (drop (suc i) l) k (subst (IsAscending cmp) (parts_at l i d within) ascending) is_equal in
      (within, record { parts = parts_at l i d within; smaller = hit.smaller; equal = hit.equal; greater = hit.greater })
    where
      read_within : (xs : List (K × V)) (i : ℕ) → IsSomeAnd (slice_get xs i) (λ pair. cmp pair.0 k ≡ Equal) → i < length xs
      read_within [] i found = absurd found
      read_within (x ∷ xs) zero found = omega arith
      read_within (x ∷ xs) (suc i) found = omega (arith, read_within xs i found)

      read_holds : (xs : List (K × V)) (i : ℕ) (d : K × V) → IsSomeAnd (slice_get xs i) (λ pair. cmp pair.0 k ≡ Equal) → cmp (get_or xs i d).0 k ≡ Equal
      read_holds [] i d found = absurd found
      read_holds (x ∷ xs) zero d found = found
      read_holds (x ∷ xs) (suc i) d found = read_holds xs i d found

  -- the gap of a key that is not in the list is after the smaller keys
  pub gap_at : (i : ℕ) → has cmp l k ≡ false → i ≡ length (below cmp l k) → (i ≤ length l) × IsKeyGap cmp l (take i l) (drop i l) k
  gap_at i absent index = gap_by_length cmp l (pairs_below cmp l k) (pairs_above cmp l k) k i (gap_if_absent cmp total l k ascending absent) (index ∙ length-keys_of (pairs_below cmp l k))

  -- the list after a new value is written at the index of an equal key, whose pair is the one that was read
  pub replaced : (i : ℕ) (pair : K × V) (v : V) → IsSomeAnd (slice_get l i) (λ pair. cmp pair.0 k ≡ Equal) → pair ≡ get_or l i pair → record {
    ascending : IsAscending cmp (set l i (pair.0, v));
    old : value cmp l k ≡ Some pair.1;
    new : set l i (pair.0, v) ≡ put cmp l k v;
    borrowed : set l i (pair.0, v) ≡ set_value (λ key. is_eq (cmp key k)) l v;
  }
  replaced i pair v found read =
      let at = hit_at i pair found in
      let hit : IsHit cmp l (take i l) pair (drop (suc i) l) k = rw read at.1 in
      let written : set l i (pair.0, v) ≡ take i l ++ (pair.0, v) ∷ drop (suc i) l = set_at l i (pair.0, v) at.0 in
      record {
        ascending = rw written (ascending_with_value cmp (take i l) pair v (drop (suc i) l) (subst (IsAscending cmp) hit.parts ascending));
        old = value_hit cmp l _ pair _ k hit;
        new = written ∙ sym (put_hit cmp l _ pair _ k hit v);
        borrowed = written ∙ sym (set_value_hit cmp l _ pair _ k hit v);
      }

  -- the list after a new pair is inserted at the index that its key would have
  pub inserted : (i : ℕ) (v : V) → has cmp l k ≡ false → i ≡ length (below cmp l k) → record {
    in_range : i ≤ length l;
    ascending : IsAscending cmp (insert l i (k, v));
    old : value cmp l k ≡ None;
    new : insert l i (k, v) ≡ put cmp l k v;
  }
  inserted i v absent index =
      let at = gap_at i absent index in
      let gap = at.1 in
      record {
        in_range = at.0;
        ascending = ascending_in_gap cmp total (take i l) (drop i l) k v (subst (IsAscending cmp) gap.parts ascending) gap.smaller gap.greater;
        old = value_gap cmp l _ _ k gap;
        new = sym (put_gap cmp l _ _ k gap v);
      }
