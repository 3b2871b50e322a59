-- A search in a leaf and an insertion into it, in terms of the contents of its pairs.
use Rattle.std.proofs.Common.{◌≡◌, ℕ, ◌<◌, zero, suc, false, List, [], ◌∷◌, length, set, take, drop, refl, sym, ap, ◌∙◌, arith, Result, Ok, Err, Some, slice_get, IsSomeAnd, IfOk}
use Rattle.std.specs.declared.cmp.Ordering.{Ordering}
use Rattle.std.specs.declared.cmp.Ordering.TheVariants.{Less, Equal, Greater}
use Rattle.std.specs.Ordering.{is_lt}
use Rattle.std.specs.List.{HoldsAt, zip}
use Rattle.std.specs.List.Sorted.{IsSearchInRange}
use Rattle.std.specs.Cmp.{IsTotalOrder}
use Rattle.std.specs.Map.{keys_of, values_of}
use Rattle.std.proofs.lemmas.List.{append-nil, length-take-le}
use Rattle.std.proofs.lemmas.Map.Keys.{sorted_tail}
use Rattle.std.proofs.lemmas.Map.Entries.{length-keys_of}
use Rattle.std.proofs.lemmas.Option.{get_or_from_slice_get}
use Rattle.bptree_keys.specs.Contents.{IsAscending, below, pairs_below, has, value, put}
use Rattle.bptree_nodes.specs.Leaf.{set_value_at}
use Rattle.bptree_nodes.specs.LeafResults.{HasEqualAt}
use Rattle.bptree_keys.specs.Locate.{one_later, locate_by, locate}
use Rattle.bptree_keys.specs.Indexes.{IsIndexOf}
use Rattle.bptree_keys.proofs.Ascending.{greater_after}
use Rattle.bptree_keys.proofs.Found.{hit_at, replaced}
use Rattle.bptree_keys.proofs.Parted.{filter_none, has_past, pairs_below_hit}

-- an equal key at an index is the key of the pair at the index
module _ {K V : Type 0} (cmp : K → K → Ordering) (k : K) where
  has_equal_at : (ks : List K) (vs : List V) (i : ℕ) → length vs ≡ length ks → i < length ks → HoldsAt (λ y. cmp y k ≡ Equal) ks i → HasEqualAt cmp (zip ks vs) k i
  has_equal_at [] vs i same within found = absurd (omega arith)
  has_equal_at (x ∷ ks) [] i same within found = absurd (omega arith)
  has_equal_at (x ∷ ks) (v ∷ vs) zero same within found = found x
  has_equal_at (x ∷ ks) (v ∷ vs) (suc i) same within found = has_equal_at ks vs i (omega arith) (omega arith) (λ d. found d)

  pub found_pair : (ks : List K) (vs : List V) (r : Result ℕ ℕ) → length vs ≡ length ks → IsSearchInRange r (length ks) → IfOk r (HoldsAt (λ y. cmp y k ≡ Equal) ks) → IfOk r (HasEqualAt cmp (zip ks vs) k)
  found_pair ks vs (Ok i) same within found = has_equal_at ks vs i same within found
  found_pair ks vs (Err i) same within found = tt

-- the index of a key among ascending keys is its index among the pairs
module _ {K V : Type 0} (cmp : K → K → Ordering) (total : IsTotalOrder cmp) (k : K) where
  -- the result of a search with one smaller key in front
  index_later : (p : K × V) (l : List (K × V)) (r : Result ℕ ℕ) → cmp p.0 k ≡ Less → IsIndexOf cmp l k r → IsIndexOf cmp (p ∷ l) k (one_later r)
  index_later p l (Ok i) less index = index
  index_later p l (Err i) less index = rw less (index.0, ap suc index.1)

  index_by : (p : K × V) (l : List (K × V)) → IsAscending cmp (p ∷ l) → IsIndexOf cmp l k (locate cmp (keys_of l) k) → (o : Ordering) → cmp p.0 k ≡ o → IsIndexOf cmp (p ∷ l) k (locate_by o (locate cmp (keys_of l) k))
  index_by p l ascending later Less is = index_later p l (locate cmp (keys_of l) k) is later
  index_by p l ascending later Equal is = is
  index_by p l ascending later Greater is =
      let all = greater_after cmp total p l k ascending is in
      let absent : has cmp l k ≡ false = rw (← append-nil l) (has_past cmp k Greater l [] refl all) in
      let none : pairs_below cmp l k ≡ [] = filter_none cmp k is_lt Greater l refl all in
      rw (is, none, absent) (refl, refl)

  pub index_of_locate : (l : List (K × V)) → IsAscending cmp l → IsIndexOf cmp l k (locate cmp (keys_of l) k)
  index_of_locate [] ascending = (refl, refl)
  index_of_locate (p ∷ l) ascending = index_by p l ascending (index_of_locate l (sorted_tail cmp p.0 (keys_of l) ascending)) (cmp p.0 k) refl

module _ {K V : Type 0} where
  -- the value at an index is the one of the pair at the index
  pub shown_at : (l : List (K × V)) (i : ℕ) (k : K) (v : V) → slice_get l i ≡ Some (k, v) → i < length l → (Some v ≡ slice_get (values_of l) i) × (i < length (values_of l))
  shown_at [] i k v h within = absurd (omega arith)
  shown_at (p ∷ l) zero k v h within = let same : p ≡ (k, v) = cc in (rw same refl, omega arith)
  shown_at (p ∷ l) (suc i) k v h within = let later = shown_at l i k v h (omega arith) in (later.0, omega (arith, later.1))

  -- the pair at an index, and its value
  read_at : (P : K × V → Type 0) (l : List (K × V)) (i : ℕ) → IsSomeAnd (slice_get l i) P → (pair : K × V) × (slice_get l i ≡ Some pair) × (slice_get (values_of l) i ≡ Some pair.1)
  read_at P [] i found = absurd found
  read_at P (p ∷ l) zero found = (p, refl, refl)
  read_at P (p ∷ l) (suc i) found = read_at P l i found

  -- a write of a value at an index is a write of the pair with the value
  set_value_is : (l : List (K × V)) (i : ℕ) (pair : K × V) (v : V) → slice_get l i ≡ Some pair → set_value_at l i v ≡ set l i (pair.0, v)
  set_value_is [] i pair v read = refl
  set_value_is (p ∷ l) zero pair v read = let same : p ≡ pair = cc in rw same refl
  set_value_is (p ∷ l) (suc i) pair v read = ap (λ rest. p ∷ rest) (set_value_is l i pair v read)

module _ {K V : Type 0} (cmp : K → K → Ordering) (total : IsTotalOrder cmp) (l : List (K × V)) (ascending : IsAscending cmp l) (k : K) where
  -- the value at the index of an equal key is the value of k, and a write of a new value at the index is `put`
  pub value_of_pair : (i : ℕ) (pair : K × V) → HasEqualAt cmp l k i → slice_get l i ≡ Some pair → value cmp l k ≡ Some pair.1
  value_of_pair i pair found read = (replaced cmp total l ascending k i pair pair.1 found (sym (get_or_from_slice_get l i pair pair read))).old

  pub value_at_index : (i : ℕ) → HasEqualAt cmp l k i → slice_get (values_of l) i ≡ value cmp l k
  value_at_index i found =
      let at = read_at (λ pair. cmp pair.0 k ≡ Equal) l i found in
      at.2 ∙ sym (value_of_pair i at.0 found at.1)

  pub put_at_index : (i : ℕ) (v : V) → HasEqualAt cmp l k i → set_value_at l i v ≡ put cmp l k v
  put_at_index i v found =
      let at = read_at (λ pair. cmp pair.0 k ≡ Equal) l i found in
      let facts = replaced cmp total l ascending k i at.0 v found (sym (get_or_from_slice_get l i at.0 at.0 at.1)) in
      set_value_is l i at.0 v at.1 ∙ facts.new

  -- the index of an equal key is the number of smaller keys
  pub index_is_below : (i : ℕ) → HasEqualAt cmp l k i → i ≡ length (below cmp l k)
  index_is_below i found =
      let at = read_at (λ pair. cmp pair.0 k ≡ Equal) l i found in
      let hit = hit_at cmp total l ascending k i at.0 found in
      let first : pairs_below cmp l k ≡ take i l = pairs_below_hit cmp l (take i l) _ (drop (suc i) l) k hit.1 in
      omega (arith, length-keys_of (pairs_below cmp l k), ap length first, length-take-le i l (omega arith), hit.0)
