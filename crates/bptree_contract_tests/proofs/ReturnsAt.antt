-- The result at the index of a key, after look-ups of many keys.
use Rattle.std.proofs.Common.{◌≡◌, ◌<◌, ℕ, zero, suc, Bool, true, false, List, [], ◌∷◌, length, get_or, map, take, Option, Some, None, refl, sym, ap, ◌∙◌, arith, unwrap_or, slice_get, if◌then◌else◌}
use Rattle.std.specs.declared.cmp.Ordering.{Ordering}
use Rattle.std.specs.Option.{is_some}
use Rattle.std.proofs.lemmas.Option.{get_or_from_slice_get}
use Rattle.bptree_keys.specs.Contents.{del, has, value}
use Rattle.bptree_batches.proofs.FindLemmas.{same_at}
use Rattle.bptree_map.specs.Many.{removed_each, without_each}
use Rattle.bptree_keys.proofs.Equal.{has_where_value}
use Rattle.bptree_batches.specs.Each.{result_each, read_each, found_each}

module _ {K X : Type 0} where
  pub result_at : (outcome : K → X → X) (keys : List K) (olds : List X) (i : ℕ) (k : K) (old : X) → slice_get keys i ≡ Some k → slice_get olds i ≡ Some old → slice_get (result_each outcome keys olds) i ≡ Some (outcome k old)
  result_at outcome [] olds i k old key there = absurd cc
  result_at outcome (a ∷ keys) [] i k old key there = absurd cc
  result_at outcome (a ∷ keys) (o ∷ olds) zero k old key there = let same : a ≡ k = cc in let same' : o ≡ old = cc in cc
  result_at outcome (a ∷ keys) (o ∷ olds) (suc i) k old key there = result_at outcome keys olds i k old key there

  pub map_at : (f : K → X) (keys : List K) (i : ℕ) (k : K) → slice_get keys i ≡ Some k → slice_get (map f keys) i ≡ Some (f k)
  map_at f [] i k key = absurd cc
  map_at f (a ∷ keys) zero k key = let same : a ≡ k = cc in cc
  map_at f (a ∷ keys) (suc i) k key = map_at f keys i k key

itself : (b : Bool) → (if b then true else false) ≡ b
itself true = refl
itself false = refl

-- A list that is as long as another has a member at the same index.
pub member_too : {K X : Type 0} (keys : List K) (olds : List X) (i : ℕ) (k : K) → length olds ≡ length keys → slice_get keys i ≡ Some k → (old : X) × (slice_get olds i ≡ Some old)
member_too [] olds i k same key = absurd cc
member_too (a ∷ keys) [] i k same key = absurd (omega (arith, same))
member_too (a ∷ keys) (o ∷ olds) zero k same key = (o, refl)
member_too (a ∷ keys) (o ∷ olds) (suc i) k same key = member_too keys olds i k (omega (arith, same)) key

module _ {K V : Type 0} (cmp : K → K → Ordering) (pairs : List (K × V)) (keys : List K) (i : ℕ) (k : K) (key : slice_get keys i ≡ Some k) where
  pub found_at : (found : List Bool) → found ≡ found_each cmp pairs keys → get_or found i false ≡ has cmp pairs k
  found_at found is = get_or_from_slice_get found i (has cmp pairs k) false (rw is (map_at (λ k. if has cmp pairs k then true else false) keys i k key ∙ ap Some (itself (has cmp pairs k))))

  pub read_at : (olds values : List V) (old : V) → values ≡ read_each cmp pairs keys olds → slice_get olds i ≡ Some old → slice_get values i ≡ Some (unwrap_or (value cmp pairs k) old)
  read_at olds values old is there = rw is (result_at (λ k old. unwrap_or (value cmp pairs k) old) keys olds i k old key there)

  is_there : (o : Option V) (old r : V) → is_some o ≡ true → r ≡ unwrap_or o old → Some r ≡ o
  is_there None old r some is = absurd cc
  is_there (Some v) old r some is = ap Some is

  is_not : (o : Option V) → is_some o ≡ false → None ≡ o
  is_not None none = refl
  is_not (Some v) none = absurd cc

  pub found_value : (olds values : List V) (found : List Bool) (v : V) → values ≡ read_each cmp pairs keys olds → found ≡ found_each cmp pairs keys → length olds ≡ length keys → get_or found i false ≡ true → v ≡ get_or values i v → Some v ≡ value cmp pairs k
  found_value olds values found v are marked same there read =
      let old = member_too keys olds i k same key in
      is_there (value cmp pairs k) old.0 v (has_where_value cmp pairs k ∙ (sym (found_at found marked) ∙ there)) (read ∙ get_or_from_slice_get values i _ v (read_at olds values old.0 are old.1))

  pub missed_value : (found : List Bool) → found ≡ found_each cmp pairs keys → get_or found i false ≡ false → None ≡ value cmp pairs k
  missed_value found marked absent = is_not (value cmp pairs k) (has_where_value cmp pairs k ∙ (sym (found_at found marked) ∙ absent))

  pub value_kept : (olds values : List V) → values ≡ read_each cmp pairs keys olds → length olds ≡ length keys → has cmp pairs k ≡ false → slice_get values i ≡ slice_get olds i
  value_kept olds values are same absent =
      let old = member_too keys olds i k same key in
      let none : None ≡ value cmp pairs k = is_not (value cmp pairs k) (has_where_value cmp pairs k ∙ absent) in
      read_at olds values old.0 are old.1 ∙ (ap (λ o. Some (unwrap_or o old.0)) (sym none) ∙ sym old.1)

-- If two lists are equal after a map of each, members at the same index are equal after it.
pub same_as : {X Y Z : Type 0} (f : X → Z) (g : Y → Z) (xs : List X) (ys : List Y) (i : ℕ) (x : X) (k : Y) → map f xs ≡ map g ys → slice_get ys i ≡ Some k → i < length ys → f (get_or xs i x) ≡ g k
same_as f g xs ys i x k same there within = same_at f g xs ys i x k same within ∙ ap g (get_or_from_slice_get ys i k k there)

-- A batch of one key that removed one key removed that key.
pub one_gone : {K V : Type 0} (cmp : K → K → Ordering) (pairs : List (K × V)) (keys : List K) (olds : List (Option V)) (n : ℕ) (k : K) → keys ≡ k ∷ [] → length olds ≡ 1 → n ≡ 1
    → (without_each cmp pairs (take n keys) ≡ del cmp pairs k) × (removed_each cmp pairs (take n keys) olds ≡ value cmp pairs k ∷ [])
one_gone cmp pairs keys [] n k is long one = absurd (omega (arith, long))
one_gone cmp pairs keys (old ∷ a ∷ olds) n k is long one = absurd (omega (arith, long))
one_gone cmp pairs keys (old ∷ []) n k is long one = rw (is, one) (refl, refl)

pub none_gone : {K V : Type 0} (cmp : K → K → Ordering) (pairs : List (K × V)) (keys : List K) (n : ℕ) → n ≡ 0 → without_each cmp pairs (take n keys) ≡ pairs
none_gone cmp pairs keys n none = rw none refl
