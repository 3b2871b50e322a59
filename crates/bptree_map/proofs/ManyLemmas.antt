-- Steps for many keys, one after another, and columns of pairs.
use Rattle.std.proofs.Common.{◌≡◌, ℕ, zero, suc, ◌+◌, ◌<◌, ◌≤◌, Bool, true, false, List, [], ◌∷◌, ◌++◌, length, get_or, map, take, slice_set, refl, ap, ◌∙◌, arith, add-one, if◌then◌else◌}
use Rattle.std.specs.declared.cmp.Ordering.{Ordering}
use Rattle.std.specs.List.{AllZip, zip}
use Rattle.std.proofs.lemmas.List.Elements.{all_zip_more}
use Rattle.std.specs.Map.{keys_of}
use Rattle.bptree_batches.specs.Each.{found_each}
use Rattle.bptree_keys.specs.Contents.{has}
use Rattle.bptree_map.specs.Keys.{holds}
use Rattle.bptree_map.specs.Many.{AreColumns, after_each, returned_each}
use Rattle.bptree_map.proofs.KeyLemmas.{holds_keys}

module _ {X K : Type 0} (step : X → K → X) where
  after_step : (x : X) (keys : List K) (i : ℕ) (k : K) → i < length keys → step (after_each step x (take i keys)) (get_or keys i k) ≡ after_each step x (take (suc i) keys)
  after_step x [] i k within = absurd (omega arith)
  after_step x (a ∷ keys) zero k within = refl
  after_step x (a ∷ keys) (suc i) k within = after_step (step x a) keys i k (omega (arith, within))

  module _ {T : Type 0} (returned : X → K → T) where
    returned_step : (x : X) (keys : List K) (olds : List T) (i : ℕ) (k : K) → i < length keys → length olds ≡ length keys
        → slice_set (returned_each step returned x (take i keys) olds) i (returned (after_each step x (take i keys)) (get_or keys i k)) ≡ returned_each step returned x (take (suc i) keys) olds
    returned_step x [] olds i k within same = absurd (omega arith)
    returned_step x (a ∷ keys) [] i k within same = absurd (omega (arith, same))
    returned_step x (a ∷ keys) (o ∷ olds) zero k within same = refl
    returned_step x (a ∷ keys) (o ∷ olds) (suc i) k within same = ap (λ l. returned x a ∷ l) (returned_step (step x a) keys olds i k (omega (arith, within)) (omega (arith, same)))

  module _ (x now next : X) (keys : List K) (i : ℕ) (k : K) (so_far : now ≡ after_each step x (take i keys)) (key : k ≡ get_or keys i k) (within : i < length keys) where
    -- after one step more
    pub after_more : next ≡ step now k → next ≡ after_each step x (take (i + 1) keys)
    after_more is = is ∙ rw (so_far, add-one) (ap (λ j. step (after_each step x (take i keys)) j) key ∙ after_step x keys i k within)

    pub returned_more : {T : Type 0} (returned : X → K → T) (olds list : List T) (t : T) → length olds ≡ length keys → list ≡ returned_each step returned x (take i keys) olds → t ≡ returned now k
        → slice_set list i t ≡ returned_each step returned x (take (i + 1) keys) olds
    returned_more returned olds list t same so_many is =
        rw (so_many, is, so_far, add-one) (ap (λ j. slice_set (returned_each step returned x (take i keys) olds) i (returned (after_each step x (take i keys)) j)) key ∙ returned_step returned x keys olds i k within same)

take_long : {X : Type 0} (n : ℕ) (xs : List X) → length xs ≤ n → take n xs ≡ xs
take_long zero [] whole = refl
take_long (suc n) [] whole = refl
take_long zero (x ∷ xs) whole = absurd (omega arith)
take_long (suc n) (x ∷ xs) whole = ap (λ l. x ∷ l) (take_long n xs (omega arith))

module _ {K V : Type 0} where
  column_at : (keys : List K) (values : List V) (i : ℕ) (k : K) (v : V) → i < length keys → length values ≡ length keys → (get_or keys i k, get_or values i v) ≡ get_or (zip keys values) i (k, v)
  column_at [] values i k v within same = absurd (omega arith)
  column_at (a ∷ keys) [] i k v within same = absurd (omega (arith, same))
  column_at (a ∷ keys) (b ∷ values) zero k v within same = refl
  column_at (a ∷ keys) (b ∷ values) (suc i) k v within same = column_at keys values i k v (omega (arith, within)) (omega (arith, same))

  zip_long : (keys : List K) (values : List V) → length values ≡ length keys → length (zip keys values) ≡ length keys
  zip_long [] values same = refl
  zip_long (k ∷ keys) [] same = absurd (omega (arith, same))
  zip_long (k ∷ keys) (v ∷ values) same = omega (arith, zip_long keys values (omega (arith, same)))

  module _ (is_clone : K → K → Type 0) (keys : List K) (values : List V) (same : length values ≡ length keys) where
    -- after one clone more
    pub columns_more : (i : ℕ) (pairs now : List (K × V)) (k : K) (v : V) (copy : K) → i < length keys → k ≡ get_or keys i k → v ≡ get_or values i v
        → AllZip (λ p q. is_clone p.0 q.0 × (q.1 ≡ p.1)) (take i (zip keys values)) pairs → is_clone k copy → now ≡ pairs ++ (copy, v) ∷ [] → AllZip (λ p q. is_clone p.0 q.0 × (q.1 ≡ p.1)) (take (i + 1) (zip keys values)) now
    columns_more i pairs now k v copy within key value so_far clone is =
        rw is (all_zip_more (λ p q. is_clone p.0 q.0 × (q.1 ≡ p.1)) (zip keys values) pairs i (k, v) (copy, v) (omega (arith, within, zip_long keys values same))
        (ap (λ a. (a, v)) key ∙ (ap (λ b. (get_or keys i k, b)) value ∙ column_at keys values i k v within same)) so_far (clone, refl))

    -- all keys are cloned
    pub all_columns : (i : ℕ) (pairs : List (K × V)) → length keys ≤ i → AllZip (λ p q. is_clone p.0 q.0 × (q.1 ≡ p.1)) (take i (zip keys values)) pairs → AreColumns is_clone keys values pairs
    all_columns i pairs whole so_far = rw (take_long i (zip keys values) (omega (arith, whole, zip_long keys values same))) at so_far

itself : (b : Bool) → (if b then true else false) ≡ b
itself true = refl
itself false = refl

-- the keys that are found in a map are those that its keys hold
pub found_held : {K V : Type 0} (cmp : K → K → Ordering) (pairs : List (K × V)) (keys : List K) → found_each cmp pairs keys ≡ map (holds cmp (keys_of pairs)) keys
found_held cmp pairs [] = refl
found_held cmp pairs (k ∷ keys) =
    ap (λ b. b ∷ found_each cmp pairs keys) (itself (has cmp pairs k) ∙ holds_keys cmp pairs k) ∙ ap (λ l. holds cmp (keys_of pairs) k ∷ l) (found_held cmp pairs keys)
