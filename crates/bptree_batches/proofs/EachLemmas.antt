-- Results for the first keys of many.
use Rattle.std.proofs.Common.{◌≡◌, ℕ, zero, suc, ◌+◌, ◌<◌, ◌≤◌, List, [], ◌∷◌, ◌++◌, length, get_or, take, drop, slice_set, map, refl, sym, ap, ◌∙◌, arith, add-one, zero-add, suc-add}
use borrow.Rule.Slice.PartMut.{put_mid}
use Rattle.bptree_batches.specs.Each.{result_each}

module _ {K X : Type 0} (outcome : K → X → X) where
  step_by : (keys : List K) (olds : List X) (i : ℕ) (k : K) (x : X) → i < length keys → length olds ≡ length keys → ((old : X) → x ≡ outcome (get_or keys i k) old)
      → slice_set (result_each outcome (take i keys) olds) i x ≡ result_each outcome (take (suc i) keys) olds
  step_by [] olds i k x within long outcomes = absurd (omega arith)
  step_by (a ∷ keys) [] i k x within long outcomes = absurd (omega (arith, long))
  step_by (a ∷ keys) (o ∷ olds) zero k x within long outcomes = ap (λ y. y ∷ olds) (outcomes o)
  step_by (a ∷ keys) (o ∷ olds) (suc i) k x within long outcomes = ap (λ l. outcome a o ∷ l) (step_by keys olds i k x (omega (arith, within)) (omega (arith, long)) outcomes)

  stay_by : (keys : List K) (olds : List X) (i : ℕ) (k : K) → i < length keys → length olds ≡ length keys → ((old : X) → outcome (get_or keys i k) old ≡ old)
      → result_each outcome (take i keys) olds ≡ result_each outcome (take (suc i) keys) olds
  stay_by [] olds i k within long stays = absurd (omega arith)
  stay_by (a ∷ keys) [] i k within long stays = absurd (omega (arith, long))
  stay_by (a ∷ keys) (o ∷ olds) zero k within long stays = ap (λ y. y ∷ olds) (sym (stays o))
  stay_by (a ∷ keys) (o ∷ olds) (suc i) k within long stays = ap (λ l. outcome a o ∷ l) (stay_by keys olds i k (omega (arith, within)) (omega (arith, long)) stays)

  -- one more result, which is written or is the old value
  pub returned_more : (keys : List K) (olds now : List X) (i : ℕ) (k : K) (x : X) → now ≡ result_each outcome (take i keys) olds → i < length keys → length olds ≡ length keys → ((old : X) → x ≡ outcome (get_or keys i k) old)
      → slice_set now i x ≡ result_each outcome (take (i + 1) keys) olds
  returned_more keys olds now i k x so_far within long outcomes = rw (so_far, add-one) (step_by keys olds i k x within long outcomes)

  pub stayed_more : (keys : List K) (olds now : List X) (i : ℕ) (k : K) → now ≡ result_each outcome (take i keys) olds → i < length keys → length olds ≡ length keys → ((old : X) → outcome (get_or keys i k) old ≡ old)
      → now ≡ result_each outcome (take (i + 1) keys) olds
  stayed_more keys olds now i k so_far within long stays = so_far ∙ rw add-one (stay_by keys olds i k within long stays)

  pub length-result_each : (keys : List K) (olds : List X) → length keys ≤ length olds → length (result_each outcome keys olds) ≡ length olds
  length-result_each [] olds fits = refl
  length-result_each (k ∷ keys) [] fits = absurd (omega arith)
  length-result_each (k ∷ keys) (o ∷ olds) fits = omega (arith, length-result_each keys olds (omega arith))

  front_returned : (k : ℕ) (keys : List K) (olds : List X) → k ≤ length keys → length olds ≡ length keys → result_each outcome (take k keys) (take k olds) ++ drop k olds ≡ result_each outcome (take k keys) olds
  front_returned zero keys olds within long = refl
  front_returned (suc k) [] olds within long = absurd (omega arith)
  front_returned (suc k) (a ∷ keys) [] within long = absurd (omega (arith, long))
  front_returned (suc k) (a ∷ keys) (o ∷ olds) within long = ap (λ l. outcome a o ∷ l) (front_returned k keys olds (omega arith) (omega (arith, long)))

  part_returned : (i k : ℕ) (keys : List K) (olds : List X) → i + k ≤ length keys → length olds ≡ length keys
      → put_mid i k (result_each outcome (take i keys) olds) (result_each outcome (take k (drop i keys)) (take k (drop i (result_each outcome (take i keys) olds)))) ≡ result_each outcome (take (i + k) keys) olds
  part_returned zero k keys olds within long = rw zero-add (front_returned k keys olds (omega arith) long)
  part_returned (suc i) k [] olds within long = absurd (omega arith)
  part_returned (suc i) k (a ∷ keys) [] within long = absurd (omega (arith, long))
  part_returned (suc i) k (a ∷ keys) (o ∷ olds) within long = rw suc-add (ap (λ l. outcome a o ∷ l) (part_returned i k keys olds (omega (arith, within)) (omega (arith, long))))

  -- the results of one more group
  pub group_more : (keys : List K) (olds now part : List X) (i k j : ℕ) → now ≡ result_each outcome (take i keys) olds → i + k ≡ j → j ≤ length keys → length olds ≡ length keys
      → part ≡ result_each outcome (take k (drop i keys)) (take k (drop i now)) → put_mid i k now part ≡ result_each outcome (take j keys) olds
  group_more keys olds now part i k j so_far end within long outcomes = rw (outcomes, so_far, ← end) (part_returned i k keys olds (omega (arith, end)) long)

same_take : {X Y : Type 0} (k : ℕ) (xs : List X) (ys : List Y) → length xs ≡ length ys → length (take k xs) ≡ length (take k ys)
same_take zero xs ys same = refl
same_take (suc k) [] [] same = refl
same_take (suc k) [] (y ∷ ys) same = absurd (omega (arith, same))
same_take (suc k) (x ∷ xs) [] same = absurd (omega (arith, same))
same_take (suc k) (x ∷ xs) (y ∷ ys) same = omega (arith, same_take k xs ys (omega (arith, same)))

same_drop : {X Y : Type 0} (i : ℕ) (xs : List X) (ys : List Y) → length xs ≡ length ys → length (drop i xs) ≡ length (drop i ys)
same_drop zero xs ys same = same
same_drop (suc i) [] [] same = refl
same_drop (suc i) [] (y ∷ ys) same = absurd (omega (arith, same))
same_drop (suc i) (x ∷ xs) [] same = absurd (omega (arith, same))
same_drop (suc i) (x ∷ xs) (y ∷ ys) same = same_drop i xs ys (omega (arith, same))

-- results that do not depend on the old values
pub result_each_map : {K X : Type 0} (f : K → X) (keys : List K) (olds : List X) → length olds ≡ length keys → result_each (λ k old. f k) keys olds ≡ map f keys
result_each_map f [] [] same = refl
result_each_map f [] (o ∷ olds) same = absurd (omega (arith, same))
result_each_map f (k ∷ keys) [] same = absurd (omega (arith, same))
result_each_map f (k ∷ keys) (o ∷ olds) same = ap (λ l. f k ∷ l) (result_each_map f keys olds (omega (arith, same)))

pub mapped_group_more : {K X : Type 0} (f : K → X) (keys : List K) (olds now part : List X) (i k j : ℕ) → now ≡ result_each (λ k old. f k) (take i keys) olds → i + k ≡ j → j ≤ length keys
    → length olds ≡ length keys → length now ≡ length keys → part ≡ map f (take k (drop i keys)) → put_mid i k now part ≡ result_each (λ k old. f k) (take j keys) olds
mapped_group_more f keys olds now part i k j so_far end within long same outcomes =
    group_more (λ k old. f k) keys olds now part i k j so_far end within long
    (outcomes ∙ sym (result_each_map f (take k (drop i keys)) (take k (drop i now)) (same_take k (drop i now) (drop i keys) (same_drop i now keys same))))

take_all : {X : Type 0} (n : ℕ) (xs : List X) → length xs ≤ n → take n xs ≡ xs
take_all zero [] whole = refl
take_all (suc n) [] whole = refl
take_all zero (x ∷ xs) whole = absurd (omega arith)
take_all (suc n) (x ∷ xs) whole = ap (λ l. x ∷ l) (take_all n xs (omega arith))

-- the results of all keys
pub all_returned : {K X : Type 0} (f : K → X) (keys : List K) (olds now : List X) (n : ℕ) → now ≡ result_each (λ k old. f k) (take n keys) olds → length keys ≤ n → length olds ≡ length keys → now ≡ map f keys
all_returned f keys olds now n so_far end same = so_far ∙ (rw (take_all n keys end) (result_each_map f keys olds same))
