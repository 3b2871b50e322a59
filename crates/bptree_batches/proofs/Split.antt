-- Properties of the members of two lists at the first indexes, and at the later ones.
use Rattle.std.proofs.Common.{◌≡◌, ℕ, zero, suc, ◌+◌, ◌<◌, ◌≤◌, List, [], ◌∷◌, length, get_or, slice_set, refl, arith, add-one}
use Rattle.std.specs.List.{AllZip}
use Rattle.bptree_batches.specs.Ways.{AllSplit}

module _ {X Y : Type 0} (P Q : X → Y → Type 0) where
  pub split_none : (xs : List X) (ys : List Y) → AllZip Q xs ys → AllSplit P Q 0 xs ys
  split_none [] [] all = tt
  split_none [] (y ∷ ys) all = absurd all
  split_none (x ∷ xs) [] all = absurd all
  split_none (x ∷ xs) (y ∷ ys) all = (all.0, split_none xs ys all.1)

  pub split_all : (n : ℕ) (xs : List X) (ys : List Y) → length xs ≤ n → AllSplit P Q n xs ys → AllZip P xs ys
  split_all n [] [] end all = tt
  split_all n [] (y ∷ ys) end all = absurd all
  split_all n (x ∷ xs) [] end all = absurd all
  split_all zero (x ∷ xs) (y ∷ ys) end all = absurd (omega arith)
  split_all (suc n) (x ∷ xs) (y ∷ ys) end all = (all.0, split_all n xs ys (omega arith) all.1)

  pub split_at : (n : ℕ) (xs : List X) (ys : List Y) (x : X) (y : Y) → n < length xs → AllSplit P Q n xs ys → Q (get_or xs n x) (get_or ys n y)
  split_at n [] ys x y within all = absurd (omega arith)
  split_at n (a ∷ xs) [] x y within all = absurd all
  split_at zero (a ∷ xs) (b ∷ ys) x y within all = all.0
  split_at (suc n) (a ∷ xs) (b ∷ ys) x y within all = split_at n xs ys x y (omega arith) all.1

  split_next : (n : ℕ) (xs : List X) (ys : List Y) (x : X) (y : Y) → n < length xs → AllSplit P Q n xs ys → P (get_or xs n x) y → AllSplit P Q (suc n) xs (slice_set ys n y)
  split_next n [] ys x y within all new = absurd (omega arith)
  split_next n (a ∷ xs) [] x y within all new = absurd all
  split_next zero (a ∷ xs) (b ∷ ys) x y within all new = (new, all.1)
  split_next (suc n) (a ∷ xs) (b ∷ ys) x y within all new = (all.0, split_next n xs ys x y (omega arith) all.1 new)

  set_next : (n : ℕ) (xs : List X) (ys : List Y) (y : Y) → n < length xs → AllSplit P Q n xs ys → ((x : X) → P x y) → AllSplit P Q (suc n) xs (slice_set ys n y)
  set_next n [] ys y within all new = absurd (omega arith)
  set_next n (a ∷ xs) [] y within all new = absurd all
  set_next zero (a ∷ xs) (b ∷ ys) y within all new = (new a, all.1)
  set_next (suc n) (a ∷ xs) (b ∷ ys) y within all new = (all.0, set_next n xs ys y (omega arith) all.1 new)

  -- one more index, at a member for which P holds with each member of the first list
  pub split_set : (n : ℕ) (xs : List X) (ys : List Y) (y : Y) → n < length xs → AllSplit P Q n xs ys → ((x : X) → P x y) → AllSplit P Q (n + 1) xs (slice_set ys n y)
  split_set n xs ys y within all new = rw add-one (set_next n xs ys y within all new)

  -- one more index
  pub split_more : (n : ℕ) (xs : List X) (ys : List Y) (x : X) (y : Y) → n < length xs → AllSplit P Q n xs ys → P (get_or xs n x) y → AllSplit P Q (n + 1) xs (slice_set ys n y)
  split_more n xs ys x y within all new = rw add-one (split_next n xs ys x y within all new)

-- if nothing is required of the later indexes, any two lists of one length split at index 0
pub split_start : {X Y : Type 0} (P : X → Y → Type 0) (xs : List X) (ys : List Y) → length ys ≡ length xs → AllSplit P (λ x y. Unit {0}) 0 xs ys
split_start P [] [] same = tt
split_start P [] (y ∷ ys) same = absurd (omega (arith, same))
split_start P (x ∷ xs) [] same = absurd (omega (arith, same))
split_start P (x ∷ xs) (y ∷ ys) same = (tt, split_start P xs ys (omega (arith, same)))

pub zip_weaker : {X Y : Type 0} (P Q : X → Y → Type 0) → ((x : X) (y : Y) → P x y → Q x y) → (xs : List X) (ys : List Y) → AllZip P xs ys → AllZip Q xs ys
zip_weaker P Q each [] [] all = tt
zip_weaker P Q each [] (y ∷ ys) all = absurd all
zip_weaker P Q each (x ∷ xs) [] all = absurd all
zip_weaker P Q each (x ∷ xs) (y ∷ ys) all = (each x y all.0, zip_weaker P Q each xs ys all.1)

pub zip_at : {X Y : Type 0} (P : X → Y → Type 0) (n : ℕ) (xs : List X) (ys : List Y) (x : X) (y : Y) → n < length xs → AllZip P xs ys → P (get_or xs n x) (get_or ys n y)
zip_at P n [] ys x y within all = absurd (omega arith)
zip_at P n (a ∷ xs) [] x y within all = absurd all
zip_at P zero (a ∷ xs) (b ∷ ys) x y within all = all.0
zip_at P (suc n) (a ∷ xs) (b ∷ ys) x y within all = zip_at P n xs ys x y (omega arith) all.1

pub zip_length : {X Y : Type 0} (P : X → Y → Type 0) (xs : List X) (ys : List Y) → AllZip P xs ys → length ys ≡ length xs
zip_length P [] [] all = refl
zip_length P [] (y ∷ ys) all = absurd all
zip_length P (x ∷ xs) [] all = absurd all
zip_length P (x ∷ xs) (y ∷ ys) all = omega (arith, zip_length P xs ys all.1)
