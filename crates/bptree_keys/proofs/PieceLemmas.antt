-- Lemmas about the pieces of a list, and about the values that belong to them.
use Rattle.std.proofs.Common.{◌≡◌, ℕ, zero, suc, ◌+◌, ◌<◌, List, [], ◌∷◌, ◌++◌, length, take, drop, get_or, refl, sym, ap, ◌∙◌, arith, add-one, length-append, append_assoc}
use Rattle.std.specs.declared.cmp.Ordering.{Ordering}
use Rattle.std.specs.declared.cmp.Ordering.TheVariants.{Less}
use Rattle.std.specs.List.{AllZip, AllByRecursion}
use Rattle.std.specs.List.Sorted.{IsStrictlySortedBy}
use Rattle.std.proofs.lemmas.List.{append-nil}
use Rattle.bptree_keys.specs.Pieces.{flatten, piece_at, start_of, AllNonEmpty, ArePieces, PiecesReplaced, PieceSplits, PiecesJoin, LastPartMoves, FirstPartMoves, PiecesPart}

-- ---- properties of each element

module _ {X : Type 0} where
  pub AllByRecursion-append : (P : X → Type 0) (xs ys : List X) → AllByRecursion P xs → AllByRecursion P ys → AllByRecursion P (xs ++ ys)
  AllByRecursion-append P [] ys h k = k
  AllByRecursion-append P (x ∷ xs) ys h k = (h.0, AllByRecursion-append P xs ys h.1 k)

  pub AllByRecursion-left : (P : X → Type 0) (xs ys : List X) → AllByRecursion P (xs ++ ys) → AllByRecursion P xs
  AllByRecursion-left P [] ys h = tt
  AllByRecursion-left P (x ∷ xs) ys h = (h.0, AllByRecursion-left P xs ys h.1)

  pub AllByRecursion-right : (P : X → Type 0) (xs ys : List X) → AllByRecursion P (xs ++ ys) → AllByRecursion P ys
  AllByRecursion-right P [] ys h = h
  AllByRecursion-right P (x ∷ xs) ys h = AllByRecursion-right P xs ys h.1

  pub AllByRecursion-weaker : (P Q : X → Type 0) → ((x : X) → P x → Q x) → (xs : List X) → AllByRecursion P xs → AllByRecursion Q xs
  AllByRecursion-weaker P Q f [] h = tt
  AllByRecursion-weaker P Q f (x ∷ xs) h = (f x h.0, AllByRecursion-weaker P Q f xs h.1)

  pub AllByRecursion-at : (P : X → Type 0) (xs : List X) (i : ℕ) (d : X) → i < length xs → AllByRecursion P xs → P (get_or xs i d)
  AllByRecursion-at P [] i d l h = absurd (omega arith)
  AllByRecursion-at P (x ∷ xs) zero d l h = h.0
  AllByRecursion-at P (x ∷ xs) (suc i) d l h = let small : i < length xs = omega arith in AllByRecursion-at P xs i d small h.1

-- ---- relations of two lists, index by index, as of the summaries of a node and the keys below its children

module _ {A B : Type 0} (R : A → B → Type 0) where
  pub AllZip-take : (n : ℕ) (xs : List A) (ys : List B) → AllZip R xs ys → AllZip R (take n xs) (take n ys)
  AllZip-take zero xs ys h = tt
  AllZip-take (suc n) [] [] h = tt
  AllZip-take (suc n) [] (y ∷ ys) h = absurd h
  AllZip-take (suc n) (x ∷ xs) [] h = absurd h
  AllZip-take (suc n) (x ∷ xs) (y ∷ ys) h = (h.0, AllZip-take n xs ys h.1)

  pub AllZip-append : (xs : List A) (ys : List B) (us : List A) (vs : List B) → AllZip R xs ys → AllZip R us vs → AllZip R (xs ++ us) (ys ++ vs)
  AllZip-append [] [] us vs h k = k
  AllZip-append [] (y ∷ ys) us vs h k = absurd h
  AllZip-append (x ∷ xs) [] us vs h k = absurd h
  AllZip-append (x ∷ xs) (y ∷ ys) us vs h k = (h.0, AllZip-append xs ys us vs h.1 k)

  pub AllZip-length : (xs : List A) (ys : List B) → AllZip R xs ys → length xs ≡ length ys
  AllZip-length [] [] h = refl
  AllZip-length [] (y ∷ ys) h = absurd h
  AllZip-length (x ∷ xs) [] h = absurd h
  AllZip-length (x ∷ xs) (y ∷ ys) h = omega (arith, AllZip-length xs ys h.1)

  pub AllZip-at : (xs : List A) (ys : List B) (i : ℕ) (d : A) (e : B) → AllZip R xs ys → i < length xs → R (get_or xs i d) (get_or ys i e)
  AllZip-at [] [] i d e h l = absurd (omega arith)
  AllZip-at [] (y ∷ ys) i d e h l = absurd h
  AllZip-at (x ∷ xs) [] i d e h l = absurd h
  AllZip-at (x ∷ xs) (y ∷ ys) zero d e h l = h.0
  AllZip-at (x ∷ xs) (y ∷ ys) (suc i) d e h l = let small : i < length xs = omega arith in AllZip-at xs ys i d e h.1 small

  -- a relation of two concatenated lists holds for each of their parts
  pub AllZip-left : (xs : List A) (ys : List B) (us : List A) (vs : List B) → length xs ≡ length ys → AllZip R (xs ++ us) (ys ++ vs) → AllZip R xs ys
  AllZip-left [] [] us vs e h = tt
  AllZip-left [] (y ∷ ys) us vs e h = absurd (omega arith)
  AllZip-left (x ∷ xs) [] us vs e h = absurd (omega arith)
  AllZip-left (x ∷ xs) (y ∷ ys) us vs e h = let t : length xs ≡ length ys = omega arith in (h.0, AllZip-left xs ys us vs t h.1)

  pub AllZip-right : (xs : List A) (ys : List B) (us : List A) (vs : List B) → length xs ≡ length ys → AllZip R (xs ++ us) (ys ++ vs) → AllZip R us vs
  AllZip-right [] [] us vs e h = h
  AllZip-right [] (y ∷ ys) us vs e h = absurd (omega arith)
  AllZip-right (x ∷ xs) [] us vs e h = absurd (omega arith)
  AllZip-right (x ∷ xs) (y ∷ ys) us vs e h = let t : length xs ≡ length ys = omega arith in AllZip-right xs ys us vs t h.1

-- ---- the lists, one after another

module _ {X : Type 0} where
  pub flatten-append : (ps qs : List (List X)) → flatten (ps ++ qs) ≡ flatten ps ++ flatten qs
  flatten-append [] qs = refl
  flatten-append (p ∷ ps) qs = ap (λ t. p ++ t) (flatten-append ps qs) ∙ sym (append_assoc p (flatten ps) (flatten qs))

  -- the whole does not change when the pieces in the middle are replaced by others of the same elements
  pub flatten-regrouped : (front old new back : List (List X)) → flatten new ≡ flatten old → flatten (front ++ (new ++ back)) ≡ flatten (front ++ (old ++ back))
  flatten-regrouped front old new back e =
      rw (flatten-append front (new ++ back), flatten-append front (old ++ back), flatten-append new back, flatten-append old back, e) refl

  -- the whole is the elements before a piece, the piece, and the elements after the piece
  pub flatten-cut : (pieces : List (List X)) (i : ℕ) → i < length pieces → flatten pieces ≡ flatten (take i pieces) ++ (piece_at pieces i ++ flatten (drop (suc i) pieces))
  flatten-cut [] i h = absurd (omega arith)
  flatten-cut (p ∷ ps) zero h = refl
  flatten-cut (p ∷ ps) (suc i) h = let small : i < length ps = omega arith in ap (λ t. p ++ t) (flatten-cut ps i small) ∙ sym (append_assoc p (flatten (take i ps)) _)

  -- the first i + 1 pieces are the first i pieces and the piece at index i
  pub flatten-take_more : (pieces : List (List X)) (i : ℕ) → i < length pieces → flatten (take (i + 1) pieces) ≡ flatten (take i pieces) ++ piece_at pieces i
  flatten-take_more [] i h = absurd (omega arith)
  flatten-take_more (p ∷ ps) zero h = append-nil p
  flatten-take_more (p ∷ ps) (suc i) h = let small : i < length ps = omega arith in rw add-one (ap (λ t. p ++ t) (rw add-one at (flatten-take_more ps i small)) ∙ sym (append_assoc p (flatten (take i ps)) _))

  -- an index in a piece, counted from the start of the piece, is an index in the whole
  pub start_of-below : (pieces : List (List X)) (i j : ℕ) → i < length pieces → j < length (piece_at pieces i) → start_of pieces i + j < length (flatten pieces)
  start_of-below pieces i j h l =
      let a = flatten (take i pieces) in
      let b = piece_at pieces i in
      let c = flatten (drop (suc i) pieces) in
      rw (flatten-cut pieces i h) (omega (arith, length-append a (b ++ c), length-append b c, l))

  -- the parts of a strictly ascending list are strictly ascending
  pub sorted_left : (c : X → X → Ordering) (xs ys : List X) → IsStrictlySortedBy c (xs ++ ys) → IsStrictlySortedBy c xs
  unfolding IsStrictlySortedBy
  sorted_left c [] ys h = tt
  sorted_left c (x ∷ xs) ys h = (AllByRecursion-left (λ y. c x y ≡ Less) xs ys h.0, sorted_left c xs ys h.1)

  pub sorted_right : (c : X → X → Ordering) (xs ys : List X) → IsStrictlySortedBy c (xs ++ ys) → IsStrictlySortedBy c ys
  unfolding IsStrictlySortedBy
  sorted_right c [] ys h = h
  sorted_right c (x ∷ xs) ys h = sorted_right c xs ys h.1

-- ---- lists of pieces, some of which change

module _ {K : Type 0} (cmp : K → K → Ordering) where
  pub pieces_replaced : PiecesReplaced cmp
  pieces_replaced front old new back a n s l =
      let others = AllByRecursion-right (λ p. 0 < length p) old back (AllByRecursion-right (λ p. 0 < length p) front (old ++ back) a.nonempty) in
      record {
        nonempty = AllByRecursion-append (λ p. 0 < length p) front (new ++ back) (AllByRecursion-left (λ p. 0 < length p) front (old ++ back) a.nonempty) (AllByRecursion-append (λ p. 0 < length p) new back n others);
        ascending = s;
        fits = l;
      }

  -- pieces stay pieces when some are replaced by others of the same elements
  pub pieces_regrouped : (front old new back : List (List K)) → flatten new ≡ flatten old → AllNonEmpty new → ArePieces cmp (front ++ (old ++ back)) → ArePieces cmp (front ++ (new ++ back))
  pieces_regrouped front old new back e n a =
      let same = flatten-regrouped front old new back e in
      pieces_replaced front old new back a n (rw same a.ascending) (rw same a.fits)

  pub piece_splits : PieceSplits cmp
  piece_splits front p q back h k a =
      pieces_regrouped front ((p ++ q) ∷ []) (p ∷ q ∷ []) back (sym (append_assoc p q [])) (h, (k, tt)) a

  pub pieces_join : PiecesJoin cmp
  pieces_join front p q back a =
      let long : 0 < length p = (AllByRecursion-right (λ t. 0 < length t) front (p ∷ q ∷ back) a.nonempty).0 in
      pieces_regrouped front (p ∷ q ∷ []) ((p ++ q) ∷ []) back (append_assoc p q []) (omega (arith, length-append p q, long), tt) a

  pub last_part_moves : LastPartMoves cmp
  last_part_moves front p part q back h a =
      let both = AllByRecursion-right (λ t. 0 < length t) front ((p ++ part) ∷ q ∷ back) a.nonempty in
      let long : 0 < length q = both.1.0 in
      let same : flatten (p ∷ (part ++ q) ∷ []) ≡ flatten ((p ++ part) ∷ q ∷ []) = simp append_assoc in
      pieces_regrouped front ((p ++ part) ∷ q ∷ []) (p ∷ (part ++ q) ∷ []) back same (h, (omega (arith, length-append part q, long), tt)) a

  pub first_part_moves : FirstPartMoves cmp
  first_part_moves front p part q back h a =
      let both = AllByRecursion-right (λ t. 0 < length t) front (p ∷ (part ++ q) ∷ back) a.nonempty in
      let long : 0 < length p = both.0 in
      let same : flatten ((p ++ part) ∷ q ∷ []) ≡ flatten (p ∷ (part ++ q) ∷ []) = simp append_assoc in
      pieces_regrouped front (p ∷ (part ++ q) ∷ []) ((p ++ part) ∷ q ∷ []) back same (omega (arith, length-append p part, long), (h, tt)) a

  pub pieces_part : PiecesPart cmp
  pieces_part left right a =
      let whole = rw (flatten-append left right) at a.ascending in
      let long = rw (flatten-append left right) at a.fits in (
        record {
          nonempty = AllByRecursion-left (λ p. 0 < length p) left right a.nonempty;
          ascending = sorted_left cmp (flatten left) (flatten right) whole;
          fits = omega (arith, length-append (flatten left) (flatten right), long);
        },
        record {
          nonempty = AllByRecursion-right (λ p. 0 < length p) left right a.nonempty;
          ascending = sorted_right cmp (flatten left) (flatten right) whole;
          fits = omega (arith, length-append (flatten left) (flatten right), long);
        },
      )

-- the laws of a contract
pub ruleset laws = (pieces_replaced, piece_splits, pieces_join, last_part_moves, first_part_moves, pieces_part)
