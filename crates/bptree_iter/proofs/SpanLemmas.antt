-- Steps from the two ends of a span of leaves.
use Rattle.std.proofs.Common.{◌≡◌, ℕ, zero, suc, ◌+◌, ◌-◌, ◌<◌, ◌≤◌, List, [], ◌∷◌, ◌++◌, length, take, drop, Option, Some, None, IsSome, slice_get, inl, inr, refl, sym, subst, ◌∙◌, ap, arith, length-append, length-drop, append_assoc, take-append-drop, add-one}
use Rattle.std.proofs.Math.Nat.{eq-or-lt_of_le}
use Rattle.std.proofs.Math.Seq.{take-append_seam, take-append-add, take-length, take-nil}
use Rattle.std.proofs.lemmas.List.{drop-append-le, append-nil, length-take-le, take_all}
use Rattle.std.proofs.Math.ListN.{drop_of_length-le}
use Rattle.bptree_keys.specs.declared.node_id.LeafNodeId.{LeafNodeId}
use Rattle.bptree_nodes.specs.Leaf.{Leaf}
use Rattle.std.proofs.lemmas.Bool.Decides.{eqb_tells}
use Rattle.bptree_iter.specs.declared.part.PartLen.{PartLen}
use Rattle.bptree_iter.specs.declared.part.PartLen.TheVariants.{Exact, Open, Cut}
use Rattle.bptree_iter.specs.Span.{IsSpan, AreApart, pairs_from, pairs_left, pairs_upto, first_between, Reports, IsBetween, IsEndIn, CanGoOn, IsFrontIndex, CanGoBack, IsBackIndex}

-- the element at an index of a list, the list from there on, and the list up to it
pub record At {A : Type 0} (xs : List A) (i : ℕ) : Type 0 where
  pub item : A
  pub got : slice_get xs i ≡ Some item
  pub rest : drop i xs ≡ item ∷ drop (i + 1) xs
  pub upto : take (i + 1) xs ≡ take i xs ++ item ∷ []

pub at : {A : Type 0} (xs : List A) (i : ℕ) → i < length xs → At xs i
at [] i h = absurd (omega arith)
at (x ∷ xs) zero h = record { item = x; got = refl; rest = refl; upto = refl }
at (x ∷ xs) (suc i) h =
    let r = at xs i (omega arith) in
    let rest : drop i xs ≡ r.item ∷ drop (suc i) xs = rw add-one at r.rest in
    let upto : take (suc i) xs ≡ take i xs ++ r.item ∷ [] = rw add-one at r.upto in
    record { item = r.item; got = r.got; rest = rw add-one rest; upto = rw add-one (ap (λ ys. x ∷ ys) upto) }

pub slice_get-take : {A : Type 0} (n : ℕ) (xs : List A) (i : ℕ) → i < n → slice_get (take n xs) i ≡ slice_get xs i
slice_get-take zero xs i h = absurd (omega arith)
slice_get-take (suc n) [] i h = refl
slice_get-take (suc n) (x ∷ xs) zero h = refl
slice_get-take (suc n) (x ∷ xs) (suc i) h = slice_get-take n xs i (omega arith)

-- a part of a list is the start of the list from its first index on
pub take-part : {A : Type 0} (ps ws : List A) (from to : ℕ) → from ≤ to → to ≤ length ps → take (length (drop from (take to ps))) (drop from ps ++ ws) ≡ drop from (take to ps)
take-part ps ws from to h g =
    let within : from ≤ length (take to ps) = omega (arith, length-take-le to ps g) in
    let e : drop from ps ≡ drop from (take to ps) ++ drop to ps =
    ap (drop from) (sym (take-append-drop to ps)) ∙ drop-append-le from (take to ps) (drop to ps) within in
    rw (e, append_assoc, take-append_seam)

-- two lists with the same start agree in their first n elements if the remainders do
take_alike : {A : Type 0} (ps us vs : List A) (n : ℕ) → take (n - length ps) us ≡ take (n - length ps) vs → take n (ps ++ us) ≡ take n (ps ++ vs)
take_alike [] us vs n h = let e : n - 0 ≡ n = omega arith in rw e at h
take_alike (p ∷ ps) us vs zero h = refl
take_alike (p ∷ ps) us vs (suc n) h =
    let e : suc n - suc (length ps) ≡ n - length ps = omega arith in
    ap (λ zs. p ∷ zs) (take_alike ps us vs n (rw e at h))

take_first : {A : Type 0} (n : ℕ) (x : A) (xs : List A) → 0 < n → take n (x ∷ xs) ≡ x ∷ take (n - 1) xs
take_first zero x xs h = absurd (omega arith)
take_first (suc n) x xs h = let e : suc n - 1 ≡ n = omega arith in rw e refl

pub shorter_by_last : {A : Type 0} (xs ys : List A) (y : A) → xs ≡ ys ++ y ∷ [] → length ys < length xs
shorter_by_last xs ys y e = omega (arith, ap length e, length-append ys (y ∷ []))

-- two ids of leaves are equal if their numbers are
pub same_id : (a b : LeafNodeId) → a.0 ≡ b.0 → a ≡ b
same_id a b e = λ i. record { 0 = e i }

zero_le : (n : ℕ) → 0 ≤ n
zero_le n = omega arith

pub some_value : {A : Type 0} (o : Option A) → IsSome o → (x : A) × (o ≡ Some x)
some_value None h = absurd (cc h)
some_value (Some x) h = (x, refl)

module _ {K V : Type 0} (leaves : LeafNodeId → Option (Leaf K V)) where
  -- a span from the start of a leaf has at least as many pairs as it passes leaves
  pub length_ids_from_start : (front : LeafNodeId) (ids : List LeafNodeId) (back : LeafNodeId) (to : ℕ) (xs : List (K × V)) → IsSpan leaves front 0 ids back to xs → length ids ≤ length xs
  length_ids_from_start front [] back to xs h = omega arith
  length_ids_from_start front (id ∷ ids) back to xs (leaf, after, l, n, la, p, fl, pos, ys, e, rest) =
      let more = length_ids_from_start id ids back to ys rest in
      omega (arith, ap length e, length-append leaf.pairs ys)

  pub length_ids : (front : LeafNodeId) (from : ℕ) (ids : List LeafNodeId) (back : LeafNodeId) (to : ℕ) (xs : List (K × V)) → IsSpan leaves front from ids back to xs → length ids ≤ length xs + 1
  length_ids front from [] back to xs h = omega arith
  length_ids front from (id ∷ ids) back to xs (leaf, after, l, n, la, p, fl, pos, ys, e, rest) =
      let more = length_ids_from_start id ids back to ys rest in
      omega (arith, ap length e, length-append (drop from leaf.pairs) ys)

  -- walking along the leaves gives the pairs of the span first
  pub take-pairs_from : (count : ℕ) (front : LeafNodeId) (from : ℕ) (ids : List LeafNodeId) (back : LeafNodeId) (to : ℕ) (xs : List (K × V)) → length ids < count → IsSpan leaves front from ids back to xs → take (length xs) (pairs_from leaves count front from) ≡ xs
  take-pairs_from zero front from ids back to xs h s = absurd (omega arith)
  take-pairs_from (suc count) front from [] back to xs h (leaf, l, b, ft, tl, e) =
      rw (e, l, take-part)
  take-pairs_from (suc count) front from (id ∷ ids) back to xs h (leaf, after, l, n, la, p, fl, pos, ys, e, rest) =
      let more = take-pairs_from count id 0 ids back to ys (omega arith) rest in
      rw (e, l, n, length-append, take-append-add, more)

  -- the pairs that an iterator between two positions has left are those of the span
  pub pairs_left-span : (front : LeafNodeId) (from : ℕ) (ids : List LeafNodeId) (back : LeafNodeId) (to : ℕ) (xs : List (K × V)) (len : ℕ) → IsSpan leaves front from ids back to xs → len ≡ length xs → pairs_left leaves front from len ≡ xs
  pairs_left-span front from ids back to xs len h e =
      let few = length_ids front from ids back to xs h in
      rw e (take-pairs_from (length xs + 2) front from ids back to xs (omega arith) h)

  pub IsSome-front : (front : LeafNodeId) (from : ℕ) (ids : List LeafNodeId) (back : LeafNodeId) (to : ℕ) (xs : List (K × V)) → IsSpan leaves front from ids back to xs → IsSome (leaves front)
  IsSome-front front from [] back to xs (leaf, l, b, ft, tl, e) = rw l
  IsSome-front front from (id ∷ ids) back to xs (leaf, after, l, n, la, p, fl, pos, ys, e, rest) = rw l

  pub IsSome-back : (front : LeafNodeId) (from : ℕ) (ids : List LeafNodeId) (back : LeafNodeId) (to : ℕ) (xs : List (K × V)) → IsSpan leaves front from ids back to xs → IsSome (leaves back)
  IsSome-back front from [] back to xs (leaf, l, b, ft, tl, e) = rw (b, l)
  IsSome-back front from (id ∷ ids) back to xs (leaf, after, l, n, la, p, fl, pos, ys, e, rest) = IsSome-back id 0 ids back to ys rest

  -- the pair at the front, and the span without it
  pub record FrontPair (leaf : Leaf K V) (front : LeafNodeId) (from : ℕ) (ids : List LeafNodeId) (back : LeafNodeId) (to : ℕ) (xs : List (K × V)) : Type 0 where
    pub pair : K × V
    pub others : List (K × V)
    pub got : slice_get leaf.pairs from ≡ Some pair
    pub first : xs ≡ pair ∷ others
    pub span : IsSpan leaves front (from + 1) ids back to others

  pub front_here : (leaf : Leaf K V) (front : LeafNodeId) (from : ℕ) (ids : List LeafNodeId) (back : LeafNodeId) (to : ℕ) (xs : List (K × V)) → IsSpan leaves front from ids back to xs → leaves front ≡ Some leaf → from < length leaf.pairs → 0 < length xs → FrontPair leaf front from ids back to xs
  front_here leaf front from [] back to xs (leaf', l, b, ft, tl, e) is here some =
      let same : leaf' ≡ leaf = cc (l, is) in
      let within : to ≤ length leaf.pairs = rw same at tl in
      let taken : length (take to leaf.pairs) ≡ to = length-take-le to leaf.pairs within in
      let e' : xs ≡ drop from (take to leaf.pairs) = rw same at e in
      let before : from < to = omega (arith, ap length e', length-drop from (take to leaf.pairs)) in
      let got = at (take to leaf.pairs) from (omega arith) in
      record {
        pair = got.item;
        others = drop (from + 1) (take to leaf.pairs);
        got = sym (slice_get-take to leaf.pairs from before) ∙ got.got;
        first = e' ∙ got.rest;
        span = (leaf, is, b, omega arith, within, refl);
      }
  front_here leaf front from (id ∷ ids) back to xs (leaf', after, l, n, la, p, fl, pos, ys, e, rest) is here some =
      let same : leaf' ≡ leaf = cc (l, is) in
      let got = at leaf.pairs from here in
      record {
        pair = got.item;
        others = drop (from + 1) leaf.pairs ++ ys;
        got = got.got;
        first = rw (e, same, got.rest);
        span = (leaf, after, is, rw same at n, la, p, omega arith, omega arith, ys, refl, rest);
      }

  -- the front moves to the next leaf
  pub record FrontLeaf (leaf : Leaf K V) (back : LeafNodeId) (to : ℕ) (xs : List (K × V)) : Type 0 where
    pub id : LeafNodeId
    pub after : Leaf K V
    pub ids : List LeafNodeId
    pub next : leaf.next ≡ Some id
    pub found : leaves id ≡ Some after
    pub some : (id ≡ back → ⊥) → 0 < length after.pairs
    pub span : IsSpan leaves id 0 ids back to xs
    pub apart : AreApart id ids back

  some_at_front : (front : LeafNodeId) (ids : List LeafNodeId) (back : LeafNodeId) (to : ℕ) (xs : List (K × V)) (leaf : Leaf K V) → IsSpan leaves front 0 ids back to xs → leaves front ≡ Some leaf → (front ≡ back → ⊥) → 0 < length leaf.pairs
  some_at_front front [] back to xs leaf (leaf', l, b, ft, tl, e) is other = absurd (other (sym b))
  some_at_front front (id ∷ ids) back to xs leaf (leaf', after, l, n, la, p, fl, pos, ys, e, rest) is other =
      let same : leaf' ≡ leaf = cc (l, is) in
      rw (← same) pos

  pub front_over : (leaf : Leaf K V) (front : LeafNodeId) (from : ℕ) (ids : List LeafNodeId) (back : LeafNodeId) (to : ℕ) (xs : List (K × V)) → IsSpan leaves front from ids back to xs → AreApart front ids back → leaves front ≡ Some leaf → from ≡ length leaf.pairs → (front ≡ back → ⊥) → FrontLeaf leaf back to xs
  front_over leaf front from [] back to xs (leaf', l, b, ft, tl, e) a is end other = absurd (other (sym b))
  front_over leaf front from (id ∷ ids) back to xs (leaf', after, l, n, la, p, fl, pos, ys, e, rest) a is end other =
      let same : leaf' ≡ leaf = cc (l, is) in
      let none : drop from leaf'.pairs ≡ [] = drop_of_length-le leaf'.pairs (omega (arith, ap (λ (x : Leaf K V). length x.pairs) same)) in
      let e' : xs ≡ ys = rw none at e in
      record {
        id = id;
        after = after;
        ids = ids;
        next = rw same at n;
        found = la;
        some = some_at_front id ids back to ys after rest la;
        span = rw e' rest;
        apart = a.1;
      }

  -- a span that begins at the start of a leaf and ends after a pair has a pair
  pub some_before_back : (front : LeafNodeId) (ids : List LeafNodeId) (back : LeafNodeId) (to : ℕ) (xs : List (K × V)) → IsSpan leaves front 0 ids back (to + 1) xs → 0 < length xs
  some_before_back front [] back to xs (leaf, l, b, ft, tl, e) = omega (arith, ap length e, length-take-le (to + 1) leaf.pairs tl)
  some_before_back front (id ∷ ids) back to xs (leaf, after, l, n, la, p, fl, pos, ys, e, rest) = omega (arith, ap length e, length-append leaf.pairs ys)

  -- the pair at the back, and the span without it
  pub record BackPair (leaf : Leaf K V) (front : LeafNodeId) (from : ℕ) (ids : List LeafNodeId) (back : LeafNodeId) (to : ℕ) (xs : List (K × V)) : Type 0 where
    pub pair : K × V
    pub others : List (K × V)
    pub got : slice_get leaf.pairs to ≡ Some pair
    pub last : xs ≡ others ++ pair ∷ []
    pub span : IsSpan leaves front from ids back to others

  pub back_here : (leaf : Leaf K V) (front : LeafNodeId) (from : ℕ) (ids : List LeafNodeId) (back : LeafNodeId) (to : ℕ) (xs : List (K × V)) → IsSpan leaves front from ids back (to + 1) xs → leaves back ≡ Some leaf → 0 < length xs → BackPair leaf front from ids back to xs
  back_here leaf front from [] back to xs (leaf', l, b, ft, tl, e) is some =
      let same : leaf' ≡ leaf = cc (l, b, is) in
      let within : to < length leaf.pairs = omega (arith, tl, ap (λ (x : Leaf K V). length x.pairs) same) in
      let e' : xs ≡ drop from (take (to + 1) leaf.pairs) = rw same at e in
      let taken : length (take (to + 1) leaf.pairs) ≡ to + 1 = length-take-le (to + 1) leaf.pairs (omega arith) in
      let before : from ≤ to = omega (arith, ap length e', length-drop from (take (to + 1) leaf.pairs)) in
      let got = at leaf.pairs to within in
      record {
        pair = got.item;
        others = drop from (take to leaf.pairs);
        got = got.got;
        last = rw (e', got.upto) (drop-append-le from (take to leaf.pairs) (got.item ∷ []) (omega (arith, length-take-le to leaf.pairs (omega arith))));
        span = (leaf, rw b at is, b, before, omega arith, refl);
      }
  back_here leaf front from (id ∷ ids) back to xs (leaf', after, l, n, la, p, fl, pos, ys, e, rest) is some =
      let got = back_here leaf id 0 ids back to ys rest is (some_before_back id ids back to ys rest) in
      record {
        pair = got.pair;
        others = drop from leaf'.pairs ++ got.others;
        got = got.got;
        last = e ∙ ap (λ zs. drop from leaf'.pairs ++ zs) got.last ∙ sym (append_assoc (drop from leaf'.pairs) got.others (got.pair ∷ []));
        span = (leaf', after, l, n, la, p, fl, pos, got.others, refl, got.span);
      }

  pub some_of_two : (front id : LeafNodeId) (ids : List LeafNodeId) (back : LeafNodeId) (to : ℕ) (xs : List (K × V)) → IsSpan leaves front 0 (id ∷ ids) back to xs → 0 < length xs
  some_of_two front id ids back to xs (leaf, after, l, n, la, p, fl, pos, ys, e, rest) = omega (arith, ap length e, length-append leaf.pairs ys)

  -- the back moves to the leaf before it
  pub record BackLeaf (leaf : Leaf K V) (front : LeafNodeId) (from : ℕ) (back : LeafNodeId) (xs : List (K × V)) : Type 0 where
    pub id : LeafNodeId
    pub before : Leaf K V
    pub ids : List LeafNodeId
    pub prev : leaf.prev ≡ Some id
    pub found : leaves id ≡ Some before
    pub next : before.next ≡ Some back
    pub some : 0 < length before.pairs
    pub span : IsSpan leaves front from ids id (length before.pairs) xs
    pub apart : AreApart front ids id

  pub back_over : (leaf : Leaf K V) (front : LeafNodeId) (from : ℕ) (ids : List LeafNodeId) (back : LeafNodeId) (xs : List (K × V)) → IsSpan leaves front from ids back 0 xs → AreApart front ids back → leaves back ≡ Some leaf → (front ≡ back → ⊥) → BackLeaf leaf front from back xs
  back_over leaf front from [] back xs (leaf', l, b, ft, tl, e) a is other =
      absurd (other (sym b))
  back_over leaf front from (id ∷ []) back xs (leaf', after, l, n, la, p, fl, pos, ys, e, (after', l', b, ft, tl, e')) a is other =
      let same : after ≡ leaf = cc (la, b, is) in
      record {
        id = front;
        before = leaf';
        ids = [];
        prev = rw same at p;
        found = l;
        next = n ∙ ap (λ i. Some i) (sym b);
        some = pos;
        span = (leaf', l, refl, fl, omega arith, rw (e, e', take-length, append-nil));
        apart = tt;
      }
  back_over leaf front from (id ∷ id' ∷ ids) back xs (leaf', after, l, n, la, p, fl, pos, ys, e, rest) a is other =
      let got = back_over leaf id 0 (id' ∷ ids) back ys rest a.1 is a.1.0 in
      let distinct : front ≡ got.id → ⊥ =
      (λ same. let here : leaf' ≡ got.before = cc (l, got.found, same) in let back_is : id ≡ back = cc (n, got.next, here) in a.1.0 back_is) in
      record {
        id = got.id;
        before = got.before;
        ids = id ∷ got.ids;
        prev = got.prev;
        found = got.found;
        next = got.next;
        some = got.some;
        span = (leaf', after, l, n, la, p, fl, pos, ys, e, got.span);
        apart = (distinct, got.apart);
      }

  pub from_le : (front : LeafNodeId) (from : ℕ) (ids : List LeafNodeId) (back : LeafNodeId) (to : ℕ) (xs : List (K × V)) (leaf : Leaf K V) → IsSpan leaves front from ids back to xs → leaves front ≡ Some leaf → from ≤ length leaf.pairs
  from_le front from [] back to xs leaf (leaf', l, b, ft, tl, e) is =
      let same : leaf' ≡ leaf = cc (l, is) in rw (← same) (omega arith)
  from_le front from (id ∷ ids) back to xs leaf (leaf', after, l, n, la, p, fl, pos, ys, e, rest) is =
      let same : leaf' ≡ leaf = cc (l, is) in rw (← same) fl

  pub to_le : (front : LeafNodeId) (from : ℕ) (ids : List LeafNodeId) (back : LeafNodeId) (to : ℕ) (xs : List (K × V)) (leaf : Leaf K V) → IsSpan leaves front from ids back to xs → leaves back ≡ Some leaf → to ≤ length leaf.pairs
  to_le front from [] back to xs leaf (leaf', l, b, ft, tl, e) is =
      let same : leaf' ≡ leaf = cc (l, b, is) in rw (← same) tl
  to_le front from (id ∷ ids) back to xs leaf (leaf', after, l, n, la, p, fl, pos, ys, e, rest) is = to_le id 0 ids back to ys leaf rest is

  -- walking from one position to another gives the pairs of the span first

  upto_here : (count : ℕ) (front : LeafNodeId) (from : ℕ) (back : LeafNodeId) (to : ℕ) (leaf : Leaf K V) → front ≡ back → leaves front ≡ Some leaf → pairs_upto leaves (suc count) front from back to ≡ drop from (take to leaf.pairs)
  upto_here count front from back to leaf e l =
      elim (eqb_tells front.0 back.0) [
        | inl same ↦ rw (same.0, l) refl
        | inr other ↦ absurd (other.1 (ap (λ (x : LeafNodeId). x.0) e))
      ]

  upto_over : (count : ℕ) (front : LeafNodeId) (from : ℕ) (back : LeafNodeId) (to : ℕ) (leaf : Leaf K V) (id : LeafNodeId) → (front ≡ back → ⊥) → leaves front ≡ Some leaf → leaf.next ≡ Some id → pairs_upto leaves (suc count) front from back to ≡ drop from leaf.pairs ++ pairs_upto leaves count id 0 back to
  upto_over count front from back to leaf id other l n =
      elim (eqb_tells front.0 back.0) [
        | inl same ↦ absurd (other (same_id front back same.1))
        | inr differ ↦ rw (differ.0, l, n) refl
      ]

  take_upto_start : (n count : ℕ) (front : LeafNodeId) (ids : List LeafNodeId) (back : LeafNodeId) (to : ℕ) (xs : List (K × V)) → n ≤ count → IsSpan leaves front 0 ids back to xs → AreApart front ids back → take n (pairs_upto leaves count front 0 back to) ≡ take n xs
  take_upto_start zero count front ids back to xs h s a = refl
  take_upto_start (suc n) zero front ids back to xs h s a = absurd (omega arith)
  take_upto_start (suc n) (suc count) front [] back to xs h (leaf, l, b, ft, tl, e) a =
      ap (take (suc n)) (upto_here count front 0 back to leaf (sym b) l ∙ sym e)
  take_upto_start (suc n) (suc count) front (id ∷ ids) back to xs h (leaf, after, l, n', la, p, fl, pos, ys, e, rest) a =
      let more = take_upto_start (suc n - length leaf.pairs) count id ids back to ys (omega arith) rest a.1 in
      ap (take (suc n)) (upto_over count front 0 back to leaf id a.0 l n') ∙ (take_alike leaf.pairs (pairs_upto leaves count id 0 back to) ys (suc n) more ∙ ap (take (suc n)) (sym e))

  take_upto : (n count : ℕ) (front : LeafNodeId) (from : ℕ) (ids : List LeafNodeId) (back : LeafNodeId) (to : ℕ) (xs : List (K × V)) → n ≤ count → IsSpan leaves front from ids back to xs → AreApart front ids back → take n (pairs_upto leaves (suc count) front from back to) ≡ take n xs
  take_upto n count front from [] back to xs h (leaf, l, b, ft, tl, e) a =
      ap (take n) (upto_here count front from back to leaf (sym b) l ∙ sym e)
  take_upto n count front from (id ∷ ids) back to xs h (leaf, after, l, n', la, p, fl, pos, ys, e, rest) a =
      let more = take_upto_start (n - length (drop from leaf.pairs)) count id ids back to ys (omega arith) rest a.1 in
      ap (take n) (upto_over count front from back to leaf id a.0 l n') ∙ (take_alike (drop from leaf.pairs) (pairs_upto leaves count id 0 back to) ys n more ∙ ap (take n) (sym e))

  -- the first pairs between two positions are the first pairs of the span
  pub first_of_span : (front : LeafNodeId) (from : ℕ) (ids : List LeafNodeId) (back : LeafNodeId) (to : ℕ) (xs : List (K × V)) (limit : ℕ) → IsSpan leaves front from ids back to xs → AreApart front ids back → first_between leaves front from back to limit ≡ take limit xs
  first_of_span front from ids back to xs limit s a =
      rw add-one (take_upto limit limit front from ids back to xs (omega arith) s a)

  -- a limit stays right when it and the number of pairs become one less
  reports_less : (extent : PartLen) (limit n m : ℕ) → n ≡ m + 1 → Reports extent limit n → Reports extent (limit - 1) m
  reports_less Exact limit n m e h = let h' : n ≡ limit = h in omega (arith, e, h')
  reports_less Open limit n m e h = let h' : n ≤ limit = h in omega (arith, e, h')
  reports_less Cut limit n m e h = tt

  -- there is a pair between the two positions
  some_between : (front : LeafNodeId) (from : ℕ) (ids : List LeafNodeId) (back : LeafNodeId) (to : ℕ) (xs : List (K × V)) (leaf : Leaf K V) → IsSpan leaves front from ids back to xs → AreApart front ids back → leaves front ≡ Some leaf → (front ≡ back → from < to) → ((front ≡ back → ⊥) → from < length leaf.pairs) → 0 < length xs
  some_between front from [] back to xs leaf (leaf', l, b, ft, tl, e) a is at_back inside =
      let before = at_back (sym b) in
      omega (arith, ap length e, length-drop from (take to leaf'.pairs), length-take-le to leaf'.pairs tl, before)
  some_between front from (id ∷ ids) back to xs leaf (leaf', after, l, n, la, p, fl, pos, ys, e, rest) a is at_back inside =
      let same : leaf' ≡ leaf = cc (l, is) in
      let within = inside a.0 in
      omega (arith, ap length e, length-append (drop from leaf'.pairs) ys, length-drop from leaf'.pairs, ap (λ (x : Leaf K V). length x.pairs) same, within)

  none_between : (front : LeafNodeId) (from : ℕ) (ids : List LeafNodeId) (back : LeafNodeId) (to : ℕ) (xs : List (K × V)) → IsSpan leaves front from ids back to xs → AreApart front ids back → front ≡ back → to ≤ from → xs ≡ []
  none_between front from [] back to xs (leaf, l, b, ft, tl, e) a same past =
      e ∙ drop_of_length-le (take to leaf.pairs) (omega (arith, length-take-le to leaf.pairs tl))
  none_between front from (id ∷ ids) back to xs s a same past = absurd (a.0 same)

  -- no pair is left if the back is not after the front in the same leaf
  pub nothing_left : (front : LeafNodeId) (from : ℕ) (back : LeafNodeId) (to limit : ℕ) (extent : PartLen) → IsBetween leaves front from back to limit extent → (front ≡ back) × (to ≤ from) → first_between leaves front from back to limit ≡ []
  nothing_left front from back to limit extent h e =
      let none = none_between front from h.ids back to h.pairs h.span h.apart e.0 e.1 in
      first_of_span front from h.ids back to h.pairs limit h.span h.apart ∙ (ap (take limit) none ∙ take-nil limit)

  -- an exact part has as many pairs as its limit
  pub exact_length : (front : LeafNodeId) (from : ℕ) (back : LeafNodeId) (to limit : ℕ) → IsBetween leaves front from back to limit Exact → limit ≡ length (first_between leaves front from back to limit)
  exact_length front from back to limit h =
      let long : length h.pairs ≡ limit = h.reports in
      sym long ∙ sym (ap length (first_of_span front from h.ids back to h.pairs limit h.span h.apart ∙ take_all limit h.pairs (omega (arith, long))))

  pub nothing_within : (front : LeafNodeId) (from : ℕ) (back : LeafNodeId) (to limit : ℕ) → limit ≡ 0 → first_between leaves front from back to limit ≡ []
  nothing_within front from back to limit e = rw e refl

  pub CanGoOn-from : (front : LeafNodeId) (from : ℕ) (back : LeafNodeId) (to limit : ℕ) (extent : PartLen) (leaf : Leaf K V) → IsBetween leaves front from back to limit extent → leaves front ≡ Some leaf → CanGoOn leaves front from back
  CanGoOn-from front from back to limit extent leaf h is =
      record {
        leaf = leaf;
        found = is;
        next = λ other end. (let over = front_over leaf front from h.ids back to h.pairs h.span h.apart is end other in (over.id, over.next, rw over.found refl));
      }

  -- the position of the next pair, if there is one
  pub record FrontAt (front : LeafNodeId) (from : ℕ) (back : LeafNodeId) (to limit : ℕ) (extent : PartLen) (front' : LeafNodeId) (from' : ℕ) : Type 0 where
    pub leaf : Leaf K V
    pub found : leaves front' ≡ Some leaf
    pub inside : (front' ≡ back → ⊥) → from' < length leaf.pairs
    pub between : IsBetween leaves front' from' back to limit extent
    pub same : first_between leaves front from back to limit ≡ first_between leaves front' from' back to limit

  pub FrontAt-from : (front : LeafNodeId) (from : ℕ) (back : LeafNodeId) (to limit : ℕ) (extent : PartLen) (front' : LeafNodeId) (from' : ℕ) → IsBetween leaves front from back to limit extent → IsFrontIndex leaves front from back front' from' → FrontAt front from back to limit extent front' from'
  FrontAt-from front from back to limit extent front' from' h index =
      let fits = from_le front from h.ids back to h.pairs index.leaf h.span index.found in
      let stays : (front' ≡ front) × (from' ≡ from) → ((front ≡ back → ⊥) → from < length index.leaf.pairs) → FrontAt front from back to limit extent front' from' =
      (λ e inside. rw (e.0, e.1) (record { leaf = index.leaf; found = index.found; inside = inside; between = h; same = refl })) in
      elim (eqb_tells front.0 back.0) as (λ _. FrontAt front from back to limit extent front' from') [
        | inl is ↦ (let at_back = same_id front back is.1 in stays (index.last at_back) (λ other. absurd (other at_back)))
        | inr is ↦
            (let other : front ≡ back → ⊥ = (λ e. is.1 (ap (λ (x : LeafNodeId). x.0) e)) in
            elim (eq-or-lt_of_le fits) as (λ _. FrontAt front from back to limit extent front' from') [
              | inl eq ↦
                  (let over = front_over index.leaf front from h.ids back to h.pairs h.span h.apart index.found eq other in
                  let moved = index.over other eq in
                  let same_id : front' ≡ over.id = cc (moved.0, over.next) in
                  rw (same_id, moved.1) (record {
                    leaf = over.after;
                    found = over.found;
                    inside = over.some;
                    between = record { ids = over.ids; pairs = h.pairs; span = over.span; apart = over.apart; reports = h.reports };
                    same = first_of_span front from h.ids back to h.pairs limit h.span h.apart ∙ sym (first_of_span over.id 0 over.ids back to h.pairs limit over.span over.apart);
                  }))
              | inr lt ↦ stays (index.here (λ (q : from ≡ length index.leaf.pairs). let lt' : from < length index.leaf.pairs = lt in omega arith)) (λ _. lt)
            ])
      ]

  from_le_to : (front : LeafNodeId) (from : ℕ) (ids : List LeafNodeId) (back : LeafNodeId) (to : ℕ) (xs : List (K × V)) → IsSpan leaves front from ids back to xs → AreApart front ids back → front ≡ back → from ≤ to
  from_le_to front from [] back to xs (leaf, l, b, ft, tl, e) a same = ft
  from_le_to front from (id ∷ ids) back to xs s a same = absurd (a.0 same)

  -- there is a pair at the front position if that is not the end
  pub before_end : (front : LeafNodeId) (from : ℕ) (back : LeafNodeId) (to limit : ℕ) (extent : PartLen) (front' : LeafNodeId) (from' : ℕ) (leaf : Leaf K V) (end : ℕ) → IsBetween leaves front from back to limit extent → IsFrontIndex leaves front from back front' from' → IsEndIn front' back to leaf end → (from' ≡ end → ⊥) → front' ≡ back → from' < to
  before_end front from back to limit extent front' from' leaf end h index is other same =
      let at = FrontAt-from front from back to limit extent front' from' h index in
      let fits = from_le_to front' from' at.between.ids back to at.between.pairs at.between.span at.between.apart same in
      let ends = is.0 same in
      elim (eq-or-lt_of_le fits) [
        | inl eq ↦ absurd (other (eq ∙ sym ends))
        | inr lt ↦ lt
      ]

  -- no pair is left if the front position is the end
  pub at_end : (front : LeafNodeId) (from : ℕ) (back : LeafNodeId) (to limit : ℕ) (extent : PartLen) (front' : LeafNodeId) (from' : ℕ) (leaf : Leaf K V) (end : ℕ) → IsBetween leaves front from back to limit extent → IsFrontIndex leaves front from back front' from' → leaves front' ≡ Some leaf → IsEndIn front' back to leaf end → from' ≡ end → first_between leaves front from back to limit ≡ []
  at_end front from back to limit extent front' from' leaf end h index here is same =
      let at = FrontAt-from front from back to limit extent front' from' h index in
      elim (eqb_tells front'.0 back.0) [
        | inl e ↦
            (let last = same_id front' back e.1 in
            let ends = is.0 last in
            at.same ∙ nothing_left front' from' back to limit extent at.between (last, omega (arith, same, ends)))
        | inr e ↦
            (let other : front' ≡ back → ⊥ = (λ q. e.1 (ap (λ (x : LeafNodeId). x.0) q)) in
            let ends = is.1 other in
            let within = at.inside other in
            let leaf_is : at.leaf ≡ leaf = cc (at.found, here) in
            absurd (omega (arith, same, ends, within, ap (λ (x : Leaf K V). length x.pairs) leaf_is)))
      ]

  -- one step of the front: the pair at its position, and the pairs that are left after it
  pub record FrontStep (front : LeafNodeId) (from : ℕ) (back : LeafNodeId) (to limit : ℕ) (extent : PartLen) (front' : LeafNodeId) (from' : ℕ) : Type 0 where
    pub leaf : Leaf K V
    pub found : leaves front' ≡ Some leaf
    pub within : from' < length leaf.pairs
    pub between : IsBetween leaves front' (from' + 1) back to (limit - 1) extent
    pub pair : K × V
    pub got : slice_get leaf.pairs from' ≡ Some pair
    pub first : first_between leaves front from back to limit ≡ pair ∷ first_between leaves front' (from' + 1) back to (limit - 1)

  pub FrontStep-from : (front : LeafNodeId) (from : ℕ) (back : LeafNodeId) (to limit : ℕ) (extent : PartLen) (front' : LeafNodeId) (from' : ℕ) → IsBetween leaves front from back to limit extent → IsFrontIndex leaves front from back front' from' → (front' ≡ back → from' < to) → 0 < limit → FrontStep front from back to limit extent front' from'
  FrontStep-from front from back to limit extent front' from' h index at_back some =
      let at = FrontAt-from front from back to limit extent front' from' h index in
      let b = at.between in
      let more = some_between front' from' b.ids back to b.pairs at.leaf b.span b.apart at.found at_back at.inside in
      let within = within_leaf front' from' b.ids back to b.pairs at.leaf b.span at.found at_back at.inside in
      let got = front_here at.leaf front' from' b.ids back to b.pairs b.span at.found within more in
      let count : length b.pairs ≡ length got.others + 1 = omega (arith, ap length got.first) in
      record {
        leaf = at.leaf;
        found = at.found;
        within = within;
        between = record { ids = b.ids; pairs = got.others; span = got.span; apart = b.apart; reports = reports_less extent limit (length b.pairs) (length got.others) count b.reports };
        pair = got.pair;
        got = got.got;
        first = at.same ∙ (first_of_span front' from' b.ids back to b.pairs limit b.span b.apart ∙ (ap (take limit) got.first ∙ (take_first limit got.pair got.others some
            ∙ ap (λ zs. got.pair ∷ zs) (sym (first_of_span front' (from' + 1) b.ids back to got.others (limit - 1) got.span b.apart)))));
      }
    where
      within_leaf : (front : LeafNodeId) (from : ℕ) (ids : List LeafNodeId) (back : LeafNodeId) (to : ℕ) (xs : List (K × V)) (leaf : Leaf K V) → IsSpan leaves front from ids back to xs → leaves front ≡ Some leaf → (front ≡ back → from < to) → ((front ≡ back → ⊥) → from < length leaf.pairs) → from < length leaf.pairs
      within_leaf front from [] back to xs leaf (leaf', l, b, ft, tl, e) is at_back inside =
          let same : leaf' ≡ leaf = cc (l, is) in
          let before = at_back (sym b) in
          omega (arith, before, tl, ap (λ (x : Leaf K V). length x.pairs) same)
      within_leaf front from (id ∷ ids) back to xs leaf s is at_back inside =
          elim (eqb_tells front.0 back.0) [
            | inl is' ↦ (let at_end = same_id front back is'.1 in let before = at_back at_end in let fits = to_le front from (id ∷ ids) back to xs leaf s (rw (← at_end) is) in omega (arith, before, fits))
            | inr differ ↦ inside (λ e. differ.1 (ap (λ (x : LeafNodeId). x.0) e))
          ]

  pub CanGoBack-from : (front : LeafNodeId) (from : ℕ) (back : LeafNodeId) (to limit : ℕ) (extent : PartLen) → IsBetween leaves front from back to limit extent → CanGoBack leaves back to front
  CanGoBack-from front from back to limit extent h =
      let s = IsSome-back front from h.ids back to h.pairs h.span in
      let leaf = some_value (leaves back) s in
      record {
        leaf = leaf.0;
        found = leaf.1;
        prev = λ other zero'. (let over = back_over leaf.0 front from h.ids back h.pairs (subst (λ n. IsSpan leaves front from h.ids back n h.pairs) zero' h.span) h.apart leaf.1 (λ e. other (sym e)) in (over.id, over.prev, rw over.found refl));
      }

  -- the position after the last pair, if there is one
  pub record BackAt (front : LeafNodeId) (from : ℕ) (back : LeafNodeId) (to limit : ℕ) (extent : PartLen) (back' : LeafNodeId) (to' : ℕ) : Type 0 where
    pub leaf : Leaf K V
    pub found : leaves back' ≡ Some leaf
    pub within : to' ≤ length leaf.pairs
    pub inside : (front ≡ back' → ⊥) → 0 < to'
    pub between : IsBetween leaves front from back' to' limit extent
    pub same : first_between leaves front from back to limit ≡ first_between leaves front from back' to' limit

  pub BackAt-from : (front : LeafNodeId) (from : ℕ) (back : LeafNodeId) (to limit : ℕ) (extent : PartLen) (back' : LeafNodeId) (to' : ℕ) → IsBetween leaves front from back to limit extent → IsBackIndex leaves back to front back' to' → BackAt front from back to limit extent back' to'
  BackAt-from front from back to limit extent back' to' h index =
      let fits = to_le front from h.ids back to h.pairs index.leaf h.span index.found in
      let stays : (back' ≡ back) × (to' ≡ to) → ((front ≡ back → ⊥) → 0 < to) → BackAt front from back to limit extent back' to' =
      (λ e inside. rw (e.0, e.1) (record { leaf = index.leaf; found = index.found; within = fits; inside = inside; between = h; same = refl })) in
      elim (eqb_tells front.0 back.0) as (λ _. BackAt front from back to limit extent back' to') [
        | inl is ↦ (let at_front = same_id front back is.1 in stays (index.first (sym at_front)) (λ other. absurd (other at_front)))
        | inr is ↦
            (let other : front ≡ back → ⊥ = (λ e. is.1 (ap (λ (x : LeafNodeId). x.0) e)) in
            elim (eq-or-lt_of_le (zero_le to)) as (λ _. BackAt front from back to limit extent back' to') [
              | inl eq ↦
                  (let zero' : to ≡ 0 = sym eq in
                  let span : IsSpan leaves front from h.ids back 0 h.pairs = subst (λ n. IsSpan leaves front from h.ids back n h.pairs) zero' h.span in
                  let over = back_over index.leaf front from h.ids back h.pairs span h.apart index.found other in
                  let moved = index.over (λ e. other (sym e)) zero' in
                  let same_id : back' ≡ over.id = cc (moved.0, over.prev) in
                  let same_leaf : moved.1 ≡ over.before = cc (moved.2, over.found, same_id) in
                  let place' : to' ≡ length over.before.pairs = moved.3 ∙ ap (λ (x : Leaf K V). length x.pairs) same_leaf in
                  rw (same_id, place') (record {
                    leaf = over.before;
                    found = over.found;
                    within = omega arith;
                    inside = λ _. over.some;
                    between = record { ids = over.ids; pairs = h.pairs; span = over.span; apart = over.apart; reports = h.reports };
                    same = first_of_span front from h.ids back to h.pairs limit h.span h.apart ∙ sym (first_of_span front from over.ids over.id (length over.before.pairs) h.pairs limit over.span over.apart);
                  }))
              | inr lt ↦ stays (index.here (λ (q : to ≡ 0). let lt' : 0 < to = lt in omega arith)) (λ _. lt)
            ])
      ]

  -- one step of the back: the pair before its position, and the pairs that are left before that
  pub record BackStep (front : LeafNodeId) (from : ℕ) (back : LeafNodeId) (to limit : ℕ) (extent : PartLen) (back' : LeafNodeId) (to' : ℕ) : Type 0 where
    pub leaf : Leaf K V
    pub found : leaves back' ≡ Some leaf
    pub some : 0 < to'
    pub within : to' ≤ length leaf.pairs
    pub more : 0 < limit
    pub between : IsBetween leaves front from back' (to' - 1) (limit - 1) extent
    pub pair : K × V
    pub got : slice_get leaf.pairs (to' - 1) ≡ Some pair
    pub last : first_between leaves front from back to limit ≡ first_between leaves front from back' (to' - 1) (limit - 1) ++ pair ∷ []

  -- the limit is at least the number of pairs, unless the extent is `Cut`
  reaches : (extent : PartLen) (limit n : ℕ) → (extent ≡ Cut → ⊥) → Reports extent limit n → n ≤ limit
  reaches Exact limit n known h = let h' : n ≡ limit = h in omega (arith, h')
  reaches Open limit n known h = h
  reaches Cut limit n known h = absurd (known refl)

  pub BackStep-from : (front : LeafNodeId) (from : ℕ) (back : LeafNodeId) (to limit : ℕ) (extent : PartLen) (back' : LeafNodeId) (to' : ℕ) → IsBetween leaves front from back to limit extent → (extent ≡ Cut → ⊥) → IsBackIndex leaves back to front back' to' → (front ≡ back' → from < to') → BackStep front from back to limit extent back' to'
  BackStep-from front from back to limit extent back' to' h known index at_front =
      let at = BackAt-from front from back to limit extent back' to' h index in
      let b = at.between in
      let positive : 0 < to' =
      elim (eqb_tells front.0 back'.0) [
        | inl is ↦ (let before = at_front (same_id front back' is.1) in omega (arith, before))
        | inr differ ↦ at.inside (λ e. differ.1 (ap (λ (x : LeafNodeId). x.0) e))
      ] in
      let one : to' ≡ (to' - 1) + 1 = omega (arith, positive) in
      let span : IsSpan leaves front from b.ids back' ((to' - 1) + 1) b.pairs = subst (λ n. IsSpan leaves front from b.ids back' n b.pairs) one b.span in
      let some = some_before_back' front from b.ids back' (to' - 1) b.pairs span (λ e. let before = at_front e in omega (arith, before)) in
      let got = back_here at.leaf front from b.ids back' (to' - 1) b.pairs span at.found some in
      let count : length b.pairs ≡ length got.others + 1 = omega (arith, ap length got.last, length-append got.others (got.pair ∷ [])) in
      let long = reaches extent limit (length b.pairs) known b.reports in
      record {
        leaf = at.leaf;
        found = at.found;
        some = positive;
        within = at.within;
        more = omega (arith, count, long);
        between = record { ids = b.ids; pairs = got.others; span = got.span; apart = b.apart; reports = reports_less extent limit (length b.pairs) (length got.others) count b.reports };
        pair = got.pair;
        got = got.got;
        last = at.same ∙ (first_of_span front from b.ids back' to' b.pairs limit b.span b.apart ∙ (take_all limit b.pairs long ∙ (got.last
            ∙ ap (λ zs. zs ++ got.pair ∷ []) (sym (first_of_span front from b.ids back' (to' - 1) got.others (limit - 1) got.span b.apart ∙ take_all (limit - 1) got.others (omega (arith, count, long)))))));
      }
    where
      some_before_back' : (front : LeafNodeId) (from : ℕ) (ids : List LeafNodeId) (back : LeafNodeId) (to : ℕ) (xs : List (K × V)) → IsSpan leaves front from ids back (to + 1) xs → (front ≡ back → from ≤ to) → 0 < length xs
      some_before_back' front from [] back to xs (leaf, l, b, ft, tl, e) at_front =
          let before = at_front (sym b) in
          omega (arith, ap length e, length-drop from (take (to + 1) leaf.pairs), length-take-le (to + 1) leaf.pairs tl, before)
      some_before_back' front from (id ∷ ids) back to xs (leaf, after, l, n, la, p, fl, pos, ys, e, rest) at_front =
          let more = some_before_back id ids back to ys rest in
          omega (arith, ap length e, length-append (drop from leaf.pairs) ys, more)
