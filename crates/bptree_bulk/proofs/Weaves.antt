-- Steps that make one list of two.
use Rattle.std.proofs.Common.{◌≡◌, ◌∙◌, ◌+◌, ◌<◌, ◌≤◌, ℕ, zero, suc, sym, ap, subst, refl, Some, None, List, [], ◌∷◌, ◌++◌, length, take, drop, arith, append_assoc, length-append}
use Rattle.std.proofs.lemmas.List.{append-nil}
use Rattle.std.proofs.lemmas.Map.Keys.{sorted_head, sorted_tail}
use Rattle.std.specs.Cmp.{IsTotalOrder}
use Rattle.std.specs.List.{AllByRecursion}
use Rattle.std.specs.Map.{keys_of}
use Rattle.std.specs.declared.cmp.Ordering.{Ordering}
use Rattle.std.specs.declared.cmp.Ordering.TheVariants.{Less, Equal, Greater}
use Rattle.bptree_bulk.specs.Weave.{first_rest, next_source, put_all, put_pair, second_rest, source_by, step_pair, woven, Goes, Weaves}
use Rattle.bptree_bulk.specs.declared.weaving.Source.{Source}
use Rattle.bptree_bulk.specs.declared.weaving.Source.TheVariants.{First, Second, Both}
use Rattle.bptree_keys.specs.Contents.{put, IsAscending}
use Rattle.bptree_keys.proofs.Around.{put_around}
use Rattle.bptree_keys.proofs.Ascending.{all_after, all_pairs, equal_parts, greater_after, greater_turned}
use Rattle.bptree_keys.proofs.Laws.{put_ascending}
use Rattle.bptree_keys.proofs.PieceLemmas.{AllByRecursion-left, AllByRecursion-right}

pub put_one_more : {X : Type 0} (put_one : List X → X → List X) (l xs : List X) (x : X) → put_all put_one l (xs ++ x ∷ []) ≡ put_one (put_all put_one l xs) x
put_one_more put_one l [] x = refl
put_one_more put_one l (y ∷ xs) x = put_one_more put_one (put_one l y) xs x

module _ {K V : Type 0} (cmp : K → K → Ordering) where
  pub goes_joined : (s t : List Source) (a b a' b' a'' b'' : List (K × V)) → Goes cmp s a b a' b' → Goes cmp t a' b' a'' b'' → Goes cmp (s ++ t) a b a'' b''
  goes_joined [] t a b a' b' a'' b'' goes more = subst (λ x. Goes cmp t x b a'' b'') (sym goes.0) (subst (λ y. Goes cmp t a' y a'' b'') (sym goes.1) more)
  goes_joined (x ∷ s) t a b a' b' a'' b'' goes more = (goes.0, goes_joined s t (first_rest x a) (second_rest x b) a' b' a'' b'' goes.1 more)

  -- what the first steps leave is what the others begin with
  pub record Apart (s t : List Source) (a b a'' b'' : List (K × V)) : Type 0 where
    pub first : List (K × V)
    pub second : List (K × V)
    pub goes : Goes cmp s a b first second
    pub later : Goes cmp t first second a'' b''

  pub goes_apart : (s t : List Source) (a b a'' b'' : List (K × V)) → Goes cmp (s ++ t) a b a'' b'' → Apart s t a b a'' b''
  goes_apart [] t a b a'' b'' goes = record { first = a; second = b; goes = (refl, refl); later = goes }
  goes_apart (x ∷ s) t a b a'' b'' goes =
      let rest = goes_apart s t (first_rest x a) (second_rest x b) a'' b'' goes.1 in
      record { first = rest.first; second = rest.second; goes = (goes.0, rest.goes); later = rest.later }

  pub goes_same : (s : List Source) (a b x y x' y' : List (K × V)) → Goes cmp s a b x y → Goes cmp s a b x' y' → (x ≡ x') × (y ≡ y')
  goes_same [] a b x y x' y' goes other = (sym goes.0 ∙ other.0, sym goes.1 ∙ other.1)
  goes_same (z ∷ s) a b x y x' y' goes other = goes_same s (first_rest z a) (second_rest z b) x y x' y' goes.1 other.1

  pub woven_joined : (s t : List Source) (a b a' b' : List (K × V)) → Goes cmp s a b a' b' → woven (s ++ t) a b ≡ woven s a b ++ woven t a' b'
  woven_joined [] t a b a' b' goes = ap (λ x. woven t x b) goes.0 ∙ ap (λ y. woven t a' y) goes.1
  woven_joined (x ∷ s) t a b a' b' goes =
      ap (λ l. step_pair x a b ++ l) (woven_joined s t (first_rest x a) (second_rest x b) a' b' goes.1)
      ∙ sym (append_assoc (step_pair x a b) (woven s (first_rest x a) (second_rest x b)) (woven t a' b'))

  -- a step has one pair
  pub one_pair : (x : Source) (a b : List (K × V)) → next_source cmp a b ≡ Some x → length (step_pair x a b) ≡ 1
  one_pair x [] [] is = absurd (let z : None ≡ Some x = is in cc)
  one_pair First [] (q ∷ b) is = absurd (let z : Some Second ≡ Some First = is in cc)
  one_pair Second [] (q ∷ b) is = refl
  one_pair Both [] (q ∷ b) is = absurd (let z : Some Second ≡ Some Both = is in cc)
  one_pair First (p ∷ a) [] is = refl
  one_pair Second (p ∷ a) [] is = absurd (let z : Some First ≡ Some Second = is in cc)
  one_pair Both (p ∷ a) [] is = absurd (let z : Some First ≡ Some Both = is in cc)
  one_pair First (p ∷ a) (q ∷ b) is = refl
  one_pair Second (p ∷ a) (q ∷ b) is = refl
  one_pair Both (p ∷ a) (q ∷ b) is = refl

  pub woven_length : (s : List Source) (a b a' b' : List (K × V)) → Goes cmp s a b a' b' → length (woven s a b) ≡ length s
  woven_length [] a b a' b' goes = refl
  woven_length (x ∷ s) a b a' b' goes =
      let one = one_pair x a b goes.0 in
      let more = woven_length s (first_rest x a) (second_rest x b) a' b' goes.1 in
      omega (arith, one, more, length-append (step_pair x a b) (woven s (first_rest x a) (second_rest x b)))

  -- the steps that take all pairs are at most as many as the pairs of both lists
  pub step_shrinks : (x : Source) (a b : List (K × V)) → next_source cmp a b ≡ Some x → 1 + (length (first_rest x a) + length (second_rest x b)) ≤ length a + length b
  step_shrinks x [] [] is = absurd (let z : None ≡ Some x = is in cc)
  step_shrinks First [] (q ∷ b) is = absurd (let z : Some Second ≡ Some First = is in cc)
  step_shrinks Second [] (q ∷ b) is = omega arith
  step_shrinks Both [] (q ∷ b) is = absurd (let z : Some Second ≡ Some Both = is in cc)
  step_shrinks First (p ∷ a) [] is = omega arith
  step_shrinks Second (p ∷ a) [] is = absurd (let z : Some First ≡ Some Second = is in cc)
  step_shrinks Both (p ∷ a) [] is = absurd (let z : Some First ≡ Some Both = is in cc)
  step_shrinks First (p ∷ a) (q ∷ b) is = omega arith
  step_shrinks Second (p ∷ a) (q ∷ b) is = omega arith
  step_shrinks Both (p ∷ a) (q ∷ b) is = omega arith

  pub steps_within : (s : List Source) (a b a' b' : List (K × V)) → Goes cmp s a b a' b' → length s + (length a' + length b') ≤ length a + length b
  steps_within [] a b a' b' goes = omega (arith, ap length goes.0, ap length goes.1)
  steps_within (x ∷ s) a b a' b' goes = omega (arith, step_shrinks x a b goes.0, steps_within s (first_rest x a) (second_rest x b) a' b' goes.1)

some_same : (x y : Source) → Some x ≡ Some y → x ≡ y
some_same x y same = cc

-- some step is taken if there is a pair
pub some_steps : {K V : Type 0} (cmp : K → K → Ordering) (s : List Source) (a b : List (K × V)) → Weaves cmp s a b → 0 < length a → 0 < length s
some_steps cmp [] a b goes some = absurd (omega (arith, ap length goes.0, some))
some_steps cmp (x ∷ s) a b goes some = omega arith

module _ {K V : Type 0} (cmp : K → K → Ordering) (total : IsTotalOrder cmp) where
  -- a pair stays first when a greater one is put
  put_behind : (p q : K × V) (l : List (K × V)) → cmp p.0 q.0 ≡ Less → put_pair cmp (p ∷ l) q ≡ p ∷ put_pair cmp l q
  put_behind p q l less =
      ap (λ m. put cmp (p ∷ m) q.0 q.1) (sym (append-nil l))
      ∙ (put_around cmp q.0 (p ∷ []) l [] (less, tt) tt q.1 ∙ ap (λ m. p ∷ m) (append-nil (put cmp l q.0 q.1)))

  behind : (p : K × V) (l b : List (K × V)) → AllByRecursion (λ q. cmp p.0 q.0 ≡ Less) b → put_all (put_pair cmp) (p ∷ l) b ≡ p ∷ put_all (put_pair cmp) l b
  behind p l [] all = refl
  behind p l (q ∷ b) all = ap (λ m. put_all (put_pair cmp) m b) (put_behind p q l all.0) ∙ behind p (put_pair cmp l q) b all.1

  -- a smaller pair goes before all
  put_before : (q : K × V) (l : List (K × V)) → AllByRecursion (λ p. cmp p.0 q.0 ≡ Greater) l → put_pair cmp l q ≡ q ∷ l
  put_before q l all = put_around cmp q.0 [] [] l tt all q.1

  -- an equal key takes the value of the pair that is put
  put_at : (p q : K × V) (l : List (K × V)) → cmp p.0 q.0 ≡ Equal → AllByRecursion (λ p. cmp p.0 q.0 ≡ Greater) l → put_pair cmp (p ∷ l) q ≡ (p.0, q.1) ∷ l
  put_at p q l equal all = put_around cmp q.0 [] (p ∷ []) l tt all q.1 ∙ rw equal refl

  below_all : (p : K × V) (l : List (K × V)) → IsAscending cmp (p ∷ l) → AllByRecursion (λ (q : K × V). cmp p.0 q.0 ≡ Less) l
  below_all p l ascending = all_pairs (λ key. cmp p.0 key ≡ Less) (λ key. cmp p.0 key ≡ Less) (λ key less. less) l (sorted_head cmp p.0 (keys_of l) ascending)

  module _ (s : List Source) (later : (a b : List (K × V)) → IsAscending cmp a → IsAscending cmp b → Weaves cmp s a b → woven s a b ≡ put_all (put_pair cmp) a b) (p : K × V) (a : List (K × V)) (q : K × V) (b : List (K × V)) (up : IsAscending cmp (p ∷ a)) (up' : IsAscending cmp (q ∷ b)) where
    tail_a : IsAscending cmp a
    tail_a = sorted_tail cmp p.0 (keys_of a) up

    tail_b : IsAscending cmp b
    tail_b = sorted_tail cmp q.0 (keys_of b) up'

    above : (k : K) → ((key : K) → cmp q.0 key ≡ Less → cmp k key ≡ Less) → AllByRecursion (λ (r : K × V). cmp k r.0 ≡ Less) b
    above k turns = all_pairs (λ key. cmp q.0 key ≡ Less) (λ key. cmp k key ≡ Less) turns b (sorted_head cmp q.0 (keys_of b) up')

    by_first : cmp p.0 q.0 ≡ Less → Weaves cmp s a (q ∷ b) → woven (First ∷ s) (p ∷ a) (q ∷ b) ≡ put_all (put_pair cmp) (p ∷ a) (q ∷ b)
    by_first less goes = ap (λ m. p ∷ m) (later a (q ∷ b) tail_a up' goes) ∙ sym (behind p a (q ∷ b) (less, above p.0 (λ key more. total.trans p.0 q.0 key less more)))

    by_both : cmp p.0 q.0 ≡ Equal → Weaves cmp s a b → woven (Both ∷ s) (p ∷ a) (q ∷ b) ≡ put_all (put_pair cmp) (p ∷ a) (q ∷ b)
    by_both equal goes =
        ap (λ m. (p.0, q.1) ∷ m) (later a b tail_a tail_b goes)
        ∙ (sym (behind (p.0, q.1) a b (above p.0 (λ key more. total.congr p.0 q.0 key equal ∙ more)))
        ∙ ap (λ m. put_all (put_pair cmp) m b) (sym (put_at p q a equal (equal_parts cmp total [] p a q.0 up equal).greater)))

    by_second : cmp p.0 q.0 ≡ Greater → Weaves cmp s (p ∷ a) b → woven (Second ∷ s) (p ∷ a) (q ∷ b) ≡ put_all (put_pair cmp) (p ∷ a) (q ∷ b)
    by_second greater goes =
        ap (λ m. q ∷ m) (later (p ∷ a) b up tail_b goes)
        ∙ (sym (behind q (p ∷ a) b (below_all q b up'))
        ∙ ap (λ m. put_all (put_pair cmp) m b) (sym (put_before q (p ∷ a) (greater, greater_after cmp total p a q.0 up greater))))

    by_order : (x : Source) (o : Ordering) → cmp p.0 q.0 ≡ o → source_by o ≡ x → Weaves cmp s (first_rest x (p ∷ a)) (second_rest x (q ∷ b)) → woven (x ∷ s) (p ∷ a) (q ∷ b) ≡ put_all (put_pair cmp) (p ∷ a) (q ∷ b)
    by_order First Less is same goes = by_first is goes
    by_order Second Less is same goes = absurd (let z : First ≡ Second = same in cc)
    by_order Both Less is same goes = absurd (let z : First ≡ Both = same in cc)
    by_order First Equal is same goes = absurd (let z : Both ≡ First = same in cc)
    by_order Second Equal is same goes = absurd (let z : Both ≡ Second = same in cc)
    by_order Both Equal is same goes = by_both is goes
    by_order First Greater is same goes = absurd (let z : Second ≡ First = same in cc)
    by_order Second Greater is same goes = by_second is goes
    by_order Both Greater is same goes = absurd (let z : Second ≡ Both = same in cc)

  -- steps that take all of two lists make the first list with the second's pairs put
  pub woven_is : (s : List Source) (a b : List (K × V)) → IsAscending cmp a → IsAscending cmp b → Weaves cmp s a b → woven s a b ≡ put_all (put_pair cmp) a b
  woven_is [] a b up up' goes = sym goes.0 ∙ ap (put_all (put_pair cmp) a) (sym goes.1)
  woven_is (x ∷ s) [] [] up up' goes = absurd (let z : None ≡ Some x = goes.0 in cc)
  woven_is (First ∷ s) [] (q ∷ b) up up' goes = absurd (let z : Some Second ≡ Some First = goes.0 in cc)
  woven_is (Both ∷ s) [] (q ∷ b) up up' goes = absurd (let z : Some Second ≡ Some Both = goes.0 in cc)
  woven_is (Second ∷ s) [] (q ∷ b) up up' goes =
      ap (λ m. q ∷ m) (woven_is s [] b up (sorted_tail cmp q.0 (keys_of b) up') goes.1)
      ∙ (sym (behind q [] b (below_all q b up')) ∙ ap (λ m. put_all (put_pair cmp) m b) (sym (put_before q [] tt)))
  woven_is (Second ∷ s) (p ∷ a) [] up up' goes = absurd (let z : Some First ≡ Some Second = goes.0 in cc)
  woven_is (Both ∷ s) (p ∷ a) [] up up' goes = absurd (let z : Some First ≡ Some Both = goes.0 in cc)
  woven_is (First ∷ s) (p ∷ a) [] up up' goes = ap (λ m. p ∷ m) (woven_is s a [] (sorted_tail cmp p.0 (keys_of a) up) up' goes.1)
  woven_is (x ∷ s) (p ∷ a) (q ∷ b) up up' goes =
      by_order s (woven_is s) p a q b up up' x (cmp p.0 q.0) refl (some_same (source_by (cmp p.0 q.0)) x goes.0) goes.1

  -- putting the pairs of an ascending list into an empty list makes that list
  pub put_none : (b : List (K × V)) → IsAscending cmp b → put_all (put_pair cmp) [] b ≡ b
  put_none [] up = refl
  put_none (q ∷ b) up = ap (λ m. put_all (put_pair cmp) m b) (put_before q [] tt) ∙ (behind q [] b (below_all q b up) ∙ ap (λ m. q ∷ m) (put_none b (sorted_tail cmp q.0 (keys_of b) up)))

  -- putting pairs whose keys are above all others appends them
  pub put_above : (a b : List (K × V)) → IsAscending cmp (a ++ b) → put_all (put_pair cmp) a b ≡ a ++ b
  put_above [] b up = put_none b up
  put_above (p ∷ a) b up =
      let above = AllByRecursion-right (λ (q : K × V). cmp p.0 q.0 ≡ Less) a b (below_all p (a ++ b) up) in
      behind p a b above ∙ ap (λ m. p ∷ m) (put_above a b (sorted_tail cmp p.0 (keys_of (a ++ b)) up))

  -- putting pairs whose keys are below all others prepends them
  pub put_below : (a b : List (K × V)) → IsAscending cmp (b ++ a) → put_all (put_pair cmp) a b ≡ b ++ a
  put_below a [] up = refl
  put_below a (q ∷ b) up =
      let below = sorted_head cmp q.0 (keys_of (b ++ a)) up in
      let greater = all_pairs (λ key. cmp q.0 key ≡ Less) (λ key. cmp key q.0 ≡ Greater) (greater_turned cmp total q.0) a (all_after (λ key. cmp q.0 key ≡ Less) b a below) in
      let above = AllByRecursion-left (λ (p : K × V). cmp q.0 p.0 ≡ Less) b a (below_all q (b ++ a) up) in
      ap (λ m. put_all (put_pair cmp) m b) (put_before q a greater) ∙ (behind q a b above ∙ ap (λ m. q ∷ m) (put_below a b (sorted_tail cmp q.0 (keys_of (b ++ a)) up)))

  pub put_all_ascends : (a b : List (K × V)) → IsAscending cmp a → IsAscending cmp (put_all (put_pair cmp) a b)
  put_all_ascends a [] up = up
  put_all_ascends a (q ∷ b) up = put_all_ascends (put_pair cmp a q) b (put_ascending cmp total a up q.0 q.1)

  pub woven_ascends : (s : List Source) (a b : List (K × V)) → IsAscending cmp a → IsAscending cmp b → Weaves cmp s a b → IsAscending cmp (woven s a b)
  woven_ascends s a b up up' goes = subst (IsAscending cmp) (sym (woven_is s a b up up' goes)) (put_all_ascends a b up)

-- the key at a slot of a leaf is the next of all keys from there on
pub keys_here : {K V : Type 0} (pairs rest : List (K × V)) (i : ℕ) → i < length pairs → keys_of (take 1 (drop i (pairs ++ rest))) ≡ take 1 (drop i (keys_of pairs))
keys_here [] rest i less = absurd (omega (arith, less))
keys_here (p ∷ pairs) rest zero less = refl
keys_here (p ∷ pairs) rest (suc i) less = let short : i < length pairs = omega (arith, less) in keys_here pairs rest i short
