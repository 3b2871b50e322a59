-- Two ascending lists that are walked side by side, and the keys of the first that the second
-- holds.
use Rattle.std.proofs.Common.{◌≡◌, ◌∙◌, ◌+◌, ◌<◌, ◌||◌, arith, List, [], ◌∷◌, Bool, true, false, cond, length, Option, Some, None, option_map, is_some, refl, sym, ap}
use Rattle.std.proofs.lemmas.Cmp.{tied_back, tied_itself}
use Rattle.std.proofs.lemmas.Map.Keys.{sorted_head, sorted_tail}
use Rattle.std.specs.declared.cmp.Ordering.{Ordering}
use Rattle.std.specs.declared.cmp.Ordering.TheVariants.{Less, Equal, Greater}
use Rattle.std.specs.Cmp.{IsTotalOrder}
use Rattle.std.specs.List.{AllByRecursion}
use Rattle.std.specs.List.Sorted.{IsStrictlySortedBy}
use Rattle.std.specs.Ordering.{is_eq}
use Rattle.bptree_keys.proofs.Ascending.{greater_turned, less_turned}
use Rattle.bptree_keys.proofs.PieceLemmas.{AllByRecursion-weaker}
use Rattle.bptree_merge_iter.specs.Merge.{merge_step, step_by}
use Rattle.bptree_set.specs.Beside.{AreSides, keys_fetched, keys_sifted}
use Rattle.bptree_map.specs.Keys.{holds, key_found, keys_within}
use Rattle.bptree_set.proofs.MemberLemmas.{apart, none_above}
use Rattle.bptree_set.proofs.UnionLemmas.{left_shorter}

some_inside : {A : Type 0} {x y : A} → Some x ≡ Some y → y ≡ x
some_inside h = cc

module _ {K : Type 0} (cmp : K → K → Ordering) (f : Bool → Bool) where
  -- the keys that pass by whether others hold them
  abbrev sifted : List K → List K → List K
  sifted = keys_sifted cmp f

  -- what a step that yielded r of the first list and q of the second states of the keys that pass
  abbrev pub Sifts : {T : Type 0} → (T → K) → List K → Option T → Option T → List K → Type 0
  Sifts shows old None None new = (old ≡ []) × (new ≡ [])
  Sifts shows old None (Some b) new = old ≡ new
  Sifts shows old (Some a) None new = old ≡ cond (f false) (shows a ∷ new) new
  Sifts shows old (Some a) (Some b) new = old ≡ cond (f true) (shows a ∷ new) new

  module _ (total : IsTotalOrder cmp) where
    -- a key that is below all keys equals none of them
    pub past : (y : K) (ys xs : List K) → AllByRecursion (λ x. cmp y x ≡ Less) xs → sifted xs (y ∷ ys) ≡ sifted xs ys
    past y ys [] above = refl
    past y ys (x ∷ xs) above =
        rw (above.0, past y ys xs above.1) refl

    below_all : (x y : K) (ys : List K) → cmp x y ≡ Less → IsStrictlySortedBy cmp (y ∷ ys) → AllByRecursion (λ z. cmp x z ≡ Less) (y ∷ ys)
    below_all x y ys is second = (is, AllByRecursion-weaker (λ z. cmp y z ≡ Less) (λ z. cmp x z ≡ Less) (λ z less. total.trans x y z is less) ys (sorted_head cmp y ys second))

    level_all : (x y : K) (xs : List K) → cmp x y ≡ Equal → IsStrictlySortedBy cmp (x ∷ xs) → AllByRecursion (λ z. cmp y z ≡ Less) xs
    level_all x y xs is first = AllByRecursion-weaker (λ z. cmp x z ≡ Less) (λ z. cmp y z ≡ Less) (λ z less. sym (total.congr x y z is) ∙ less) xs (sorted_head cmp x xs first)

    module _ {T : Type 0} (shows : T → K) where
      sifts_at : (x : K) (xs : List K) (y : K) (ys : List K) → IsStrictlySortedBy cmp (x ∷ xs) → IsStrictlySortedBy cmp (y ∷ ys) → (o : Ordering) → cmp x y ≡ o → (r q : Option T) → option_map shows r ≡ (step_by o x xs y ys).first → option_map shows q ≡ (step_by o x xs y ys).second → Sifts shows (sifted (x ∷ xs) (y ∷ ys)) r q (sifted (step_by o x xs y ys).left.0 (step_by o x xs y ys).left.1)
      sifts_at x xs y ys first second Less is None q e g = cc
      sifts_at x xs y ys first second Less is (Some a) (Some b) e g = cc
      sifts_at x xs y ys first second Less is (Some a) None e g =
          ap (λ b. cond (f b) (x ∷ sifted xs (y ∷ ys)) (sifted xs (y ∷ ys))) (apart cmp total x (y ∷ ys) (below_all x y ys is second) x (tied_itself total x)) ∙ ap (λ z. cond (f false) (z ∷ sifted xs (y ∷ ys)) (sifted xs (y ∷ ys))) (some_inside e)
      sifts_at x xs y ys first second Equal is None q e g = cc
      sifts_at x xs y ys first second Equal is (Some a) None e g = cc
      sifts_at x xs y ys first second Equal is (Some a) (Some b) e g =
          ap (λ o. cond (f (there o)) (x ∷ sifted xs (y ∷ ys)) (sifted xs (y ∷ ys))) (tied_back total x y is) ∙ ap (λ rest. cond (f true) (x ∷ rest) rest) (past y ys xs (level_all x y xs is first)) ∙ ap (λ z. cond (f true) (z ∷ sifted xs ys) (sifted xs ys)) (some_inside e)
        where
          there : Ordering → Bool
          there o = is_eq o || holds cmp ys x
      sifts_at x xs y ys first second Greater is (Some a) q e g = cc
      sifts_at x xs y ys first second Greater is None None e g = cc
      sifts_at x xs y ys first second Greater is None (Some b) e g = past y ys (x ∷ xs) (below_all y x xs (less_turned cmp total x y is) first)

      pub sifts_step : (us vs : List K) → IsStrictlySortedBy cmp us → IsStrictlySortedBy cmp vs → (r q : Option T) (left : List K × List K) → option_map shows r ≡ (merge_step cmp us vs).first → option_map shows q ≡ (merge_step cmp us vs).second → left ≡ (merge_step cmp us vs).left → Sifts shows (sifted us vs) r q (sifted left.0 left.1)
      sifts_step [] [] first second None None left e g k = rw k (refl, refl)
      sifts_step [] [] first second (Some a) q left e g k = cc
      sifts_step [] [] first second None (Some b) left e g k = cc
      sifts_step (x ∷ us) [] first second None q left e g k = cc
      sifts_step (x ∷ us) [] first second (Some a) (Some b) left e g k = cc
      sifts_step (x ∷ us) [] first second (Some a) None left e g k = rw k (ap (λ z. cond (f false) (z ∷ sifted us []) (sifted us [])) (some_inside e))
      sifts_step [] (y ∷ vs) first second None None left e g k = cc
      sifts_step [] (y ∷ vs) first second (Some a) q left e g k = cc
      sifts_step [] (y ∷ vs) first second None (Some b) left e g k = rw k refl
      sifts_step (x ∷ us) (y ∷ vs) first second r q left e g k = rw k (sifts_at x us y vs first second (cmp x y) refl r q e g)

module _ {K : Type 0} (cmp : K → K → Ordering) where
  sorted_at : (x : K) (xs : List K) (y : K) (ys : List K) → IsStrictlySortedBy cmp (x ∷ xs) → IsStrictlySortedBy cmp (y ∷ ys) → (o : Ordering) → IsStrictlySortedBy cmp (step_by o x xs y ys).left.0 × IsStrictlySortedBy cmp (step_by o x xs y ys).left.1
  sorted_at x xs y ys first second Less = (sorted_tail cmp x xs first, second)
  sorted_at x xs y ys first second Equal = (sorted_tail cmp x xs first, sorted_tail cmp y ys second)
  sorted_at x xs y ys first second Greater = (first, sorted_tail cmp y ys second)

  sorted_left : (us vs : List K) → IsStrictlySortedBy cmp us → IsStrictlySortedBy cmp vs → IsStrictlySortedBy cmp (merge_step cmp us vs).left.0 × IsStrictlySortedBy cmp (merge_step cmp us vs).left.1
  sorted_left [] [] first second = (first, second)
  sorted_left (x ∷ us) [] first second = (sorted_tail cmp x us first, second)
  sorted_left [] (y ∷ vs) first second = (first, sorted_tail cmp y vs second)
  sorted_left (x ∷ us) (y ∷ vs) first second = sorted_at x us y vs first second (cmp x y)

  -- a step leaves both sides ascending
  pub sides_left : (sides left : List K × List K) → AreSides cmp sides → left ≡ (merge_step cmp sides.0 sides.1).left → AreSides cmp left
  sides_left sides left are k =
      let sorted = sorted_left sides.0 sides.1 are.0 are.1 in
      let shorter = left_shorter cmp sides.0 sides.1 in
      rw k (sorted.0, sorted.1, omega (arith, shorter.0, are.2), omega (arith, shorter.1, are.3))

  -- a step that yielded an item leaves fewer members
  module _ {T : Type 0} (shows : T → K) where
    none_back : (r : Option T) → option_map shows r ≡ None → r ≡ None
    none_back None e = refl
    none_back (Some a) e = cc

    fewer_at : (x : K) (xs : List K) (y : K) (ys : List K) (o : Ordering) → length (step_by o x xs y ys).left.0 + length (step_by o x xs y ys).left.1 < length (x ∷ xs) + length (y ∷ ys)
    fewer_at x xs y ys Less = omega arith
    fewer_at x xs y ys Equal = omega arith
    fewer_at x xs y ys Greater = omega arith

    pub fewer_left : (us vs : List K) (r q : Option T) (left : List K × List K) → (r ≡ None → q ≡ None → ⊥) → option_map shows r ≡ (merge_step cmp us vs).first → option_map shows q ≡ (merge_step cmp us vs).second → left ≡ (merge_step cmp us vs).left → length left.0 + length left.1 < length us + length vs
    fewer_left [] [] r q left some e g k = absurd (some (none_back r e) (none_back q g))
    fewer_left (x ∷ us) [] r q left some e g k = rw k (omega arith)
    fewer_left [] (y ∷ vs) r q left some e g k = rw k (omega arith)
    fewer_left (x ∷ us) (y ∷ vs) r q left some e g k = rw k (fewer_at x us y vs (cmp x y))

-- a step of both lists that yielded r of the first and q of the second
module _ {K T : Type 0} (cmp : K → K → Ordering) (keeps : Bool → Bool) (total : IsTotalOrder cmp) (shows : T → K) (sides left : List K × List K) (are : AreSides cmp sides) (r q : Option T) (ran : (option_map shows r ≡ (merge_step cmp sides.0 sides.1).first) × (option_map shows q ≡ (merge_step cmp sides.0 sides.1).second) × (left ≡ (merge_step cmp sides.0 sides.1).left)) where
  pub still_sides : AreSides cmp left
  still_sides = sides_left cmp sides left are ran.2

  sifts : Sifts cmp keeps shows (keys_sifted cmp keeps sides.0 sides.1) r q (keys_sifted cmp keeps left.0 left.1)
  sifts = sifts_step cmp keeps total shows sides.0 sides.1 are.0 are.1 r q left ran.0 ran.1 ran.2

  first_at : (old new : List K) (r q : Option T) (a : T) → r ≡ Some a → Sifts cmp keeps shows old r q new → old ≡ cond (keeps (is_some q)) (shows a ∷ new) new
  first_at old new None q a is step = cc
  first_at old new (Some b) None a is step = step ∙ ap (λ x. cond (keeps false) (shows x ∷ new) new) (sym (some_inside is))
  first_at old new (Some b) (Some d) a is step = step ∙ ap (λ x. cond (keeps true) (shows x ∷ new) new) (sym (some_inside is))

  -- a key of the first list is yielded or skipped, a key of the second list alone is skipped, or
  -- both lists have ended
  module _ (start : List K) (began : start ≡ keys_sifted cmp keeps sides.0 sides.1) where
    pub walk_gives : (a : T) (held : Bool) → r ≡ Some a → held ≡ is_some q → true ≡ keeps held → start ≡ shows a ∷ keys_sifted cmp keeps left.0 left.1
    walk_gives a held is there kept =
        began ∙ first_at _ _ r q a is sifts ∙ ap (λ b. cond b (shows a ∷ keys_sifted cmp keeps left.0 left.1) (keys_sifted cmp keeps left.0 left.1)) (ap keeps (sym there) ∙ sym kept)

    pub walk_passes : (a : T) (held : Bool) → r ≡ Some a → held ≡ is_some q → false ≡ keeps held → AreSides cmp left × (start ≡ keys_sifted cmp keeps left.0 left.1)
    walk_passes a held is there passed =
        (still_sides, began ∙ first_at _ _ r q a is sifts ∙ ap (λ b. cond b (shows a ∷ keys_sifted cmp keeps left.0 left.1) (keys_sifted cmp keeps left.0 left.1)) (ap keeps (sym there) ∙ sym passed))

    pub walk_skips : (b : T) → r ≡ None → q ≡ Some b → AreSides cmp left × (start ≡ keys_sifted cmp keeps left.0 left.1)
    walk_skips b is is_too = (still_sides, began ∙ rw (is, is_too) at sifts)

    pub walk_ends : r ≡ None → q ≡ None → (start ≡ []) × (keys_sifted cmp keeps left.0 left.1 ≡ [])
    walk_ends is is_too = let ends = rw (is, is_too) at sifts in (began ∙ ends.0, ends.1)

  pub walk_shortens : (r ≡ None → q ≡ None → ⊥) → length left.0 + length left.1 < length sides.0 + length sides.1
  walk_shortens some = fewer_left cmp shows sides.0 sides.1 r q left some ran.0 ran.1 ran.2

pub some_not_none : {T : Type 0} (r : Option T) (a : T) → r ≡ Some a → r ≡ None → ⊥
some_not_none r a some none = cc

-- the keys of a list that equal those of another, looked up one by one, are those that the other holds
module _ {K : Type 0} (cmp : K → K → Ordering) (total : IsTotalOrder cmp) where
  abbrev push : Option K → List K → List K
  push None keys = keys
  push (Some key) keys = key ∷ keys

  none_within : (keys : List K) → keys_within cmp keys [] ≡ []
  none_within [] = refl
  none_within (key ∷ keys) = none_within keys

  fetched_at : (k : K) (rest : List K) → AllByRecursion (λ key. cmp k key ≡ Less) rest → (m : K) (keys : List K) → IsStrictlySortedBy cmp (m ∷ keys) → keys_within cmp keys (k ∷ rest) ≡ push (key_found cmp keys k) (keys_within cmp keys rest) → (o : Ordering) → cmp m k ≡ o → keys_within cmp (m ∷ keys) (k ∷ rest) ≡ push (cond (is_eq o) (Some m) (key_found cmp keys k)) (keys_within cmp (m ∷ keys) rest)
  fetched_at k rest below m keys ascending later Less is =
      let absent : holds cmp rest m ≡ false = apart cmp total m rest (AllByRecursion-weaker (λ z. cmp k z ≡ Less) (λ z. cmp m z ≡ Less) (λ z less. total.trans m k z is less) rest below) m (tied_itself total m) in
      let more : cmp k m ≡ Greater = greater_turned cmp total m k is in
      rw (more, absent) later
  fetched_at k rest below m keys ascending later Equal is =
      let same : cmp k m ≡ Equal = tied_back total m k is in
      let absent : holds cmp rest m ≡ false = apart cmp total k rest below m same in
      rw (same, absent) (ap (λ l. m ∷ l) (past cmp (λ b. b) total k rest keys (AllByRecursion-weaker (λ z. cmp m z ≡ Less) (λ z. cmp k z ≡ Less) (λ z less. sym (total.congr m k z is) ∙ less) keys (sorted_head cmp m keys ascending))))
  fetched_at k rest below m keys ascending later Greater is =
      let less = less_turned cmp total m k is in
      let above : AllByRecursion (λ z. cmp k z ≡ Less) (m ∷ keys) = (less, AllByRecursion-weaker (λ z. cmp m z ≡ Less) (λ z. cmp k z ≡ Less) (λ z more. total.trans k m z less more) keys (sorted_head cmp m keys ascending)) in
      past cmp (λ b. b) total k rest (m ∷ keys) above ∙ ap (λ found. push found (keys_within cmp (m ∷ keys) rest)) (sym (none_above cmp total k m keys is (sorted_head cmp m keys ascending)))

  fetched_from : (k : K) (rest : List K) → AllByRecursion (λ key. cmp k key ≡ Less) rest → (keys : List K) → IsStrictlySortedBy cmp keys → keys_within cmp keys (k ∷ rest) ≡ push (key_found cmp keys k) (keys_within cmp keys rest)
  fetched_from k rest below [] ascending = refl
  fetched_from k rest below (m ∷ keys) ascending = fetched_at k rest below m keys ascending (fetched_from k rest below keys (sorted_tail cmp m keys ascending)) (cmp m k) refl

  pushed : (keys rest : List K) (k : K) (found : Option K) → key_found cmp keys k ≡ found → keys_fetched cmp keys (k ∷ rest) ≡ push found (keys_fetched cmp keys rest)
  pushed keys rest k None is = rw is refl
  pushed keys rest k (Some x) is = rw is refl

  -- a key that is not found is skipped
  pub fetched_missing : (keys others rest : List K) (k : K) → others ≡ k ∷ rest → None ≡ key_found cmp keys k → keys_fetched cmp keys others ≡ keys_fetched cmp keys rest
  fetched_missing keys others rest k is absent = rw is (pushed keys rest k None (sym absent))

  pub fetched_within : (keys others : List K) → IsStrictlySortedBy cmp keys → IsStrictlySortedBy cmp others → keys_fetched cmp keys others ≡ keys_within cmp keys others
  fetched_within keys [] first second = sym (none_within keys)
  fetched_within keys (k ∷ rest) first second =
      pushed keys rest k (key_found cmp keys k) refl ∙ ap (push (key_found cmp keys k)) (fetched_within keys rest first (sorted_tail cmp k rest second)) ∙ sym (fetched_from k rest (sorted_head cmp k rest second) keys first)
