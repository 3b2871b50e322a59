-- A pair that is put at a new key, and a value that is written there.
use Rattle.std.proofs.Common.{◌≡◌, ◌∙◌, Bool, true, false, List, [], ◌∷◌, ◌++◌, Option, Some, None, ap, refl, subst, sym}
use mathlib.Core.Bool.{true≢false}
use Rattle.std.specs.declared.cmp.Ordering.{Ordering}
use Rattle.std.specs.declared.cmp.Ordering.TheVariants.{Equal}
use Rattle.std.specs.Cmp.{IsTotalOrder}
use Rattle.std.specs.Borrow.{MutBor}
use Rattle.std.specs.Option.{IsSome, option_copied_mut, UnwrapsOrElse}
use Rattle.std.proofs.lemmas.Cmp.{alike_right, tied_back, tied_itself}
use Rattle.bptree_keys.specs.Contents.{has, pairs_below, put, value}
use Rattle.bptree_keys.proofs.Equal.{value_at_equal}
use Rattle.bptree_invariant.proofs.Ordered.{by_cases}
use Rattle.bptree_propagation.specs.Borrowing.{written}
use Rattle.bptree_map.specs.Updates.{IsPutIfAbsent, IsThereOrMade}
use Rattle.bptree_map.proofs.UpsertLemmas.{absent_if_none, there_if_read}

-- writing the value that is there changes nothing
written_same : {K V : Type 0} (cmp : K → K → Ordering) (k : K) (v : V) (l : List (K × V)) → value cmp l k ≡ Some v → written cmp k l v ≡ l
written_same cmp k v [] is = refl
written_same cmp k v (p ∷ l) is =
    by_cases (cmp p.0 k)
    (λ o. rw o (ap (λ more. p ∷ more) (written_same cmp k v l (rw o at is))))
    (λ o. let same = rw o at is in let is_v : v ≡ p.1 = cc in rw o (ap (λ x. (p.0, x) ∷ l) is_v))
    (λ o. rw o (ap (λ more. p ∷ more) (written_same cmp k v l (rw o at is))))

module _ {K V : Type 0} {cmp : K → K → Ordering} (total : IsTotalOrder cmp) (k : K) where
  module _ (v w : V) where
    written_twice : (l : List (K × V)) → written cmp k (written cmp k l v) w ≡ written cmp k l w
    written_twice [] = refl
    written_twice (p ∷ l) = by_cases (cmp p.0 k) (λ is. rw (is, is) (ap (λ more. p ∷ more) (written_twice l))) (λ is. rw (is, is) refl) (λ is. rw (is, is) (ap (λ more. p ∷ more) (written_twice l)))

    written_new : (l m : List (K × V)) → written cmp k (pairs_below cmp l k ++ (k, v) ∷ m) w ≡ pairs_below cmp l k ++ (k, w) ∷ m
    written_new [] m = rw (tied_itself total k) refl
    written_new (p ∷ l) m = by_cases (cmp p.0 k) (λ is. rw (is, is) (ap (λ more. p ∷ more) (written_new l m))) (λ is. rw is (written_new l m)) (λ is. rw is (written_new l m))

    written_put_by : (l : List (K × V)) (there : Bool) → has cmp l k ≡ there → written cmp k (put cmp l k v) w ≡ put cmp l k w
    written_put_by l true is = rw is (written_twice l)
    written_put_by l false is = rw is (written_new l _)

  module _ (v : V) where
    value_of_old : (l : List (K × V)) → has cmp l k ≡ true → value cmp (written cmp k l v) k ≡ Some v
    value_of_old [] there = absurd (true≢false (sym there))
    value_of_old (p ∷ l) there = by_cases (cmp p.0 k) (λ is. rw (is, is) (value_of_old l (rw is at there))) (λ is. rw (is, is) refl) (λ is. rw (is, is) (value_of_old l (rw is at there)))

    behind_smaller : (l m : List (K × V)) → value cmp (pairs_below cmp l k ++ (k, v) ∷ m) k ≡ Some v
    behind_smaller [] m = rw (tied_itself total k) refl
    behind_smaller (p ∷ l) m = by_cases (cmp p.0 k) (λ is. rw (is, is) (behind_smaller l m)) (λ is. rw is (behind_smaller l m)) (λ is. rw is (behind_smaller l m))

    -- the value of a new key is the one that was put
    pub value_of_new : (l : List (K × V)) → has cmp l k ≡ false → value cmp (put cmp l k v) k ≡ Some v
    value_of_new l absent = rw absent (behind_smaller l _)

    value_put_by : (l : List (K × V)) (there : Bool) → has cmp l k ≡ there → value cmp (put cmp l k v) k ≡ Some v
    value_put_by l true is = rw is (value_of_old l is)
    value_put_by l false is = value_of_new l is

  -- `key`, another key that equals k
  module _ (key : K) (same : cmp k key ≡ Equal) where
    written_alike : (w : V) (l : List (K × V)) → written cmp key l w ≡ written cmp k l w
    written_alike w [] = refl
    written_alike w (p ∷ l) = rw (alike_right total k key p.0 same, written_alike w l) refl

    pub written_put : (l : List (K × V)) (v w : V) → written cmp key (put cmp l k v) w ≡ put cmp l k w
    written_put l v w = written_alike w (put cmp l k v) ∙ written_put_by v w l (has cmp l k) refl

    pub value_put : (l : List (K × V)) (v : V) → value cmp (put cmp l k v) key ≡ Some v
    value_put l v = value_at_equal cmp total (put cmp l k v) key k (tied_back total k key same) ∙ value_put_by v l (has cmp l k) refl

module _ {K V : Type 0} (makes : V → Type 0) (cmp : K → K → Ordering) (l : List (K × V)) (k : K) where
  put_if_read : (o : Option V) → value cmp l k ≡ o → has cmp l k ≡ true → IsPutIfAbsent makes cmp l k l
  put_if_read None is there = absurd (true≢false (sym there ∙ absent_if_none cmp l k (sym is)))
  put_if_read (Some v) is there = record { put_value = v; made = rw is refl; contents = rw there (sym (written_same cmp k v l is)) }

  -- if a key equals k, nothing is put
  pub put_if_there : has cmp l k ≡ true → IsPutIfAbsent makes cmp l k l
  put_if_there there = put_if_read (value cmp l k) refl there

  made_if_none : (o : Option V) → value cmp l k ≡ o → has cmp l k ≡ false → (v : V) → makes v → UnwrapsOrElse o makes v
  made_if_none None is absent v made = made
  made_if_none (Some x) is absent v made = absurd (true≢false (sym (there_if_read cmp l k x (sym is)) ∙ absent))

  -- if no key equals k, a value is made and put
  pub put_if_absent : has cmp l k ≡ false → (v : V) → makes v → (new : List (K × V)) → new ≡ put cmp l k v → IsPutIfAbsent makes cmp l k new
  put_if_absent absent v made new is = record { put_value = v; made = made_if_none (value cmp l k) refl absent v made; contents = is }

-- if a key equals k, a value is borrowed
pub borrowed_if_there : {K V : Type 0} (cmp : K → K → Ordering) (l : List (K × V)) (k : K) → has cmp l k ≡ true → (borrowed : Option (MutBor V)) → option_copied_mut borrowed ≡ value cmp l k → IsSome borrowed
borrowed_if_there cmp l k there None is = absurd (true≢false (sym there ∙ absent_if_none cmp l k is))
borrowed_if_there cmp l k there (Some borrowed) is = refl

-- a borrow at another key that equals k, once a pair is there, and a write through it
module _ {K V : Type 0} {cmp : K → K → Ordering} (total : IsTotalOrder cmp) (makes : V → Type 0) (old new : List (K × V)) (k key : K) (same : cmp k key ≡ Equal) (is_put : IsPutIfAbsent makes cmp old k new) where
  value_there : value cmp new key ≡ Some is_put.put_value
  value_there = ap (λ l. value cmp l key) is_put.contents ∙ value_put total k key same old is_put.put_value

  pub there_after : has cmp new key ≡ true
  there_after = there_if_read cmp new key is_put.put_value (sym value_there)

  pub written_after : (w : V) → written cmp key new w ≡ put cmp old k w
  written_after w = ap (λ l. written cmp key l w) is_put.contents ∙ written_put total k key same old is_put.put_value w

  pub made_after : (borrowed : V) → value cmp new key ≡ Some borrowed → IsThereOrMade makes cmp old k borrowed
  made_after borrowed is = let read : Some is_put.put_value ≡ Some borrowed = sym value_there ∙ is in let same_value : is_put.put_value ≡ borrowed = cc in subst (IsThereOrMade makes cmp old k) same_value is_put.made
