-- Changes of a list of pairs, computed from its keys.
use Rattle.std.proofs.Common.{◌≡◌, ◌∙◌, sym, ap, List, [], ◌∷◌, ◌++◌, refl, map, Bool, true, false, cond, ◌||◌, ◌&&◌, not, filter, length, ◌+◌, ℕ, Option, Some, None, Result, Ok, Err, ◌↔◌}
use Rattle.std.specs.Prelude.{IsOk, IsTrue}
use Rattle.std.proofs.lemmas.Map.{keys-set_value}
use Rattle.std.proofs.lemmas.Map.Entries.{length-keys_of}
use Rattle.std.specs.declared.cmp.Ordering.{Ordering}
use Rattle.std.specs.Cmp.{IsTotalOrder}
use Rattle.std.specs.List.Sorted.{IsStrictlySortedBy}
use Rattle.std.specs.Map.{keys_of, set_value}
use Rattle.std.specs.Borrow.{Bor}
use Rattle.std.specs.Option.{is_some, option_copied}
use Rattle.std.specs.Result.{IsErrAnd}
use Rattle.std.specs.Ordering.{is_eq, is_gt, is_lt}
use Rattle.std.specs.declared.ops.Bound.{Bound}
use Rattle.bptree_keys.specs.Contents.{IsAscending, has, put, del, gather, pairs_below, pairs_above, value}
use Rattle.bptree_keys.proofs.Equal.{has_where_value}
use Rattle.bptree_keys.proofs.Laws.{put_ascending, gather_ascending}
use Rattle.bptree_keys.proofs.Updates.{del_ascending, has_put, has_del, length_put, length_del}
use Rattle.bptree_keys.specs.Ranges.{between, falls_short, stays_below}
use Rattle.bptree_load_plan.proofs.OrderLemmas.{load_is_gather, load_same, ordered_if_ascending}
use Rattle.bptree_map.specs.Keys.{holds, with_key, without_key, gathered, keys_between}
use Rattle.bptree_map.specs.RetainedKeys.{keys_outside}
use Rattle.bptree_tree.specs.RangeRemoval.{outside}
use Rattle.bptree_tree.specs.Changes.{IsFailureOf}
use Rattle.bptree_tree.specs.Returning.{pair_of}
use Rattle.bptree_tree.specs.declared.InsertError.{InsertError}
use Rattle.bptree_tree.specs.declared.InsertError.TheVariants.{Full, OutOfMemory}
use Rattle.bptree_tree.proofs.FailureLemmas.{failure_is}
use Rattle.bptree_map.specs.KeyChanges.{IsFullForKey, IsKeyFailureOf}
use Rattle.bptree_map.specs.KeyBounds.{keys_between_bounds}
use Rattle.bptree_ranges.specs.Bounds.{between_bounds, is_before_start, is_upto_end}

module _ {K V : Type 0} where
  -- the keys of two lists, one behind the other, are those of the first, and then of the second
  pub keys_append : (l m : List (K × V)) → keys_of (l ++ m) ≡ keys_of l ++ keys_of m
  keys_append [] m = refl
  keys_append (pair ∷ l) m = ap (λ keys. pair.0 ∷ keys) (keys_append l m)

  -- the keys that pass are those of the pairs whose keys pass
  keys_filter : (test : K → Bool) (l : List (K × V)) → keys_of (filter (λ pair. test pair.0) l) ≡ filter test (keys_of l)
  keys_filter test [] = refl
  keys_filter test (pair ∷ l) =
      elim (test pair.0) as (λ b. keys_of (cond b (pair ∷ filter (λ pair. test pair.0) l) (filter (λ pair. test pair.0) l)) ≡ cond b (pair.0 ∷ filter test (keys_of l)) (filter test (keys_of l))) [
        | true ↦ ap (λ keys. pair.0 ∷ keys) (keys_filter test l)
        | false ↦ keys_filter test l
      ]

module _ {K V : Type 0} (cmp : K → K → Ordering) where
  -- a key of the pairs equals k if and only if the list of keys holds k
  pub holds_keys : (l : List (K × V)) (k : K) → has cmp l k ≡ holds cmp (keys_of l) k
  holds_keys [] k = refl
  holds_keys (pair ∷ l) k = ap (λ b. is_eq (cmp pair.0 k) || b) (holds_keys l k)

  pub keys_put : (l : List (K × V)) (k : K) (v : V) → keys_of (put cmp l k v) ≡ with_key cmp (keys_of l) k
  keys_put l k v =
      let new : keys_of (pairs_below cmp l k ++ (k, v) ∷ pairs_above cmp l k) ≡ filter (λ key. is_lt (cmp key k)) (keys_of l) ++ k ∷ filter (λ key. is_gt (cmp key k)) (keys_of l) = keys_append (pairs_below cmp l k) ((k, v) ∷ pairs_above cmp l k) ∙ ap (λ keys. keys ++ k ∷ keys_of (pairs_above cmp l k)) (keys_filter (λ key. is_lt (cmp key k)) l) ∙ ap (λ keys. filter (λ key. is_lt (cmp key k)) (keys_of l) ++ k ∷ keys) (keys_filter (λ key. is_gt (cmp key k)) l) in
      keys_put-at l k v (has cmp l k) (holds cmp (keys_of l) k) (holds_keys l k) new
    where
      keys_put-at : (l : List (K × V)) (k : K) (v : V) (b c : Bool) → b ≡ c → keys_of (pairs_below cmp l k ++ (k, v) ∷ pairs_above cmp l k) ≡ filter (λ key. is_lt (cmp key k)) (keys_of l) ++ k ∷ filter (λ key. is_gt (cmp key k)) (keys_of l) → keys_of (cond b (set_value (λ key. is_eq (cmp key k)) l v) (pairs_below cmp l k ++ (k, v) ∷ pairs_above cmp l k)) ≡ cond c (keys_of l) (filter (λ key. is_lt (cmp key k)) (keys_of l) ++ k ∷ filter (λ key. is_gt (cmp key k)) (keys_of l))
      keys_put-at l k v true true same new = keys-set_value (λ key. is_eq (cmp key k)) l v
      keys_put-at l k v false false same new = new
      keys_put-at l k v true false same new = cc
      keys_put-at l k v false true same new = cc

  pub keys_del : (l : List (K × V)) (k : K) → keys_of (del cmp l k) ≡ without_key cmp (keys_of l) k
  keys_del l k = keys_filter (λ key. not (is_eq (cmp key k))) l

  pub keys_between-is : (l : List (K × V)) (lo hi : Option K) → keys_of (between cmp l lo hi) ≡ keys_between cmp (keys_of l) lo hi
  keys_between-is l lo hi = keys_filter (λ key. not (falls_short cmp lo key) && stays_below cmp hi key) l

  pub keys_outside-is : (l : List (K × V)) (lo hi : Option K) → keys_of (outside cmp l lo hi) ≡ keys_outside cmp (keys_of l) lo hi
  keys_outside-is l lo hi = keys_filter (λ key. not (not (falls_short cmp lo key) && stays_below cmp hi key)) l

  pub keys_between_bounds-is : (l : List (K × V)) (lo hi : Bound K) → keys_of (between_bounds cmp l lo hi) ≡ keys_between_bounds cmp (keys_of l) lo hi
  keys_between_bounds-is l lo hi = keys_filter (λ key. not (is_before_start cmp lo key) && is_upto_end cmp hi key) l

  keys_gather-at : (b c : Bool) → b ≡ c → (l : List (K × V)) (keys : List K) (k : K) (v : V) → keys_of l ≡ keys → keys_of (cond b l (put cmp l k v)) ≡ cond c keys (with_key cmp keys k)
  keys_gather-at true true same l keys k v is = is
  keys_gather-at false false same l keys k v is = keys_put l k v ∙ ap (λ keys. with_key cmp keys k) is
  keys_gather-at true false same l keys k v is = cc
  keys_gather-at false true same l keys k v is = cc

  pub keys_gather : (pairs : List (K × V)) → keys_of (gather cmp pairs) ≡ gathered cmp (keys_of pairs)
  keys_gather [] = refl
  keys_gather (pair ∷ rest) = keys_gather-at (has cmp rest pair.0) (holds cmp (keys_of rest) pair.0) (holds_keys rest pair.0) (gather cmp rest) (gathered cmp (keys_of rest)) pair.0 pair.1 (keys_gather rest)

-- each key, paired with the unit value
abbrev pairs_of : {K : Type 0} → List K → List (K × Unit {0})
pairs_of keys = map (λ k. (k, tt)) keys

pub keys_pairs : {K : Type 0} (keys : List K) → keys_of (pairs_of keys) ≡ keys
keys_pairs [] = refl
keys_pairs (k ∷ keys) = ap (λ rest. k ∷ rest) (keys_pairs keys)

-- gathering pairs that ascend makes these pairs
pub gather_same : {K V : Type 0} (cmp : K → K → Ordering) → IsTotalOrder cmp → (l : List (K × V)) → IsAscending cmp l → gather cmp l ≡ l
gather_same cmp total l ascending = sym (load_is_gather cmp total l (ordered_if_ascending cmp total l ascending)) ∙ load_same cmp total l ascending

module _ {K : Type 0} (cmp : K → K → Ordering) (total : IsTotalOrder cmp) where
  pub gathered_same : (keys : List K) → IsStrictlySortedBy cmp keys → gathered cmp keys ≡ keys
  gathered_same keys ascending =
      let ascends : IsStrictlySortedBy cmp (keys_of (pairs_of keys)) = rw (keys_pairs keys) ascending in
      ap (gathered cmp) (sym (keys_pairs keys)) ∙ sym (keys_gather cmp (pairs_of keys)) ∙ ap keys_of (gather_same cmp total (pairs_of keys) ascends) ∙ keys_pairs keys

  pub gathered_ascending : (keys : List K) → IsStrictlySortedBy cmp (gathered cmp keys)
  gathered_ascending keys = rw (← keys_pairs keys, ← keys_gather cmp (pairs_of keys)) (gather_ascending cmp total (pairs_of keys))

  module _ (keys : List K) (ascending : IsStrictlySortedBy cmp keys) (k : K) where
    ascends : IsStrictlySortedBy cmp (keys_of (pairs_of keys))
    ascends = rw (keys_pairs keys) ascending

    with_is : keys_of (put cmp (pairs_of keys) k tt) ≡ with_key cmp keys k
    with_is = keys_put cmp (pairs_of keys) k tt ∙ ap (λ all. with_key cmp all k) (keys_pairs keys)

    without_is : keys_of (del cmp (pairs_of keys) k) ≡ without_key cmp keys k
    without_is = keys_del cmp (pairs_of keys) k ∙ ap (λ all. without_key cmp all k) (keys_pairs keys)

    holds_is : (j : K) → has cmp (pairs_of keys) j ≡ holds cmp keys j
    holds_is j = holds_keys cmp (pairs_of keys) j ∙ ap (λ all. holds cmp all j) (keys_pairs keys)

    pub with_ascending : IsStrictlySortedBy cmp (with_key cmp keys k)
    with_ascending = rw (← with_is) (put_ascending cmp total (pairs_of keys) ascends k tt)

    pub with_holds : (j : K) → holds cmp (with_key cmp keys k) j ≡ is_eq (cmp k j) || holds cmp keys j
    with_holds j = ap (λ all. holds cmp all j) (sym with_is) ∙ sym (holds_keys cmp (put cmp (pairs_of keys) k tt) j) ∙ has_put cmp total (pairs_of keys) ascends k tt j ∙ ap (λ b. is_eq (cmp k j) || b) (holds_is j)

    pub without_ascending : IsStrictlySortedBy cmp (without_key cmp keys k)
    without_ascending = rw (← without_is) (del_ascending cmp (pairs_of keys) k ascends)

    pub without_holds : (j : K) → holds cmp (without_key cmp keys k) j ≡ not (is_eq (cmp k j)) && holds cmp keys j
    without_holds j = ap (λ all. holds cmp all j) (sym without_is) ∙ sym (holds_keys cmp (del cmp (pairs_of keys) k) j) ∙ has_del cmp total (pairs_of keys) ascends k j ∙ ap (λ b. not (is_eq (cmp k j)) && b) (holds_is j)

    count : length (pairs_of keys) ≡ length keys
    count = sym (length-keys_of (pairs_of keys)) ∙ ap length (keys_pairs keys)

    pub with_length : length (with_key cmp keys k) ≡ cond (holds cmp keys k) (length keys) (length keys + 1)
    with_length = ap length (sym with_is) ∙ length-keys_of (put cmp (pairs_of keys) k tt) ∙ length_put cmp total (pairs_of keys) ascends k tt ∙ ap (λ b. cond b (length (pairs_of keys)) (length (pairs_of keys) + 1)) (holds_is k) ∙ ap (λ n. cond (holds cmp keys k) n (n + 1)) count

    pub without_length : length (without_key cmp keys k) + cond (holds cmp keys k) 1 0 ≡ length keys
    without_length = ap (λ all. length all + cond (holds cmp keys k) 1 0) (sym without_is) ∙ ap (λ n. n + cond (holds cmp keys k) 1 0) (length-keys_of (del cmp (pairs_of keys) k)) ∙ ap (λ b. length (del cmp (pairs_of keys) k) + cond b 1 0) (sym (holds_is k)) ∙ length_del cmp total (pairs_of keys) ascends k ∙ count

module _ {K V : Type 0} (cmp : K → K → Ordering) (l : List (K × V)) (k : K) where
  -- a value was found if and only if a key equals k
  pub holds_value : (old : Option V) → old ≡ value cmp l k → is_some old ≡ holds cmp (keys_of l) k
  holds_value old is = ap is_some is ∙ has_where_value cmp l k ∙ holds_keys cmp l k

  pub lacks_value : (old : Option V) (b : Bool) → is_some old ≡ not b → old ≡ value cmp l k → b ≡ not (holds cmp (keys_of l) k)
  lacks_value old b says is = turned b (holds cmp (keys_of l) k) (sym says ∙ holds_value old is)
    where
      turned : (b c : Bool) → not b ≡ c → b ≡ not c
      turned true c is = ap not is
      turned false c is = ap not is

  pub holds_found : (found : Option (Bor V)) → option_copied found ≡ value cmp l k → is_some found ≡ holds cmp (keys_of l) k
  holds_found None is = holds_value None is
  holds_found (Some v) is = holds_value (Some v.now) is

  -- if no key equals k, no value was found
  pub none_held : (old : Option V) → old ≡ value cmp l k → holds cmp (keys_of l) k ≡ false → is_some old ≡ false
  none_held old is free = holds_value old is ∙ free

  -- the list is full and no key equals k, by the pairs and by their keys
  pub full_keys : (n : ℕ) → (length l ≡ n) × (has cmp l k ≡ false) → (length (keys_of l) ≡ n) × (holds cmp (keys_of l) k ≡ false)
  full_keys n full = (length-keys_of l ∙ full.0, sym (holds_keys cmp l k) ∙ full.1)

  pub full_pairs : (n : ℕ) → (length (keys_of l) ≡ n) × (holds cmp (keys_of l) k ≡ false) → (length l ≡ n) × (has cmp l k ≡ false)
  full_pairs n full = (sym (length-keys_of l) ∙ full.0, holds_keys cmp l k ∙ full.1)

-- pairs without keys are no pairs
pub empty_keys : {K V : Type 0} (l : List (K × V)) → keys_of l ≡ [] → l ≡ []
empty_keys [] none = refl
empty_keys (pair ∷ l) none = cc

-- `Ok` is not `Err`
pub ok_not_err : {A E : Type 0} (a : A) (e : E) → Ok a ≡ Err e → ⊥
ok_not_err a e is = cc

err_inside : {A E : Type 0} {x y : E} (r : Result A E) → r ≡ Err x → r ≡ Err y → x ≡ y
err_inside r first second = cc

-- an error that is passed on, and what is known of the one error x
pub full_moved : {A B E P Q : Type 0} (r : Result A E) (s : Result B E) (e x : E) → IsErrAnd r (λ y. y ≡ e) → ((s ≡ Err x) ↔ P) → s ≡ Err e → (P → Q) → (Q → P) → (r ≡ Err x) ↔ Q
full_moved (Err y) s e x same full was on back = (λ is. on (full.0 (was ∙ ap Err (sym same ∙ err_inside (Err y) refl is))), λ q. ap Err (same ∙ err_inside s was (full.1 (back q))))
full_moved (Ok a) s e x same full was on back = absurd same

pub full_never : {A B E P Q : Type 0} (a : A) (b : B) (x : E) → ((Ok b ≡ Err x) ↔ P) → (Q → P) → (Ok a ≡ Err x) ↔ Q
full_never a b x full back = (λ is. absurd (ok_not_err a x is), λ q. absurd (ok_not_err b x (full.1 (back q))))

-- how an insertion into a set failed, which the failure leaves unchanged
module _ {R K : Type 0} (cmp : K → K → Ordering) (most : ℕ) (old new : List K) where
  pub key_failure_of : (k : K) (result : Result R (InsertError K (Unit {0}))) (error : InsertError K (Unit {0})) → result ≡ Err error → (pair_of error ≡ (k, tt)) × (new ≡ old) → (IsTrue (holds cmp old k) → IsOk result) → ((result ≡ Err (Full k tt)) ↔ IsFullForKey cmp most old k) → IsKeyFailureOf cmp most new error
  key_failure_of k result error is back present full = rw back.1 (failure_is (length old) most (holds cmp old) k tt result error is back.0 present full)

-- a failure of an insertion into pairs is one of an insertion into their keys
pub failure_of_keys : {K V : Type 0} (cmp : K → K → Ordering) (most : ℕ) (l : List (K × V)) (error : InsertError K V) → IsFailureOf cmp most l error → IsKeyFailureOf cmp most (keys_of l) error
failure_of_keys cmp most l (Full k v) failed = (length-keys_of l ∙ failed.0, sym (holds_keys cmp l k) ∙ failed.1)
failure_of_keys cmp most l (OutOfMemory k v) failed = (λ full. failed.0 (sym (length-keys_of l) ∙ full), sym (holds_keys cmp l k) ∙ failed.1)
