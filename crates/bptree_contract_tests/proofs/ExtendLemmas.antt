-- Pairs or keys that are put one after another.
use Rattle.std.proofs.Common.{◌≡◌, ◌∙◌, ℕ, Bool, true, false, List, [], ◌∷◌, ◌++◌, length, Option, Some, Result, Ok, Err, IfErr, refl, sym, ap, map, ◌||◌}
use Rattle.std.specs.declared.cmp.Ordering.{Ordering}
use Rattle.std.specs.Cmp.{IsTotalOrder}
use Rattle.std.specs.List.Sorted.{IsStrictlySortedBy}
use Rattle.std.specs.Map.{keys_of}
use Rattle.std.specs.Ordering.{is_eq}
use Rattle.std.proofs.lemmas.Cmp.{tied_itself}
use Rattle.std.proofs.lemmas.Iterator.{YieldsList, items_from_drains}
use Rattle.std.proofs.lemmas.List.{map-id}
use Rattle.bptree_keys.specs.Contents.{IsAscending, has, put, value}
use Rattle.bptree_keys.proofs.Laws.{put_ascending}
use Rattle.bptree_keys.proofs.Updates.{has_put, value_put}
use Rattle.bptree_map.specs.Keys.{holds, with_key}
use Rattle.bptree_map.specs.KeyChanges.{IsKeyFailureOf}
use Rattle.bptree_bulk.specs.Weave.{put_all, put_pair}
use Rattle.bptree_map.specs.Moving.{IsExtended}
use Rattle.bptree_tree.specs.Changes.{IsFailureOf, IsInsertFailure}
use Rattle.bptree_tree.specs.Returning.{pair_of}
use Rattle.bptree_tree.specs.declared.InsertError.{InsertError}
use Rattle.bptree_tree.specs.declared.InsertError.TheVariants.{Full, OutOfMemory}
use Rattle.bptree_map.proofs.KeyLemmas.{keys_pairs, keys_put, holds_keys}

-- The items of an iterator that yields a list were put.
all_put : {S X : Type 0} {steps : S → Option X → S → Type 0} {put_one : List X → X → List X} {it : S} (all old new : List X) → YieldsList steps (λ x. x) it all → IsExtended put_one steps it old new → new ≡ put_all put_one old all
all_put {put_one = put_one} all old new yields (given, (u, (t, taken, last)), is) = is ∙ ap (put_all put_one old) (sym (map-id given) ∙ items_from_drains given (t, taken, λ _. (u, last)) yields)

neither : (a b : Bool) → a || b ≡ false → (a ≡ false) × (b ≡ false)
neither true b e = cc
neither false b e = (refl, e)

module _ {K V : Type 0} {cmp : K → K → Ordering} (total : IsTotalOrder cmp) where
  -- A key that is not among the pairs keeps its value.
  pub kept_value : (l pairs : List (K × V)) (k : K) → IsAscending cmp l → has cmp pairs k ≡ false → value cmp (put_all (put_pair cmp) l pairs) k ≡ value cmp l k
  kept_value l [] k ascending absent = refl
  kept_value l (p ∷ pairs) k ascending absent =
      let (other, rest) = neither (is_eq (cmp p.0 k)) (has cmp pairs k) absent in
      kept_value (put cmp l p.0 p.1) pairs k (put_ascending cmp total l ascending p.0 p.1) rest ∙ value_put cmp total l ascending p.0 p.1 k ∙ rw other refl

  -- A key that is among the pairs has the value of the last pair with it.
  last_value : (l before : List (K × V)) (p : K × V) (after : List (K × V)) → IsAscending cmp l → has cmp after p.0 ≡ false → value cmp (put_all (put_pair cmp) l (before ++ p ∷ after)) p.0 ≡ Some p.1
  last_value l [] p after ascending absent =
      kept_value (put cmp l p.0 p.1) after p.0 (put_ascending cmp total l ascending p.0 p.1) absent ∙ value_put cmp total l ascending p.0 p.1 p.0 ∙ rw (tied_itself total p.0) refl
  last_value l (q ∷ before) p after ascending absent = last_value (put cmp l q.0 q.1) before p after (put_ascending cmp total l ascending q.0 q.1) absent

  -- The lemmas above, for all pairs that an iterator yields.
  module _ {S : Type 0} {steps : S → Option (K × V) → S → Type 0} {it : S} (all old new : List (K × V)) (yields : YieldsList steps (λ x. x) it all) (ascending : IsAscending cmp old) (put : IsExtended (put_pair cmp) steps it old new) where
    pub kept_beside : (k : K) → has cmp all k ≡ false → value cmp new k ≡ value cmp old k
    kept_beside k absent = ap (λ l. value cmp l k) (all_put all old new yields put) ∙ kept_value old all k ascending absent

    pub last_of_all : (before : List (K × V)) (after : List (K × V)) (p : K × V) → all ≡ before ++ p ∷ after → has cmp after p.0 ≡ false → value cmp new p.0 ≡ Some p.1
    last_of_all before after p parts absent = ap (λ l. value cmp l p.0) (all_put all old new yields put ∙ ap (put_all (put_pair cmp) old) parts) ∙ last_value old before p after ascending absent

-- Each key as a pair with the unit value.
abbrev pairs_of : {K : Type 0} → List K → List (K × Unit {0})
pairs_of keys = map (λ k. (k, tt)) keys

or_none : (a : Bool) → a ≡ a || false
or_none true = refl
or_none false = refl

swapped : (a b c : Bool) → (a || b) || c ≡ b || (a || c)
swapped true true c = refl
swapped true false c = refl
swapped false true c = refl
swapped false false c = refl

module _ {K : Type 0} {cmp : K → K → Ordering} (total : IsTotalOrder cmp) where
  keys_ascend : (keys : List K) → IsStrictlySortedBy cmp keys → IsStrictlySortedBy cmp (keys_of (pairs_of keys))
  keys_ascend keys sorted = rw (keys_pairs keys) sorted

  -- The keys of the pairs after a put are the keys with the new one.
  one_more : (keys : List K) (k : K) → keys_of (put cmp (pairs_of keys) k tt) ≡ with_key cmp keys k
  one_more keys k = keys_put cmp (pairs_of keys) k tt ∙ ap (λ l. with_key cmp l k) (keys_pairs keys)

  still_sorted : (keys : List K) (k : K) → IsStrictlySortedBy cmp keys → IsStrictlySortedBy cmp (with_key cmp keys k)
  still_sorted keys k sorted = rw (← one_more keys k) (put_ascending cmp total (pairs_of keys) (keys_ascend keys sorted) k tt)

  holds_one_more : (keys : List K) (k j : K) → IsStrictlySortedBy cmp keys → holds cmp (with_key cmp keys k) j ≡ is_eq (cmp k j) || holds cmp keys j
  holds_one_more keys k j sorted =
      ap (λ l. holds cmp l j) (sym (one_more keys k)) ∙ sym (holds_keys cmp (put cmp (pairs_of keys) k tt) j) ∙ has_put cmp total (pairs_of keys) (keys_ascend keys sorted) k tt j
      ∙ ap (λ b. is_eq (cmp k j) || b) (holds_keys cmp (pairs_of keys) j ∙ ap (λ l. holds cmp l j) (keys_pairs keys))

  -- A key is held after the puts if it was held before or was put.
  pub holds_all : (keys more : List K) (j : K) → IsStrictlySortedBy cmp keys → holds cmp (put_all (with_key cmp) keys more) j ≡ holds cmp keys j || holds cmp more j
  holds_all keys [] j sorted = or_none (holds cmp keys j)
  holds_all keys (k ∷ more) j sorted =
      holds_all (with_key cmp keys k) more j (still_sorted keys k sorted) ∙ ap (λ b. b || holds cmp more j) (holds_one_more keys k j sorted) ∙ swapped (is_eq (cmp k j)) (holds cmp keys j) (holds cmp more j)

  pub held_or_came : {S : Type 0} {steps : S → Option K → S → Type 0} {it : S} (all old new : List K) → YieldsList steps (λ x. x) it all → IsStrictlySortedBy cmp old → IsExtended (with_key cmp) steps it old new → (k : K) → holds cmp new k ≡ holds cmp old k || holds cmp all k
  held_or_came all old new yields sorted put k = ap (λ l. holds cmp l k) (all_put all old new yields put) ∙ holds_all old all k sorted

-- The key that an error returns is absent.
failed_absent : {K V : Type 0} (most n : ℕ) (is_there : K → Bool) (error : InsertError K V) → IsInsertFailure most n is_there error → is_there (pair_of error).0 ≡ false
failed_absent most n is_there (Full k v) failed = failed.1
failed_absent most n is_there (OutOfMemory k v) failed = failed.1

not_before : (b c : Bool) → (b ≡ true → c ≡ true) → c ≡ false → b ≡ false
not_before false c keeps absent = refl
not_before true c keeps absent = let there = keeps refl in cc

or_true : (a : Bool) → a || true ≡ true
or_true true = refl
or_true false = refl

module _ {K V : Type 0} {cmp : K → K → Ordering} (total : IsTotalOrder cmp) where
  -- A key that is present stays present.
  still_there : (l pairs : List (K × V)) (k : K) → IsAscending cmp l → has cmp l k ≡ true → has cmp (put_all (put_pair cmp) l pairs) k ≡ true
  still_there l [] k ascending there = there
  still_there l (p ∷ pairs) k ascending there =
      still_there (put cmp l p.0 p.1) pairs k (put_ascending cmp total l ascending p.0 p.1) (has_put cmp total l ascending p.0 p.1 k ∙ rw there (or_true (is_eq (cmp p.0 k))))

  pub absent_before : (most : ℕ) (old new given : List (K × V)) (error : InsertError K V) → IsAscending cmp old → new ≡ put_all (put_pair cmp) old given → IsFailureOf cmp most new error → has cmp old (pair_of error).0 ≡ false
  absent_before most old new given error ascending came failed =
      not_before _ _ (λ there. ap (λ l. has cmp l (pair_of error).0) came ∙ still_there old given (pair_of error).0 ascending there) (failed_absent most (length new) (has cmp new) error failed)

module _ {K : Type 0} {cmp : K → K → Ordering} (total : IsTotalOrder cmp) where
  pub key_absent_before : (most : ℕ) (old new given : List K) (error : InsertError K (Unit {0})) → IsStrictlySortedBy cmp old → new ≡ put_all (with_key cmp) old given → IsKeyFailureOf cmp most new error → holds cmp old (pair_of error).0 ≡ false
  key_absent_before most old new given error sorted came failed =
      not_before _ _ (λ there. ap (λ l. holds cmp l (pair_of error).0) came ∙ holds_all total old given (pair_of error).0 sorted ∙ rw there refl) (failed_absent most (length new) (holds cmp new) error failed)

-- Two clauses of one error hold together.
pub of_both : {T E : Type 0} (r : Result T E) (P Q S : E → Type 0) → ((e : E) → P e → Q e → S e) → IfErr r P → IfErr r Q → IfErr r S
of_both (Ok x) P Q S both p q = tt
of_both (Err e) P Q S both p q = both e p q
