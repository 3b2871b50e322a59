-- A key of a list is replaced by one that equals it.
use Rattle.std.proofs.Common.{◌≡◌, ℕ, zero, suc, ◌<◌, cond, List, [], ◌∷◌, ◌++◌, length, get_or, take, drop, refl, sym, ap, subst, ◌∙◌, arith, Some, None, slice_get, false}
use Rattle.std.specs.declared.cmp.Ordering.{Ordering}
use Rattle.std.specs.declared.cmp.Ordering.TheVariants.{Less, Equal, Greater}
use Rattle.std.specs.Cmp.{IsTotalOrder}
use Rattle.std.specs.List.{AllByRecursion, insert, remove}
use Rattle.std.specs.Map.{keys_of}
use Rattle.std.specs.Ordering.{is_eq}
use Rattle.bptree_keys.specs.Contents.{IsAscending, del, put}
use Rattle.bptree_keys.specs.Indexes.{AllCompare, IsHit}
use Rattle.bptree_keys.proofs.Found.{hit_at}
use Rattle.bptree_keys.proofs.KeptKeys.{all_kept, all_put}
use Rattle.bptree_keys.proofs.Laws.{put_ascending}
use Rattle.bptree_keys.proofs.Parted.{del_hit, put_gap}
use Rattle.bptree_keys.proofs.Updates.{del_ascending}
use Rattle.bptree_nodes.specs.LeafResults.{HasEqualAt}
use Rattle.bptree_invariant.specs.Edit.{IsLocal}
use Rattle.bptree_removal.specs.Replacement.{rekeyed, set_key_at}

module _ {K V : Type 0} where
  -- a pair that was removed is inserted again with another key
  pub set_by_moves : (ps : List (K × V)) (i : ℕ) (pair : K × V) (k : K) → slice_get ps i ≡ Some pair → insert (remove ps i) i (k, pair.1) ≡ set_key_at ps i k
  set_by_moves [] i pair k read = cc
  set_by_moves (p ∷ ps) zero pair k read = let same : p ≡ pair = cc in rw same refl
  set_by_moves (p ∷ ps) (suc i) pair k read = ap (λ l. p ∷ l) (set_by_moves ps i pair k read)

  pub set_long : (ps : List (K × V)) (i : ℕ) (k : K) → length (set_key_at ps i k) ≡ length ps
  set_long [] i k = refl
  set_long (p ∷ ps) zero k = refl
  set_long (p ∷ ps) (suc i) k = ap suc (set_long ps i k)

  -- the old key is stored again, and the new one is read at its slot
  pub set_back : (ps : List (K × V)) (i : ℕ) (k gone : K) → slice_get (keys_of ps) i ≡ Some gone → set_key_at (set_key_at ps i k) i gone ≡ ps
  set_back [] i k gone read = refl
  set_back (p ∷ ps) zero k gone read = let same : p.0 ≡ gone = cc in rw (← same) refl
  set_back (p ∷ ps) (suc i) k gone read = ap (λ l. p ∷ l) (set_back ps i k gone read)

  pub set_reads : (ps : List (K × V)) (i : ℕ) (k : K) → i < length ps → slice_get (keys_of (set_key_at ps i k)) i ≡ Some k
  set_reads [] i k within = absurd (omega arith)
  set_reads (p ∷ ps) zero k within = refl
  set_reads (p ∷ ps) (suc i) k within = set_reads ps i k (omega arith)

  -- the key of a pair that is read, and the pair of a key that is read
  pub key_of_pair : (ps : List (K × V)) (i : ℕ) (pair : K × V) → slice_get ps i ≡ Some pair → slice_get (keys_of ps) i ≡ Some pair.0
  key_of_pair [] i pair read = absurd (let z : None ≡ Some pair = read in cc)
  key_of_pair (p ∷ ps) zero pair read = let same : p ≡ pair = cc in rw same refl
  key_of_pair (p ∷ ps) (suc i) pair read = key_of_pair ps i pair read

  pub pair_of_key : (ps : List (K × V)) (i : ℕ) (gone : K) → slice_get (keys_of ps) i ≡ Some gone → (v : V) × (slice_get ps i ≡ Some (gone, v))
  pair_of_key [] i gone read = absurd (let z : None ≡ Some gone = read in cc)
  pair_of_key (p ∷ ps) zero gone read = let same : p.0 ≡ gone = cc in (p.1, rw (← same) refl)
  pair_of_key (p ∷ ps) (suc i) gone read = pair_of_key ps i gone read

  set_between : (before : List (K × V)) (pair : K × V) (after : List (K × V)) (k : K) → set_key_at (before ++ pair ∷ after) (length before) k ≡ before ++ (k, pair.1) ∷ after
  set_between [] pair after k = refl
  set_between (p ∷ before) pair after k = ap (λ l. p ∷ l) (set_between before pair after k)

module _ {K V : Type 0} (cmp : K → K → Ordering) (k : K) where
  -- keys that do not equal k stay
  rekeyed_other : (o : Ordering) (l : List (K × V)) → is_eq o ≡ false → AllCompare cmp k o l → rekeyed cmp k l ≡ l
  rekeyed_other o [] other all = refl
  rekeyed_other o (p ∷ l) other all = rw (all.0, other, rekeyed_other o l other all.1) refl

  rekeyed_append : (l m : List (K × V)) → rekeyed cmp k (l ++ m) ≡ rekeyed cmp k l ++ rekeyed cmp k m
  rekeyed_append [] m = refl
  rekeyed_append (p ∷ l) m = ap (λ rest. cond (is_eq (cmp p.0 k)) (k, p.1) p ∷ rest) (rekeyed_append l m)

  pub rekeyed_long : (l : List (K × V)) → length (rekeyed cmp k l) ≡ length l
  rekeyed_long [] = refl
  rekeyed_long (p ∷ l) = ap suc (rekeyed_long l)

  pub rekeyed_is_local : IsLocal {V = V} cmp k (rekeyed cmp k)
  rekeyed_is_local = record {
    around = λ before l after smaller greater.
        rw (rekeyed_append before (l ++ after), rekeyed_append l after, rekeyed_other Less before refl smaller, rekeyed_other Greater after refl greater) refl;
  }

  module _ (l before : List (K × V)) (pair : K × V) (after : List (K × V)) (hit : IsHit cmp l before pair after k) where
    rekeyed_hit : rekeyed cmp k l ≡ before ++ (k, pair.1) ∷ after
    rekeyed_hit = rw (hit.parts, rekeyed_append before (pair ∷ after), rekeyed_other Less before refl hit.smaller, hit.equal, rekeyed_other Greater after refl hit.greater) refl

    -- replacing the key is removing the pair and putting one with k
    pub rekeyed_put : rekeyed cmp k l ≡ put cmp (del cmp l k) k pair.1
    rekeyed_put =
        rekeyed_hit
        ∙ sym (ap (λ m. put cmp m k pair.1) (del_hit cmp l before pair after k hit) ∙ put_gap cmp (before ++ after) before after k (record { parts = refl; smaller = hit.smaller; greater = hit.greater }) pair.1)

    pub set_hit : (i : ℕ) → i ≡ length before → set_key_at l i k ≡ rekeyed cmp k l
    set_hit i is = ap (λ m. set_key_at m i k) hit.parts ∙ (ap (λ n. set_key_at (before ++ pair ∷ after) n k) is ∙ (set_between before pair after k ∙ sym rekeyed_hit))

module _ {K V : Type 0} {cmp : K → K → Ordering} (total : IsTotalOrder cmp) (l : List (K × V)) (sorted : IsAscending cmp l) (k : K) (i : ℕ) (pair : K × V) (read : slice_get l i ≡ Some pair) (found : HasEqualAt cmp l k i) where
  abbrev at : (i < length l) × IsHit cmp l (take i l) (get_or l i pair) (drop (suc i) l) k
  at = hit_at cmp total l sorted k i pair found

  is_there : (m : List (K × V)) (j : ℕ) (p : K × V) → slice_get m j ≡ Some p → get_or m j p ≡ p
  is_there [] j p at' = refl
  is_there (x ∷ m) zero p at' = let same : x ≡ p = cc in same
  is_there (x ∷ m) (suc j) p at' = is_there m j p at'

  hit : IsHit cmp l (take i l) pair (drop (suc i) l) k
  hit = subst (λ p. IsHit cmp l (take i l) p (drop (suc i) l) k) (is_there l i pair read) at.1

  taken : (m : List (K × V)) (j : ℕ) → j < length m → j ≡ length (take j m)
  taken [] j within = absurd (omega arith)
  taken (x ∷ m) zero within = refl
  taken (x ∷ m) (suc j) within = ap suc (taken m j (omega arith))

  pub set_is : set_key_at l i k ≡ rekeyed cmp k l
  set_is = set_hit cmp k l (take i l) pair (drop (suc i) l) hit i (taken l i at.0)

  pub is_put : rekeyed cmp k l ≡ put cmp (del cmp l k) k pair.1
  is_put = rekeyed_put cmp k l (take i l) pair (drop (suc i) l) hit

  pub ascends : IsAscending cmp (rekeyed cmp k l)
  ascends = subst (IsAscending cmp) (sym is_put) (put_ascending cmp total (del cmp l k) (del_ascending cmp l k sorted) k pair.1)

  pub all_hold : (P : K → Type 0) → P k → AllByRecursion (λ p. P p.0) l → AllByRecursion (λ p. P p.0) (rekeyed cmp k l)
  all_hold P here all = subst (AllByRecursion (λ p. P p.0)) (sym is_put) (all_put P cmp (del cmp l k) k pair.1 here (all_kept P _ l all))
