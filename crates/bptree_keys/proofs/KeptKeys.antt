-- A property of each key still holds after a pair is put or deleted.
use Rattle.std.proofs.Common.{Bool, true, false, List, [], ◌∷◌, ◌++◌, filter, cond}
use Rattle.std.specs.declared.cmp.Ordering.{Ordering}
use Rattle.std.specs.Ordering.{is_lt, is_eq, is_gt}
use Rattle.std.specs.List.{AllByRecursion}
use Rattle.std.specs.Map.{set_value}
use Rattle.bptree_keys.specs.Contents.{has, put, pairs_below, pairs_above}
use Rattle.bptree_keys.proofs.PieceLemmas.{AllByRecursion-append}

module _ {K V : Type 0} (P : K → Type 0) where
  all_set : (test : K → Bool) (l : List (K × V)) (v : V) → AllByRecursion (λ p. P p.0) l → AllByRecursion (λ p. P p.0) (set_value test l v)
  all_set test [] v all = tt
  all_set test (p ∷ l) v all =
      elim (test p.0) as (λ b. AllByRecursion (λ q. P q.0) (cond b ((p.0, v) ∷ l) (p ∷ set_value test l v))) [
        | true ↦ all
        | false ↦ (all.0, all_set test l v all.1)
      ]

  pub all_kept : (test : K × V → Bool) (l : List (K × V)) → AllByRecursion (λ p. P p.0) l → AllByRecursion (λ p. P p.0) (filter test l)
  all_kept test [] all = tt
  all_kept test (p ∷ l) all =
      elim (test p) as (λ b. AllByRecursion (λ q. P q.0) (cond b (p ∷ filter test l) (filter test l))) [
        | true ↦ (all.0, all_kept test l all.1)
        | false ↦ all_kept test l all.1
      ]

  pub all_put : (cmp : K → K → Ordering) (l : List (K × V)) (k : K) (v : V) → P k → AllByRecursion (λ p. P p.0) l → AllByRecursion (λ p. P p.0) (put cmp l k v)
  all_put cmp l k v here all =
      elim (has cmp l k) as (λ b. AllByRecursion (λ q. P q.0) (cond b (set_value (λ key. is_eq (cmp key k)) l v) (pairs_below cmp l k ++ (k, v) ∷ pairs_above cmp l k))) [
        | true ↦ all_set (λ key. is_eq (cmp key k)) l v all
        | false ↦
            AllByRecursion-append (λ p. P p.0) (pairs_below cmp l k) ((k, v) ∷ pairs_above cmp l k) (all_kept (λ pair. is_lt (cmp pair.0 k)) l all)
            (here, all_kept (λ pair. is_gt (cmp pair.0 k)) l all)
      ]
