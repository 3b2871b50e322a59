-- The pairs that remain of pairs in load order when the last pair of each run is kept.
use Rattle.std.proofs.Common.{◌≡◌, ◌≢◌, Bool, true, false, List, [], ◌∷◌, Option, Some, None, refl, sym, ap, subst, cond, ◌∙◌, ◌||◌, true≢false}
use Rattle.std.specs.declared.cmp.Ordering.{Ordering}
use Rattle.std.specs.declared.cmp.Ordering.TheVariants.{Less, Equal, Greater}
use Rattle.std.specs.Ordering.{is_eq, ordering_reverse}
use Rattle.std.specs.Cmp.{IsTotalOrder}
use Rattle.std.specs.Map.{keys_of}
use Rattle.std.specs.Option.{option_or}
use Rattle.std.proofs.lemmas.Cmp.{alike_right}
use Rattle.std.proofs.lemmas.Map.Keys.{sorted_head, sorted_tail}
use Rattle.bptree_keys.specs.Contents.{IsAscending, starts_with_key, load, gather, has, value, put}
use Rattle.bptree_keys.specs.Indexes.{AllCompare}
use Rattle.bptree_keys.proofs.Ascending.{greater_turned}
use Rattle.bptree_keys.proofs.Laws.{gather_ascending}
use Rattle.bptree_keys.proofs.Parted.{has_gap, put_gap}
use Rattle.bptree_keys.proofs.Updates.{value_put}
use Rattle.bptree_load_plan.specs.Dedup.{last_of_each_run}
use Rattle.bptree_load_plan.specs.Loading.{IsInLoadOrder, last_value}

-- if k is less than x, and x is not greater than y, k is less than y
below_on : {K : Type 0} (cmp : K → K → Ordering) (total : IsTotalOrder cmp) (k x y : K) (o : Ordering) → cmp x y ≡ o → cmp k x ≡ Less → cmp x y ≢ Greater → cmp k y ≡ Less
below_on cmp total k x y Less is less up = total.trans k x y less is
below_on cmp total k x y Equal is less up = sym (alike_right total x y k is) ∙ less
below_on cmp total k x y Greater is less up = absurd (up is)

-- equality of keys is symmetric
alike_turned : {K : Type 0} (cmp : K → K → Ordering) (total : IsTotalOrder cmp) (x y : K) → is_eq (cmp y x) ≡ is_eq (cmp x y)
alike_turned cmp total x y = ap is_eq (total.antisymm y x) ∙ turned (cmp x y)
  where
    turned : (o : Ordering) → is_eq (ordering_reverse o) ≡ is_eq o
    turned Less = refl
    turned Equal = refl
    turned Greater = refl

module _ {K V : Type 0} (cmp : K → K → Ordering) (total : IsTotalOrder cmp) where
  -- a key that is less than the first key in load order is less than all keys
  greater_all : (k : K) (q : K × V) (l : List (K × V)) → IsInLoadOrder cmp (q ∷ l) → cmp k q.0 ≡ Less → AllCompare cmp k Greater (q ∷ l)
  greater_all k q [] ordered less = (greater_turned cmp total k q.0 less, tt)
  greater_all k q (r ∷ l) ordered less = (greater_turned cmp total k q.0 less, greater_all k r l ordered.1 (below_on cmp total k q.0 r.0 (cmp q.0 r.0) refl less ordered.0))

  -- if all keys compare as o with k, so do those that `load` keeps
  all_kept : (k : K) (o : Ordering) (l : List (K × V)) → AllCompare cmp k o l → AllCompare cmp k o (load cmp l)
  all_kept k o [] all = tt
  all_kept k o (p ∷ l) all =
      elim (starts_with_key cmp l p.0) as (λ b. AllCompare cmp k o (cond b (load cmp l) (p ∷ load cmp l))) [
        | true ↦ all_kept k o l all.1
        | false ↦ (all.0, all_kept k o l all.1)
      ]

  -- `load` and `gather` of one more pair, by cases of the order of its key and the next
  gather_step : (p q : K × V) (l : List (K × V)) → IsInLoadOrder cmp (p ∷ q ∷ l) → load cmp (q ∷ l) ≡ gather cmp (q ∷ l) → (o : Ordering) → cmp p.0 q.0 ≡ o → load cmp (p ∷ q ∷ l) ≡ gather cmp (p ∷ q ∷ l)
  gather_step p q l ordered rest Less is =
      let turned : cmp q.0 p.0 ≡ Greater = greater_turned cmp total p.0 q.0 is in
      let all : AllCompare cmp p.0 Greater (q ∷ l) = greater_all p.0 q l ordered.1 is in
      let absent : has cmp (q ∷ l) p.0 ≡ false = has_gap cmp (q ∷ l) [] (q ∷ l) p.0 (record { parts = refl; smaller = tt; greater = all }) in
      let placed : put cmp (load cmp (q ∷ l)) p.0 p.1 ≡ p ∷ load cmp (q ∷ l) = put_gap cmp (load cmp (q ∷ l)) [] (load cmp (q ∷ l)) p.0 (record { parts = refl; smaller = tt; greater = all_kept p.0 Greater (q ∷ l) all }) p.1 in
      ap (λ b. cond b (load cmp (q ∷ l)) (p ∷ load cmp (q ∷ l))) (ap is_eq turned)
      ∙ sym placed
      ∙ ap (λ more. put cmp more p.0 p.1) rest
      ∙ sym (ap (λ b. cond b (gather cmp (q ∷ l)) (put cmp (gather cmp (q ∷ l)) p.0 p.1)) absent)
  gather_step p q l ordered rest Equal is =
      let turned : cmp q.0 p.0 ≡ Equal = total.antisymm q.0 p.0 ∙ ap ordering_reverse is in
      let there : has cmp (q ∷ l) p.0 ≡ true = ap (λ b. b || has cmp l p.0) (ap is_eq turned) in
      ap (λ b. cond b (load cmp (q ∷ l)) (p ∷ load cmp (q ∷ l))) (ap is_eq turned)
      ∙ rest
      ∙ sym (ap (λ b. cond b (gather cmp (q ∷ l)) (put cmp (gather cmp (q ∷ l)) p.0 p.1)) there)
  gather_step p q l ordered rest Greater is = absurd (ordered.0 is)

  -- `load` of pairs in load order is `gather` of them
  pub load_is_gather : (l : List (K × V)) → IsInLoadOrder cmp l → load cmp l ≡ gather cmp l
  load_is_gather [] ordered = refl
  load_is_gather (p ∷ []) ordered = refl
  load_is_gather (p ∷ q ∷ l) ordered = gather_step p q l ordered (load_is_gather (q ∷ l) ordered.1) (cmp p.0 q.0) refl

  -- `load` of pairs in load order is ascending
  pub load_ascending : (l : List (K × V)) → IsInLoadOrder cmp l → IsAscending cmp (load cmp l)
  load_ascending l ordered = subst (IsAscending cmp) (sym (load_is_gather l ordered)) (gather_ascending cmp total l)

  -- `load` keeps all pairs of an ascending list
  pub load_same : (l : List (K × V)) → IsAscending cmp l → load cmp l ≡ l
  load_same [] ascending = refl
  load_same (p ∷ []) ascending = refl
  load_same (p ∷ q ∷ l) ascending =
      let turned : cmp q.0 p.0 ≡ Greater = greater_turned cmp total p.0 q.0 (sorted_head cmp p.0 (keys_of (q ∷ l)) ascending).0 in
      ap (λ b. cond b (load cmp (q ∷ l)) (p ∷ load cmp (q ∷ l))) (ap is_eq turned) ∙ ap (λ more. p ∷ more) (load_same (q ∷ l) (sorted_tail cmp p.0 (keys_of (q ∷ l)) ascending))

  -- an ascending list is in load order
  pub ordered_if_ascending : (l : List (K × V)) → IsAscending cmp l → IsInLoadOrder cmp l
  ordered_if_ascending [] ascending = tt
  ordered_if_ascending (p ∷ []) ascending = (tt, tt)
  ordered_if_ascending (p ∷ q ∷ l) ascending =
      let less : cmp p.0 q.0 ≡ Less = (sorted_head cmp p.0 (keys_of (q ∷ l)) ascending).0 in
      (λ greater. absurd cc, ordered_if_ascending (q ∷ l) (sorted_tail cmp p.0 (keys_of (q ∷ l)) ascending))

  -- the pairs that no equal key follows directly are the last of their runs
  pub load_runs : (l : List (K × V)) → load cmp l ≡ last_of_each_run (λ pair after. is_eq (cmp pair.0 after.0)) l
  load_runs [] = refl
  load_runs (p ∷ []) = refl
  load_runs (p ∷ q ∷ l) =
      ap (λ b. cond b (load cmp (q ∷ l)) (p ∷ load cmp (q ∷ l))) (alike_turned cmp total p.0 q.0)
      ∙ ap (λ kept. cond (is_eq (cmp p.0 q.0)) kept (p ∷ kept)) (load_runs (q ∷ l))

-- `option_or` with `None` as its second option, and with `Some` as its first option
pub or_none : {V : Type 0} (found : Option V) → option_or found None ≡ found
or_none None = refl
or_none (Some v) = refl

or_some : {V : Type 0} (found : Option V) (v : V) (other : Option V) → option_or (option_or found (Some v)) other ≡ option_or found (Some v)
or_some None v other = refl
or_some (Some w) v other = refl

module _ {K V : Type 0} (cmp : K → K → Ordering) where
  -- if no key equals k, there is no last value
  none_step : (p : K × V) (l : List (K × V)) (k : K) → (has cmp l k ≡ false → last_value cmp l k ≡ None) → (o : Ordering) → cmp p.0 k ≡ o → has cmp (p ∷ l) k ≡ false → last_value cmp (p ∷ l) k ≡ None
  none_step p l k later Less is absent = rw (is, later (rw is at absent)) refl
  none_step p l k later Equal is absent = absurd (true≢false (rw is at absent))
  none_step p l k later Greater is absent = rw (is, later (rw is at absent)) refl

  none_if_absent : (l : List (K × V)) (k : K) → has cmp l k ≡ false → last_value cmp l k ≡ None
  none_if_absent [] k absent = refl
  none_if_absent (p ∷ l) k absent = none_step p l k (none_if_absent l k) (cmp p.0 k) refl absent

  -- if a key equals k, there is a last value
  some_step : (p : K × V) (l : List (K × V)) (k : K) (other : Option V) → (has cmp l k ≡ true → option_or (last_value cmp l k) other ≡ last_value cmp l k) → (o : Ordering) → cmp p.0 k ≡ o → has cmp (p ∷ l) k ≡ true → option_or (last_value cmp (p ∷ l) k) other ≡ last_value cmp (p ∷ l) k
  some_step p l k other later Less is there = rw (is, or_none (last_value cmp l k)) (later (rw is at there))
  some_step p l k other later Equal is there = rw is (or_some (last_value cmp l k) p.1 other)
  some_step p l k other later Greater is there = rw (is, or_none (last_value cmp l k)) (later (rw is at there))

  some_if_there : (l : List (K × V)) (k : K) (other : Option V) → has cmp l k ≡ true → option_or (last_value cmp l k) other ≡ last_value cmp l k
  some_if_there [] k other there = absurd (true≢false (sym there))
  some_if_there (p ∷ l) k other there = some_step p l k other (some_if_there l k other) (cmp p.0 k) refl there

module _ {K V : Type 0} (cmp : K → K → Ordering) (total : IsTotalOrder cmp) where
  -- a list contains both of two equal keys or neither
  pub has_alike : (x y : K) → cmp x y ≡ Equal → (l : List (K × V)) → has cmp l x ≡ has cmp l y
  has_alike x y alike [] = refl
  has_alike x y alike (p ∷ l) = rw (alike_right total x y p.0 alike, has_alike x y alike l) refl

  -- the value at k when one more pair is gathered, by cases of whether its key comes again and of its order with k
  value_step : (p : K × V) (l : List (K × V)) (k : K) → value cmp (gather cmp l) k ≡ last_value cmp l k → (b : Bool) → has cmp l p.0 ≡ b → (o : Ordering) → cmp p.0 k ≡ o → value cmp (gather cmp (p ∷ l)) k ≡ last_value cmp (p ∷ l) k
  value_step p l k rest true there Less is = rw (there, is, or_none (last_value cmp l k)) rest
  value_step p l k rest true there Equal is = rw (there, is, some_if_there cmp l k (Some p.1) (sym (has_alike p.0 k is l) ∙ there)) rest
  value_step p l k rest true there Greater is = rw (there, is, or_none (last_value cmp l k)) rest
  value_step p l k rest false absent Less is = rw (absent, value_put cmp total (gather cmp l) (gather_ascending cmp total l) p.0 p.1 k, is, or_none (last_value cmp l k)) rest
  value_step p l k rest false absent Equal is = rw (absent, value_put cmp total (gather cmp l) (gather_ascending cmp total l) p.0 p.1 k, is, none_if_absent cmp l k (sym (has_alike p.0 k is l) ∙ absent)) refl
  value_step p l k rest false absent Greater is = rw (absent, value_put cmp total (gather cmp l) (gather_ascending cmp total l) p.0 p.1 k, is, or_none (last_value cmp l k)) rest

  value_gather : (l : List (K × V)) (k : K) → value cmp (gather cmp l) k ≡ last_value cmp l k
  value_gather [] k = refl
  value_gather (p ∷ l) k = value_step p l k (value_gather l k) (has cmp l p.0) refl (cmp p.0 k) refl

  -- the value at each key is the one of the last pair with an equal key
  pub value_load : (l : List (K × V)) (k : K) → IsInLoadOrder cmp l → value cmp (load cmp l) k ≡ last_value cmp l k
  value_load l k ordered = ap (λ kept. value cmp kept k) (load_is_gather cmp total l ordered) ∙ value_gather l k
