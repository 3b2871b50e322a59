-- A closure is called for each member of a list, and those that stay come one behind the other.
use Rattle.std.proofs.Common.{◌≡◌, ◌∙◌, refl, sym, ap, suc, Bool, true, false, List, [], ◌∷◌, ◌++◌, append_assoc, append-nil}
use Rattle.std.specs.declared.cmp.Ordering.{Ordering}
use Rattle.std.specs.declared.cmp.Ordering.TheVariants.{Less}
use Rattle.std.specs.Cmp.{IsTotalOrder}
use Rattle.std.specs.List.Retain.{IsFiltered}
use Rattle.std.specs.List.Sorted.{IsStrictlySortedBy}
use Rattle.std.specs.Map.{keys_of}
use Rattle.std.proofs.lemmas.Map.Keys.{sorted_head, sorted_tail}
use Rattle.bptree_keys.specs.Contents.{IsAscending}
use Rattle.bptree_keys.proofs.Ascending.{all_before, all_after, all_joined, ascending_cons, ascending_with_value}
use Rattle.bptree_map.proofs.KeyLemmas.{keys_append}

-- what holds in both cases holds
pub in_both : {P : Type 0} (b : Bool) → (b ≡ true → P) → (b ≡ false → P) → P
in_both true with without = with refl
in_both false with without = without refl

module _ {K V : Type 0} {cmp : K → K → Ordering} (total : IsTotalOrder cmp) where
  -- an ascending list without a pair ascends
  pub ascending_without : (before : List (K × V)) (pair : K × V) (after : List (K × V)) → IsAscending cmp (before ++ pair ∷ after) → IsAscending cmp (before ++ after)
  ascending_without [] pair after ascending = sorted_tail cmp pair.0 (keys_of after) ascending
  ascending_without (p ∷ before) pair after ascending =
      let above = sorted_head cmp p.0 (keys_of (before ++ pair ∷ after)) ascending in
      let Above : K → Type 0 = λ key. cmp p.0 key ≡ Less in
      let rest = ascending_without before pair after (sorted_tail cmp p.0 (keys_of (before ++ pair ∷ after)) ascending) in
      ascending_cons cmp p.0 (keys_of (before ++ after)) (all_joined Above before after (all_before Above before (pair ∷ after) above) (all_after Above before (pair ∷ after) above).1) rest

-- a closure was called for the members of a list in turn; some of them stay
module _ {S X : Type 0} (Asked : S → List X → List X → Type 0) (f : S) (old : List X) where
  -- the closure was called for the first members, and the calls for the others continue from there
  abbrev pub AsksOn : S → List X → List X → Type 0
  AsksOn t kept rest = (first : List X) × (old ≡ first ++ rest) × ((more stay : List X) → Asked t more stay → Asked f (first ++ more) (kept ++ stay))

  pub none_asked : AsksOn f [] old
  none_asked = ([], refl, λ more stay r. r)

  module _ (t : S) (kept : List X) (x : X) (rest : List X) (goes : AsksOn t kept (x ∷ rest)) (u : S) where
    pub one_stays : (y : X) → ((more stay : List X) → Asked u more stay → Asked t (x ∷ more) (y ∷ stay)) → AsksOn u (kept ++ y ∷ []) rest
    one_stays y step = (
      goes.0 ++ x ∷ [],
      goes.1 ∙ sym (append_assoc goes.0 (x ∷ []) rest),
      λ more stay r. rw (append_assoc goes.0 (x ∷ []) more, append_assoc kept (y ∷ []) stay) (goes.2 (x ∷ more) (y ∷ stay) (step more stay r)),
    )

    pub one_leaves : ((more stay : List X) → Asked u more stay → Asked t (x ∷ more) stay) → AsksOn u kept rest
    one_leaves step = (
      goes.0 ++ x ∷ [],
      goes.1 ∙ sym (append_assoc goes.0 (x ∷ []) rest),
      λ more stay r. rw (append_assoc goes.0 (x ∷ []) more) (goes.2 (x ∷ more) stay (step more stay r)),
    )

  pub all_asked : (t : S) (kept rest : List X) → AsksOn t kept rest → rest ≡ [] → Asked t [] [] → Asked f old kept
  all_asked t kept rest goes none over =
      let is : old ≡ goes.0 ++ [] = goes.1 ∙ ap (λ l. goes.0 ++ l) none in
      let all = goes.2 [] [] over in
      rw is (rw (append-nil kept) at all)

module _ {P X : Type 0} (R : P → X → Bool → P → Type 0) where
  pub filters_nothing : (p : P) → IsFiltered R p [] []
  filters_nothing p = ([], p, refl, refl, refl)

  module _ (p : P) (x : X) (q : P) where
    pub filters_one : R p x true q → (more stay : List X) → IsFiltered R q more stay → IsFiltered R p (x ∷ more) (x ∷ stay)
    filters_one call more stay r = (true ∷ r.0, r.1, ap suc r.2, (q, call, r.3), ap (λ l. x ∷ l) r.4)

    pub filters_none : R p x false q → (more stay : List X) → IsFiltered R q more stay → IsFiltered R p (x ∷ more) stay
    filters_none call more stay r = (false ∷ r.0, r.1, ap suc r.2, (q, call, r.3), r.4)

-- the keys of a set, as pairs
abbrev as_pairs : {K : Type 0} → List K → List (K × Unit {0})
as_pairs [] = []
as_pairs (k ∷ keys) = (k, tt) ∷ as_pairs keys

keys_back : {K : Type 0} (keys : List K) → keys_of (as_pairs keys) ≡ keys
keys_back [] = refl
keys_back (k ∷ keys) = ap (λ rest. k ∷ rest) (keys_back keys)

module _ {K : Type 0} {cmp : K → K → Ordering} (total : IsTotalOrder cmp) (kept : List K) (k : K) (rest : List K) (sorted : IsStrictlySortedBy cmp (kept ++ k ∷ rest)) where
  ascending : IsAscending cmp (as_pairs kept ++ (k, tt) ∷ as_pairs rest)
  ascending = rw (keys_append (as_pairs kept) ((k, tt) ∷ as_pairs rest), keys_back kept, keys_back rest) sorted

  pub keys_still_sorted : IsStrictlySortedBy cmp ((kept ++ k ∷ []) ++ rest)
  keys_still_sorted = rw (append_assoc kept (k ∷ []) rest) sorted

  pub keys_without : IsStrictlySortedBy cmp (kept ++ rest)
  keys_without =
      let left = ascending_without total (as_pairs kept) (k, tt) (as_pairs rest) ascending in
      rw (keys_append (as_pairs kept) (as_pairs rest), keys_back kept, keys_back rest) at left
