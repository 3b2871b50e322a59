-- Summaries of the keys of steps, one for each.
use Rattle.std.proofs.Common.{◌≡◌, ◌∙◌, ◌+◌, ◌<◌, ◌≤◌, ℕ, zero, suc, sym, ap, subst, refl, Some, List, [], ◌∷◌, ◌++◌, length, take, drop, get_or, arith, append-nil}
use Rattle.std.proofs.lemmas.List.{take_all}
use Rattle.std.proofs.lemmas.Map.Entries.{length-keys_of}
use Rattle.std.specs.Cmp.{IsTotalOrder}
use Rattle.std.specs.List.{AllZip}
use Rattle.std.specs.List.Sorted.{IsStrictlySortedBy}
use Rattle.std.specs.Map.{keys_of}
use Rattle.std.specs.declared.cmp.Ordering.{Ordering}
use Rattle.std.specs.declared.cmp.Ordering.TheVariants.{Equal}
use Rattle.bptree_arguments.specs.Sums.{SumsUpKeys, SumsUpPieces}
use Rattle.bptree_propagation.specs.Change.{StartsAt}
use Rattle.bptree_bulk.specs.Weave.{first_rest, next_source, second_rest, step_pair, woven, Goes}
use Rattle.bptree_bulk.specs.declared.weaving.Source.{Source}
use Rattle.bptree_bulk.proofs.Weaves.{one_pair, woven_joined, woven_length}
use Rattle.bptree_keys.specs.Contents.{IsAscending}
use Rattle.bptree_keys.specs.Pieces.{flatten, AllNonEmpty}
use Rattle.bptree_keys.proofs.PieceLemmas.{flatten-append, AllByRecursion-append, AllZip-append}
use Rattle.bptree_invariant.proofs.NodePieces.{keys-append}
use Rattle.std.proofs.lemmas.Cmp.{tied_back}

one_sorted : {K : Type 0} (cmp : K → K → Ordering) (keys : List K) → length keys ≡ 1 → IsStrictlySortedBy cmp keys
unfolding IsStrictlySortedBy
one_sorted cmp [] one = tt
one_sorted cmp (k ∷ []) one = (tt, tt)
one_sorted cmp (k ∷ j ∷ keys) one = absurd (omega (arith, one))

take_suc : {X : Type 0} (i : ℕ) (xs r : List X) (x : X) → drop i xs ≡ x ∷ r → take (suc i) xs ≡ take i xs ++ x ∷ []
take_suc zero xs r x starts = ap (take (suc zero)) starts
take_suc (suc i) [] r x starts = absurd (omega (arith, ap length starts))
take_suc (suc i) (y ∷ xs) r x starts = ap (λ l. y ∷ l) (take_suc i xs r x starts)

pub take_next : {X : Type 0} (i : ℕ) (xs r : List X) (x : X) → drop i xs ≡ x ∷ r → take (i + 1) xs ≡ take i xs ++ x ∷ []
take_next i xs r x starts = let on : i + 1 ≡ suc i = omega arith in ap (λ n. take n xs) on ∙ take_suc i xs r x starts

module _ {K V A : Type 0} (cmp : K → K → Ordering) (is_summary : A → List K → Type 0) (steps : List Source) (a b : List (K × V)) where
  -- there is a summary of the key of each of the first steps
  pub record AreSummed (i : ℕ) (sums : List A) : Type 0 where
    pub pieces : List (List K)
    pub some : AllNonEmpty pieces
    pub summed : AllZip is_summary sums pieces
    pub keys : flatten pieces ≡ keys_of (woven (take i steps) a b)

  pub none_summed : (sums : List A) → sums ≡ [] → AreSummed 0 sums
  none_summed sums none = record { pieces = []; some = tt; summed = subst (λ s. AllZip is_summary s []) (sym none) tt; keys = refl }

  -- one step more
  module _ (i : ℕ) (source : Source) (a' b' : List (K × V)) (starts : drop i steps ≡ source ∷ drop (i + 1) steps) (goes : Goes cmp (take i steps) a b a' b') (next : next_source cmp a' b' ≡ Some source) where
    woven_next : woven (take (i + 1) steps) a b ≡ woven (take i steps) a b ++ step_pair source a' b'
    woven_next =
        ap (λ s. woven s a b) (take_next i steps (drop (i + 1) steps) source starts)
        ∙ (woven_joined cmp (take i steps) (source ∷ []) a b a' b' goes ∙ ap (λ l. woven (take i steps) a b ++ l) (append-nil (step_pair source a' b')))

    pub summed_on : (sums sums' : List A) (sum : A) (keys : List K) → keys ≡ keys_of (step_pair source a' b') → SumsUpKeys is_summary cmp keys sum → sums' ≡ sums ++ sum ∷ [] → AreSummed i sums → AreSummed (i + 1) sums'
    summed_on sums sums' sum keys key sums_up more was =
        let one : length keys ≡ 1 = ap length key ∙ (length-keys_of (step_pair source a' b') ∙ one_pair cmp source a' b' next) in
        let reported = sums_up (omega (arith, one)) (one_sorted cmp keys one) in
        record {
          pieces = was.pieces ++ keys ∷ [];
          some = AllByRecursion-append (λ p. 0 < length p) was.pieces (keys ∷ []) was.some (omega (arith, one), tt);
          summed = subst (λ s. AllZip is_summary s (was.pieces ++ keys ∷ [])) (sym more) (AllZip-append is_summary sums was.pieces (sum ∷ []) (keys ∷ []) was.summed (reported, tt));
          keys =
              flatten-append was.pieces (keys ∷ [])
              ∙ (ap (λ l. flatten was.pieces ++ l) (append-nil keys ∙ key)
              ∙ (ap (λ l. l ++ keys_of (step_pair source a' b')) was.keys
              ∙ (sym (keys-append (woven (take i steps) a b) (step_pair source a' b')) ∙ ap keys_of (sym woven_next))));
        }

  -- all keys of the steps are summed up
  pub all_summed : (i : ℕ) (a' b' : List (K × V)) (sums : List A) (sum : A) → length steps ≤ i → length steps ≤ 64 → Goes cmp steps a b a' b' → IsAscending cmp (woven steps a b) → AreSummed i sums → SumsUpPieces is_summary cmp sums sum → is_summary sum (keys_of (woven steps a b))
  all_summed i a' b' sums sum past few goes ascending was sums_up =
      let keys : flatten was.pieces ≡ keys_of (woven steps a b) = was.keys ∙ ap (λ s. keys_of (woven s a b)) (take_all i steps past) in
      let long = length-keys_of (woven steps a b) ∙ woven_length cmp steps a b a' b' goes in
      subst (is_summary sum) keys
      (sums_up was.pieces (record { nonempty = was.some; ascending = subst (IsStrictlySortedBy cmp) (sym keys) ascending; fits = omega (arith, ap length keys, long, few) }) was.summed)

module _ {K V : Type 0} {cmp : K → K → Ordering} (total : IsTotalOrder cmp) where
  -- the pairs of the steps begin with the key of the first
  pub first_starts : (source : Source) (steps : List Source) (a b : List (K × V)) (keys : List K) (k s : K) → next_source cmp a b ≡ Some source → keys ≡ keys_of (step_pair source a b) → k ≡ get_or keys 0 k → cmp k s ≡ Equal → StartsAt cmp s (woven (source ∷ steps) a b)
  first_starts source steps a b keys k s next are first equal = go (step_pair source a b) (one_pair cmp source a b next) (first ∙ ap (λ l. get_or l 0 k) are)
    where
      go : (l : List (K × V)) → length l ≡ 1 → k ≡ get_or (keys_of l) 0 k → StartsAt cmp s (l ++ woven steps (first_rest source a) (second_rest source b))
      go [] none is = absurd (omega (arith, none))
      go (p ∷ l) one is = tied_back total p.0 s (subst (λ q. cmp q s ≡ Equal) is equal)
