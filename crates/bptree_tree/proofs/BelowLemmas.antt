-- Two lists of pairs, each key of the first below each key of the second.
use Rattle.std.proofs.Common.{◌≡◌, ◌∙◌, ◌-◌, suc, sym, ap, refl, None, Some, List, [], ◌∷◌, ◌++◌, length, arith, slice_get}
use Rattle.std.specs.Cmp.{IsTotalOrder}
use Rattle.std.specs.Map.{keys_of}
use Rattle.std.specs.declared.cmp.Ordering.{Ordering}
use Rattle.std.specs.declared.cmp.Ordering.TheVariants.{Less}
use Rattle.std.proofs.lemmas.Map.Keys.{sorted_head, sorted_tail}
use Rattle.bptree_keys.specs.Contents.{last_member, IsAscending}
use Rattle.bptree_keys.proofs.Ascending.{ascending_cons}
use Rattle.bptree_keys.proofs.PieceLemmas.{AllByRecursion-weaker}
use Rattle.bptree_tree.proofs.UndoLemmas.{some_same}

last_more : {X : Type 0} (x y : X) (l : List X) → last_member (x ∷ y ∷ l) ≡ last_member (y ∷ l)
last_more x y l =
    let long : length (x ∷ y ∷ l) - 1 ≡ suc (length l) = omega arith in
    let short : length (y ∷ l) - 1 ≡ length l = omega arith in
    rw (long, short) refl

module _ {K V : Type 0} {cmp : K → K → Ordering} (total : IsTotalOrder cmp) where
  below_first : (p q : K × V) (l : List (K × V)) → cmp p.0 q.0 ≡ Less → IsAscending cmp (q ∷ l) → IsAscending cmp (p ∷ q ∷ l)
  below_first p q l less up =
      let above = AllByRecursion-weaker (λ key. cmp q.0 key ≡ Less) (λ key. cmp p.0 key ≡ Less) (λ key more. total.trans p.0 q.0 key less more) (keys_of l) (sorted_head cmp q.0 (keys_of l) up) in
      ascending_cons cmp p.0 (q.0 ∷ keys_of l) (less, above) up

  -- two ascending lists ascend as one if the last key of the first is below the first key of the
  -- second
  pub ascending_both : (a b : List (K × V)) (x y : K × V) → last_member a ≡ Some x → slice_get b 0 ≡ Some y → cmp x.0 y.0 ≡ Less → IsAscending cmp a → IsAscending cmp b → IsAscending cmp (a ++ b)
  ascending_both [] b x y last first less up up' = absurd (let z : None ≡ Some x = last in cc)
  ascending_both (p ∷ a) [] x y last first less up up' = absurd (let z : None ≡ Some y = first in cc)
  ascending_both (p ∷ []) (q ∷ b) x y last first less up up' =
      let same : p ≡ x = some_same p x last in
      let same' : q ≡ y = some_same q y first in
      below_first p q b (ap (λ k. cmp k.0 q.0) same ∙ (ap (λ k. cmp x.0 k.0) same' ∙ less)) up'
  ascending_both (p ∷ r ∷ a) (q ∷ b) x y last first less up up' =
      let rest = ascending_both (r ∷ a) (q ∷ b) x y (sym (last_more p r a) ∙ last) first less (sorted_tail cmp p.0 (keys_of (r ∷ a)) up) up' in
      below_first p r (a ++ q ∷ b) (sorted_head cmp p.0 (keys_of (r ∷ a)) up).0 rest
