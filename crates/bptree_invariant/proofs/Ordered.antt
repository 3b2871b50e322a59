-- Orders and bounds.
use Rattle.std.proofs.Common.{◌≡◌, false, List, [], ◌∷◌, ◌++◌, refl, sym, ap, ◌∙◌, Option, Some, None}
use mathlib.Core.Bool.{true≢false}
use Rattle.std.specs.declared.cmp.Ordering.{Ordering}
use Rattle.std.specs.declared.cmp.Ordering.TheVariants.{Less, Equal, Greater}
use Rattle.std.specs.Ordering.{is_lt, is_gt}
use Rattle.std.specs.Cmp.{IsTotalOrder}
use Rattle.std.specs.List.{AllByRecursion}
use Rattle.std.specs.Map.{keys_of}
use Rattle.std.proofs.lemmas.Cmp.{alike_right}
use Rattle.std.proofs.lemmas.Map.Keys.{sorted_head, sorted_tail}
use Rattle.bptree_keys.specs.Contents.{IsAscending}
use Rattle.bptree_keys.proofs.Ascending.{greater_turned, less_turned, ascending_cons, all_joined, all_after, all_keys}
use Rattle.bptree_invariant.specs.Order.{AtLeast, AtMost, Under}

pub by_cases : {G : Type 0} (o : Ordering) → (o ≡ Less → G) → (o ≡ Equal → G) → (o ≡ Greater → G) → G
by_cases Less a b c = a refl
by_cases Equal a b c = b refl
by_cases Greater a b c = c refl

module _ {K : Type 0} {cmp : K → K → Ordering} (total : IsTotalOrder cmp) where
  -- if x ≤ y and y < z, then x < z
  pub up_then_less : (x y z : K) → is_lt (cmp y x) ≡ false → cmp y z ≡ Less → cmp x z ≡ Less
  up_then_less x y z a b =
      by_cases (cmp x y) (λ e. total.trans x y z e b) (λ e. total.congr x y z e ∙ b)
      (λ e. absurd (true≢false (sym (ap is_lt (less_turned cmp total x y e)) ∙ a)))

  -- if x < y and y ≤ z, then x < z
  pub less_then_up : (x y z : K) → cmp x y ≡ Less → is_lt (cmp z y) ≡ false → cmp x z ≡ Less
  less_then_up x y z a b =
      by_cases (cmp y z) (λ e. total.trans x y z a e) (λ e. sym (alike_right total y z x e) ∙ a)
      (λ e. absurd (true≢false (sym (ap is_lt (less_turned cmp total y z e)) ∙ b)))

  -- if x ≤ y and y ≤ z, then x ≤ z
  pub up_then_up : (x y z : K) → is_lt (cmp y x) ≡ false → is_lt (cmp z y) ≡ false → is_lt (cmp z x) ≡ false
  up_then_up x y z a b =
      by_cases (cmp z x)
      (λ e. absurd (true≢false (sym (ap is_lt (less_then_up z x y e a)) ∙ b)))
      (λ e. ap is_lt e) (λ e. ap is_lt e)

  pub AtLeast-up : (lo : Option K) (x y : K) → AtLeast cmp lo x → is_lt (cmp y x) ≡ false → AtLeast cmp lo y
  AtLeast-up None x y a b = tt
  AtLeast-up (Some l) x y a b = up_then_up l x y a b

  pub Under-less : (hi : Option K) (x y : K) → AtMost cmp hi y → cmp x y ≡ Less → Under cmp hi x
  Under-less None x y a b = tt
  Under-less (Some h) x y a b = less_then_up x y h b a

  pub AtMost-up : (hi : Option K) (x y : K) → AtMost cmp hi y → is_lt (cmp y x) ≡ false → AtMost cmp hi x
  AtMost-up None x y a b = tt
  AtMost-up (Some h) x y a b = up_then_up x y h b a

  pub not_less_back : (x y : K) → cmp x y ≡ Less → is_lt (cmp y x) ≡ false
  not_less_back x y e = ap is_lt (greater_turned cmp total x y e)

  -- s ≤ k, in the two directions of the comparison
  pub up_if_not_above : (s k : K) → is_gt (cmp s k) ≡ false → is_lt (cmp k s) ≡ false
  up_if_not_above s k h =
      by_cases (cmp k s)
      (λ e. absurd (true≢false (sym (ap is_gt (greater_turned cmp total k s e)) ∙ h)))
      (λ e. ap is_lt e) (λ e. ap is_lt e)

module _ {K V : Type 0} {cmp : K → K → Ordering} (total : IsTotalOrder cmp) where
  -- two ascending lists with a separator between them ascend
  pub ascending_joined : (xs ys : List (K × V)) (s : K) → IsAscending cmp xs → IsAscending cmp ys → AllByRecursion (λ p. cmp p.0 s ≡ Less) xs → AllByRecursion (λ p. is_lt (cmp p.0 s) ≡ false) ys → IsAscending cmp (xs ++ ys)
  ascending_joined [] ys s first second below from = second
  ascending_joined (x ∷ xs) ys s first second below from =
      ascending_cons cmp x.0 (keys_of (xs ++ ys))
      (all_joined (λ key. cmp x.0 key ≡ Less) xs ys (sorted_head cmp x.0 (keys_of xs) first)
      (all_keys (λ key. is_lt (cmp key s) ≡ false) (λ key. cmp x.0 key ≡ Less) (λ key up. less_then_up total x.0 s key below.0 up) ys from))
      (ascending_joined xs ys s (sorted_tail cmp x.0 (keys_of xs) first) second below.1 from)

  -- the pairs before a pair of an ascending list have smaller keys, and those after it have greater
  -- ones
  pub smaller_before : (before : List (K × V)) (pair : K × V) (after : List (K × V)) → IsAscending cmp (before ++ pair ∷ after) → AllByRecursion (λ p. cmp p.0 pair.0 ≡ Less) before
  smaller_before [] pair after ascending = tt
  smaller_before (p ∷ before) pair after ascending = (
    (all_after (λ key. cmp p.0 key ≡ Less) before (pair ∷ after) (sorted_head cmp p.0 (keys_of (before ++ pair ∷ after)) ascending)).0,
    smaller_before before pair after (sorted_tail cmp p.0 (keys_of (before ++ pair ∷ after)) ascending),
  )

  pub ascending_after : (before after : List (K × V)) → IsAscending cmp (before ++ after) → IsAscending cmp after
  ascending_after [] after ascending = ascending
  ascending_after (p ∷ before) after ascending = ascending_after before after (sorted_tail cmp p.0 (keys_of (before ++ after)) ascending)
