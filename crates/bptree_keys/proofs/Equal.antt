-- Equal keys find the same value.
use Rattle.std.proofs.Common.{◌≡◌, Bool, List, [], ◌∷◌, Option, Some, refl, is_some, cond, ◌||◌}
use Rattle.std.specs.declared.cmp.Ordering.{Ordering}
use Rattle.std.specs.declared.cmp.Ordering.TheVariants.{Less, Equal, Greater}
use Rattle.std.specs.Ordering.{is_eq}
use Rattle.std.specs.Cmp.{IsTotalOrder}
use Rattle.std.proofs.lemmas.Cmp.{alike_right}
use Rattle.bptree_keys.specs.Contents.{has, value}

module _ {K V : Type 0} (cmp : K → K → Ordering) where
  pub value_at_equal : IsTotalOrder cmp → (l : List (K × V)) (j k : K) → cmp j k ≡ Equal → value cmp l j ≡ value cmp l k
  value_at_equal total [] j k same = refl
  value_at_equal total (p ∷ l) j k same = rw (alike_right total j k p.0 same, value_at_equal total l j k same) refl

  -- a key is in the list if and only if it has a value
  pub has_where_value : (l : List (K × V)) (k : K) → is_some (value cmp l k) ≡ has cmp l k
  has_where_value [] k = refl
  has_where_value (p ∷ l) k = by_result (cmp p.0 k) p.1 (value cmp l k) (has cmp l k) (has_where_value l k)
    where
      by_result : (o : Ordering) (v : V) (rest : Option V) (there : Bool) → is_some rest ≡ there → is_some (cond (is_eq o) (Some v) rest) ≡ (is_eq o || there)
      by_result Less v rest there same = same
      by_result Equal v rest there same = refl
      by_result Greater v rest there same = same
