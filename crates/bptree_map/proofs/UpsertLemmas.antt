-- A value that a closure changed, if its key was there.
use Rattle.std.proofs.Common.{◌≡◌, ◌∙◌, ℕ, true, false, List, Some, None, Ok, ap, refl, sym}
use Rattle.std.specs.Borrow.{MutBor}
use Rattle.std.specs.declared.cmp.Ordering.{Ordering}
use Rattle.std.specs.Fn.{FnOnceReturnsAtMut, Once}
use Rattle.std.specs.Option.{is_some}
use Rattle.bptree_propagation.specs.Borrowing.{written}
use Rattle.bptree_keys.specs.Contents.{has, value}
use Rattle.bptree_keys.proofs.Equal.{has_where_value}
use Rattle.bptree_map.specs.Updates.{IsFullExactly, IsUpdatedAt}
use Rattle.bptree_map.proofs.KeyLemmas.{ok_not_err}

module _ {K V : Type 0} (cmp : K → K → Ordering) (l : List (K × V)) (k : K) where
  pub there_if_read : (v : V) → Some v ≡ value cmp l k → has cmp l k ≡ true
  there_if_read v e = sym (has_where_value cmp l k) ∙ ap is_some (sym e)

  pub absent_if_none : None ≡ value cmp l k → has cmp l k ≡ false
  absent_if_none e = sym (has_where_value cmp l k) ∙ ap is_some (sym e)

  pub updated_where : {F : Type 0} (calls : Once F (MutBor V × Unit {0}) (Unit {0} × (MutBor V × Unit {0}))) (f : F) (was left : V) → Some was ≡ value cmp l k → FnOnceReturnsAtMut calls f was tt left → IsUpdatedAt calls f cmp l k (written cmp k l left)
  updated_where calls f was left e call = record { was = was; left = left; there = sym e; call = call; contents = rw (there_if_read was e) refl }

-- another value that is returned is no error either
module _ {A B K V X : Type 0} (cmp : K → K → Ordering) (most : ℕ) (k : K) (l : List (K × X)) where
  pub still_not_full : (a : A) (b : B) → IsFullExactly {V = V} cmp most k l (Ok a) → IsFullExactly {V = V} cmp most k l (Ok b)
  still_not_full a b was = (λ reported. absurd (ok_not_err b _ reported.1), λ full. absurd (ok_not_err a _ (was.1 full).1))
