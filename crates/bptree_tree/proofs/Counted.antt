-- The number of pairs of a tree after a put, and whether a value that was read shows that the key
-- is there.
use Rattle.std.proofs.Common.{◌≡◌, ◌+◌, Bool, false, List, length, refl, sym, ap, ◌∙◌, Option, Some, None, is_some, Bor}
use Rattle.std.specs.declared.cmp.Ordering.{Ordering}
use Rattle.std.specs.Cmp.{IsTotalOrder}
use Rattle.std.specs.Option.{option_copied}
use Rattle.bptree_keys.specs.Contents.{IsAscending, has, value, put}
use Rattle.bptree_keys.proofs.Equal.{has_where_value}
use Rattle.bptree_keys.proofs.Updates.{length_put}

copied_some : {V : Type 0} (r : Option (Bor V)) → is_some (option_copied r) ≡ is_some r
copied_some None = refl
copied_some (Some r) = refl

module _ {K V : Type 0} (cmp : K → K → Ordering) (l : List (K × V)) (k : K) where
  -- the key is there if and only if the read gave a value
  pub has_read : (r : Option (Bor V)) (b : Bool) → option_copied r ≡ value cmp l k → is_some r ≡ b → has cmp l k ≡ b
  has_read r b e s = sym (has_where_value cmp l k) ∙ (ap is_some (sym e) ∙ (copied_some r ∙ s))

  pub has_was : (was : Option V) (b : Bool) → was ≡ value cmp l k → is_some was ≡ b → has cmp l k ≡ b
  has_was was b e s = sym (has_where_value cmp l k) ∙ (ap is_some (sym e) ∙ s)

  module _ (total : IsTotalOrder cmp) (sorted : IsAscending cmp l) (v : V) (was : Option V) (e : was ≡ value cmp l k) where
    pub one_more : is_some was ≡ false → length (put cmp l k v) ≡ length l + 1
    one_more s = length_put cmp total l sorted k v ∙ rw (has_was was false e s) refl
