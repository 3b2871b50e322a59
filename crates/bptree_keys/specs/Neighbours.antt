-- The pair after a key, and the pair before a key.
use Rattle.std.specs.Prelude.{◌≡◌, ℕ, Bool, false, List, Option, Some, None, slice_get}
use Rattle.std.specs.declared.cmp.Ordering.{Ordering}
use Rattle.std.specs.declared.cmp.Ordering.TheVariants.{Less, Greater}
use Rattle.std.specs.Ordering.{is_lt, is_gt}

module _ {K V : Type 0} (cmp : K → K → Ordering) (l : List (K × V)) (k : K) where
  -- a pair of the list whose key is on one side of k, and no key on that side is nearer: for no such key `is_nearer` holds
  pub record IsNearest (side : Ordering) (is_nearer : Ordering → Bool) (pair : K × V) : Type 0 where
    pub index : ℕ
    pub here : slice_get l index ≡ Some pair
    pub beside : cmp pair.0 k ≡ side
    pub nearest : (i : ℕ) (other : K × V) → slice_get l i ≡ Some other → cmp other.0 k ≡ side → is_nearer (cmp other.0 pair.0) ≡ false

  -- the pair with the least greater key, and the one with the greatest smaller key
  abbrev pub IsLeastAbove : K × V → Type 0
  IsLeastAbove = IsNearest Greater is_lt

  abbrev pub IsGreatestBelow : K × V → Type 0
  IsGreatestBelow = IsNearest Less is_gt

  -- the pair with the least greater key, or `None` if no key is greater
  abbrev pub IsAfter : Option (K × V) → Type 0
  IsAfter None = (i : ℕ) (other : K × V) → slice_get l i ≡ Some other → is_gt (cmp other.0 k) ≡ false
  IsAfter (Some pair) = IsLeastAbove pair

  -- the pair with the greatest smaller key, or `None` if no key is smaller
  abbrev pub IsBefore : Option (K × V) → Type 0
  IsBefore None = (i : ℕ) (other : K × V) → slice_get l i ≡ Some other → is_lt (cmp other.0 k) ≡ false
  IsBefore (Some pair) = IsGreatestBelow pair
