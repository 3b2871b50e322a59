-- Keys between bounds, and children with separators between them.
use Rattle.std.specs.Prelude.{◌≡◌, ℕ, zero, suc, ◌+◌, false, List, [], ◌∷◌, ◌++◌, Option, Some, None}
use Rattle.std.specs.declared.cmp.Ordering.{Ordering}
use Rattle.std.specs.declared.cmp.Ordering.TheVariants.{Less}
use Rattle.std.specs.Ordering.{is_lt}

-- the lists of all members, one after another
abbrev pub flat : {X Y : Type 0} → (X → List Y) → List X → List Y
flat f [] = []
flat f (x ∷ xs) = f x ++ flat f xs

-- the sum of a function over all members
abbrev pub total : {X : Type 0} → (X → ℕ) → List X → ℕ
total f [] = 0
total f (x ∷ xs) = f x + total f xs

module _ {K : Type 0} (cmp : K → K → Ordering) where
  -- the key is not below the bound, if there is one
  abbrev pub AtLeast : Option K → K → Type 0
  AtLeast None k = Unit {0}
  AtLeast (Some b) k = is_lt (cmp k b) ≡ false

  -- the key is below the bound, if there is one
  abbrev pub Under : Option K → K → Type 0
  Under None k = Unit {0}
  Under (Some b) k = cmp k b ≡ Less

  -- the key is not above the bound, if there is one
  abbrev pub AtMost : Option K → K → Type 0
  AtMost None k = Unit {0}
  AtMost (Some b) k = is_lt (cmp b k) ≡ false

  -- the key is between two bounds, and may equal the lower one
  abbrev pub Within : Option K → Option K → K → Type 0
  Within lo hi k = AtLeast lo k × Under hi k

  -- the separator is between two bounds, and may equal either
  abbrev pub Between : Option K → Option K → K → Type 0
  Between lo hi k = AtLeast lo k × AtMost hi k

  -- children with a separator between each two of them: P holds of each child with its bounds
  abbrev pub Chain : {C : Type 0} → (C → Option K → Option K → Type 0) → List K → List C → Option K → Option K → Type 0
  Chain P ks [] lo hi = ⊥
  Chain P [] (c ∷ []) lo hi = P c lo hi
  Chain P [] (c ∷ d ∷ cs) lo hi = ⊥
  Chain P (k ∷ ks) (c ∷ cs) lo hi = P c lo (Some k) × Between lo hi k × Chain P ks cs (Some k) hi

  -- the index of the child that a key belongs to is the number of separators that are not above the
  -- key
  abbrev pub LeadsDown : K → List K → ℕ → Type 0
  LeadsDown k [] i = i ≡ 0
  LeadsDown k (s ∷ ss) zero = cmp k s ≡ Less
  LeadsDown k (s ∷ ss) (suc i) = (is_lt (cmp k s) ≡ false) × LeadsDown k ss i
