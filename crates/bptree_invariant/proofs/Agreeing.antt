-- The contents of a slot, and lists whose members agree.
use Rattle.std.proofs.Common.{◌≡◌, ℕ, ◌≤◌, List, [], ◌∷◌, map, refl, arith, Option, Some}
use Rattle.std.specs.declared.cmp.Ordering.{Ordering}
use Rattle.std.specs.List.{AllByRecursion}
use Rattle.bptree_nodes.specs.Slot.{Slot, Free, Held, Present, IsPresent}
use Rattle.bptree_invariant.specs.Order.{flat, total, Chain}
use Rattle.bptree_invariant.specs.Shape.{stored}

module _ {N : Type 0} where
  pub stored_le : (x : Slot N) → stored x ≤ 1
  stored_le Free = omega arith
  stored_le Held = omega arith
  stored_le (Present x) = omega arith

  pub present_if_stored : (x : Slot N) → 1 ≤ stored x → IsPresent x
  present_if_stored Free h = absurd (omega arith)
  present_if_stored Held h = absurd (omega arith)
  present_if_stored (Present x) h = tt

  pub stored_if_present : (x : Slot N) → IsPresent x → stored x ≡ 1
  stored_if_present Free h = absurd h
  stored_if_present Held h = absurd h
  stored_if_present (Present x) h = refl

  pub stored_if_absent : (x : Slot N) → (IsPresent x → ⊥) → stored x ≡ 0
  stored_if_absent Free h = refl
  stored_if_absent Held h = refl
  stored_if_absent (Present x) h = absurd (h tt)

pub flat_same : {X Y : Type 0} (f g : X → List Y) (xs : List X) → AllByRecursion (λ x. g x ≡ f x) xs → flat g xs ≡ flat f xs
flat_same f g [] a = refl
flat_same f g (x ∷ xs) a = rw (a.0, flat_same f g xs a.1) refl

pub total_same : {X : Type 0} (f g : X → ℕ) (xs : List X) → AllByRecursion (λ x. g x ≡ f x) xs → total g xs ≡ total f xs
total_same f g [] a = refl
total_same f g (x ∷ xs) a = rw (a.0, total_same f g xs a.1) refl

pub map_same : {X Y : Type 0} (f g : X → Y) (xs : List X) → AllByRecursion (λ x. g x ≡ f x) xs → map g xs ≡ map f xs
map_same f g [] a = refl
map_same f g (x ∷ xs) a = rw (a.0, map_same f g xs a.1) refl

-- if P implies Q for each member, and P holds of all, Q holds of all
pub each_keeps : {X : Type 0} (P Q : X → Type 0) (xs : List X) → AllByRecursion (λ x. P x → Q x) xs → AllByRecursion P xs → AllByRecursion Q xs
each_keeps P Q [] so all = tt
each_keeps P Q (x ∷ xs) so all = (so.0 all.0, each_keeps P Q xs so.1 all.1)

pub Chain-so : {C K : Type 0} (cmp : K → K → Ordering) (P Q : C → Option K → Option K → Type 0) (ks : List K) (cs : List C) (lo hi : Option K)
    → AllByRecursion (λ c. (a b : Option K) → P c a b → Q c a b) cs → Chain cmp P ks cs lo hi → Chain cmp Q ks cs lo hi
Chain-so cmp P Q ks [] lo hi all h = absurd h
Chain-so cmp P Q [] (c ∷ []) lo hi all h = all.0 lo hi h
Chain-so cmp P Q [] (c ∷ d ∷ cs) lo hi all h = absurd h
Chain-so cmp P Q (k ∷ ks) (c ∷ cs) lo hi all h = (all.0 lo (Some k) h.0, h.1, Chain-so cmp P Q ks cs (Some k) hi all.1 h.2)
