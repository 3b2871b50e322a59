-- The pairs and keys that a closure keeps.
use Rattle.std.specs.Prelude.{◌≡◌, ◌==◌, ℕ, Option, Some, None, List, [], filter, map, not}
use Rattle.std.specs.declared.alloc.Global.{Global}
use Rattle.std.specs.declared.vec.Vec.{Vec}
use Rattle.bptree_contract_tests.specs.Numbers.{halved}
use Rattle.bptree_map.specs.declared.failures.RetainError.{RetainError}
use Rattle.bptree_map.specs.declared.failures.RetainError.TheVariants.{NotMade, NotStored}

-- The pairs with half their values, without those whose half is 0.
abbrev pub halves_left : {K : Type 0} → List (K × ℕ) → List (K × ℕ)
halves_left l = filter (λ pair. not (pair.1 == 0)) (map halved l)

-- The keys without 0.
abbrev pub without_zero : List ℕ → List ℕ
without_zero keys = filter (λ key. not (key == 0)) keys

-- Nothing changed, or nothing is left and the error has these members.
abbrev pub FailsWith : {X : Type 0} → List X → List X → List X → RetainError (Vec X Global) → Type 0
FailsWith kept old new NotMade = new ≡ old
FailsWith kept old new (NotStored given) = (new ≡ []) × (given.items ≡ kept)

-- Nothing changed, or nothing is left and these members are returned.
abbrev pub LosesNone : {X : Type 0} → List X → List X → List X → Option (Vec X Global) → Type 0
LosesNone kept old new None = new ≡ old
LosesNone kept old new (Some given) = (new ≡ []) × (given.items ≡ kept)
