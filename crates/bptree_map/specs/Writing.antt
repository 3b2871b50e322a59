-- The pairs after a borrow of a value that a query selects.
use Rattle.std.specs.Prelude.{◌≡◌, ℕ, List, Option, Some, slice_get, IfOk}
use Rattle.std.specs.Borrow.{MutBor}
use Rattle.std.specs.declared.result.Result.{Result}
use Rattle.std.specs.Map.{keys_of, values_of}
use Rattle.bptree_nodes.specs.Leaf.{set_value_at}

-- one value is written, at an allowed index; nothing else changes
pub record WritesAt {Q K V : Type 0} (selects : Q → List K → Option ℕ → Type 0) (query : Q) (old : List (K × V)) (was w : V) (new : List (K × V)) : Type 0 where
  pub index : ℕ
  pub selected : selects query (keys_of old) (Some index)
  pub value : slice_get (values_of old) index ≡ Some was
  pub contents : new ≡ set_value_at old index w

-- the borrowed value is written, if there is one; nothing else changes
abbrev pub WritesBorrowed : {Q K V E : Type 0} → (Q → List K → Option ℕ → Type 0) → Q → List (K × V) → Result (MutBor V) E → List (K × V) → V → Type 0
WritesBorrowed selects query old r new w = IfOk r (λ borrowed. WritesAt selects query old borrowed.now w new)
