-- The pairs that a closure keeps whose calls return what a test says.
use Rattle.std.proofs.Common.{◌≡◌, ◌∙◌, ap, Bool, cond, Option, Some, None, filter, map, List, [], ◌∷◌}
use Rattle.std.specs.Borrow.{Bor, MutBor}
use Rattle.std.specs.Fn.{Mut}
use Rattle.std.specs.Fn.{CalledAt}
use Rattle.std.specs.List.Retain.{IsFiltered}
use Rattle.std.specs.declared.alloc.Global.{Global}
use Rattle.std.specs.declared.vec.Vec.{Vec}
use Rattle.bptree_contract_tests.specs.Thinned.{FailsWith, LosesNone}
use Rattle.bptree_invariant.specs.NodeTree.{NodeTree}
use Rattle.bptree_map.specs.RetainedKeys.{FailsKeyRetain}
use Rattle.bptree_map.specs.Retaining.{FailsRetain}
use Rattle.bptree_nodes.specs.Retaining.{CallsAtPair, IsRetained}
use Rattle.bptree_tree.specs.Keeping.{FailsToRetain}
use Rattle.bptree_map.specs.declared.failures.RetainError.{RetainError}
use Rattle.bptree_map.specs.declared.failures.RetainError.TheVariants.{NotMade, NotStored}

-- Each call leaves what `makes` makes of the pair, and returns a test of that.
module _ {F K V : Type 0} (calls : Mut F (Bor K × (MutBor V × Unit {0})) (Bool × (MutBor V × Unit {0}))) (test : K × V → Bool) (makes : K × V → K × V)
    (outcomes : (f : F) (pair : K × V) (stays : Bool) (after : F) (left : K × V) → CallsAtPair calls f pair stays after left → (stays ≡ test (makes pair)) × (left ≡ makes pair)) where
  pub kept_by_test : (f : F) (old new : List (K × V)) → IsRetained calls f old new → new ≡ filter test (map makes old)
  kept_by_test f [] new kept = kept
  kept_by_test f (pair ∷ old) new (stays, after, left, call, rest, kept, is) =
      let reported = outcomes f pair stays after left call in
      let more = kept_by_test after old rest kept in
      is ∙ (λ i. cond (reported.0 i) (reported.1 i ∷ more i) (more i))

  pub failed_by_test : (f : F) (old new : List (K × V)) (e : RetainError (Vec (K × V) Global)) → FailsRetain calls f old new e → FailsWith (filter test (map makes old)) old new e
  failed_by_test f old new NotMade fails = fails
  failed_by_test f old new (NotStored kept) fails = (fails.0, kept_by_test f old kept.items fails.1)

  pub none_lost : {S A : Type 0} (f : F) (old new : NodeTree S K V A) (e : Option (Vec (K × V) Global)) → FailsToRetain calls f old new e → LosesNone (filter test (map makes old.contents)) old.contents new.contents e
  none_lost f old new None fails = ap (λ t. t.contents) fails
  none_lost f old new (Some kept) fails = (fails.0, kept_by_test f old.contents kept.items fails.1)

-- A property of all keys that the closure keeps holds of those in the error.
pub keys_failed : {F K : Type 0} (calls : Mut F (Bor K × Unit {0}) Bool) (f : F) (old new kept : List K) (e : RetainError (Vec K Global)) → ((l : List K) → IsFiltered (CalledAt calls) f old l → l ≡ kept) → FailsKeyRetain calls f old new e → FailsWith kept old new e
keys_failed calls f old new kept NotMade all fails = fails
keys_failed calls f old new kept (NotStored given) all fails = (fails.0, all given.items fails.1)
