-- The leaves of the pairs that a closure keeps.
use Rattle.std.specs.Prelude.{◌≡◌, ◌<◌, ◌≤◌, ◌++◌, ◌∷◌, Bool, cond, Option, Some, None, List, [], length}
use Rattle.std.specs.Borrow.{Bor, MutBor}
use Rattle.std.specs.Fn.{Mut}
use Rattle.std.specs.List.{AllByRecursion}
use Rattle.std.specs.declared.alloc.Global.{Global}
use Rattle.std.specs.declared.boxed.Box.{Box}
use Rattle.std.specs.declared.cmp.Ordering.{Ordering}
use Rattle.std.specs.declared.vec.Vec.{Vec}
use Rattle.bptree_bulk_load.specs.Rooms.{joined, parts_of}
use Rattle.bptree_invariant.specs.NodeTree.{NodeTree}
use Rattle.bptree_keys.specs.Indexes.{IsHit}
use Rattle.bptree_nodes.specs.Leaf.{Leaf}
use Rattle.bptree_nodes.specs.Retaining.{CallsAtPair, IsRetained}
use Rattle.bptree_tree.specs.Building.{AreAllLeaves}

module _ {K V : Type 0} where
  -- the leaf has as many pairs as each of several leaves of a tree
  abbrev pub HasEnough : Box (Leaf K V) Global → Type 0
  HasEnough leaf = 16 ≤ length leaf.value.pairs

  -- each leaf has enough pairs, and so has the open leaf behind them if there is one before it
  pub record AreOpen (leaves : List (Box (Leaf K V) Global)) (last : Box (Leaf K V) Global) : Type 0 where
    pub each : AllByRecursion HasEnough leaves
    pub last_enough : 0 < length leaves → HasEnough last

  -- the pairs of leaves, and those of the open leaf behind them
  abbrev pub pairs_to_last : List (Box (Leaf K V) Global) → Box (Leaf K V) Global → List (K × V)
  pairs_to_last leaves last = joined (parts_of leaves) ++ last.value.pairs

  -- there is no leaf, or these can be all the leaves of a tree
  abbrev pub AreNoneOrAll : (K → K → Ordering) → List (Box (Leaf K V) Global) → Type 0
  AreNoneOrAll cmp leaves = 0 < length leaves → AreAllLeaves cmp leaves

module _ {F K V : Type 0} (calls : Mut F (Bor K × (MutBor V × Unit {0})) (Bool × (MutBor V × Unit {0}))) where
  -- a tree has the pairs of another that stay
  abbrev pub Retains : {S A : Type 0} → F → NodeTree S K V A → NodeTree S K V A → Type 0
  Retains f old new = IsRetained calls f old.contents new.contents

  -- an allocation failed: nothing has changed, or the pairs that stay are returned and no pair is
  -- left
  abbrev pub FailsToRetain : {S A : Type 0} → F → NodeTree S K V A → NodeTree S K V A → Option (Vec (K × V) Global) → Type 0
  FailsToRetain f old new None = new ≡ old
  FailsToRetain f old new (Some kept) = (new.contents ≡ []) × IsRetained calls f old.contents kept.items

  module _ (cmp : K → K → Ordering) (k : K) (f : F) where
    -- the closure was called for the pair of a list whose key equals k; the call returned `stays`
    -- and left the pair `left` and the closure `after`
    pub record IsCallFor (old : List (K × V)) (stays : Bool) (after : F) : Type 0 where
      pub before : List (K × V)
      pub pair : K × V
      pub behind : List (K × V)
      pub hit : IsHit cmp old before pair behind k
      pub left : K × V
      pub call : CallsAtPair calls f pair stays after left

    -- the new list has the pair as the call left it
    abbrev pub CallsFor : List (K × V) → List (K × V) → Bool × F → Type 0
    CallsFor old new result = (call : IsCallFor old result.0 result.1) × (new ≡ call.before ++ call.left ∷ call.behind)

    -- the new list has the pair as the call left it, or does not have it if it does not stay
    abbrev pub KeepsOrRemoves : List (K × V) → List (K × V) → F → Type 0
    KeepsOrRemoves old new after = (stays : Bool) × (call : IsCallFor old stays after) × (new ≡ call.before ++ cond stays (call.left ∷ call.behind) call.behind)
