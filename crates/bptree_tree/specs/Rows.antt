-- The types that a clause on a borrow names, made of what it has of each bound.
use Rattle.std.specs.Prelude.{◌≡◌, ℕ, Bool, List, Option, IfOk}
use Rattle.std.specs.Borrow.{LendsIf, LendsSoOk, Fml, MutBor, RattleType}
use Rattle.std.specs.declared.cmp.Ordering.{Ordering}
use Rattle.std.specs.declared.result.Result.{Result}
use Rattle.std.specs.declared.clone.Clone.{Ghosts as CloneOf}
use Rattle.std.specs.declared.cmp.Ord.{Ghosts as OrdOf}
use Rattle.std.specs.declared.cmp.PartialEq.{Ghosts as PartialEqOf}
use Rattle.std.specs.declared.cmp.PartialOrd.{Ghosts as PartialOrdOf}
use Rattle.std.specs.declared.default.Default.{Ghosts as DefaultOf}
use Rattle.bptree_arguments.specs.declared.argument.Argument.{Ghosts as ArgumentOf}
use Rattle.bptree_propagation.specs.Borrowing.{tree_written}
use Rattle.bptree_propagation.specs.NodeTree.{NodeTree}
use Rattle.bptree_stores.specs.declared.node_stores.NodeStore.{Ghosts as StoreOf}
use Rattle.bptree_tree.specs.contracts.tree.BPlusTree.{the_row}
use Rattle.bptree_tree.specs.declared.SelectError.{SelectError}
use Rattle.bptree_tree.specs.Writing.{WritesSelected}

-- what a clause has as K.Key
abbrev pub KeyMembers : Type 0 → Type 1
KeyMembers K = record { partial_cmp : K → K → Option Ordering; eq : K → K → Bool; cmp : K → K → Ordering; is_clone : K → K → Type 0; is_infallible : K → Type 0 }

-- what a clause has as A.Argument
abbrev pub ArgumentMembers : Type 0 → Type 0 → Type 1
ArgumentMembers A K = record { is_default : A → Type 0; is_clone : A → A → Type 0; is_infallible : A → Type 0; is_summary : A → List K → Type 0; needs_no_memory : Type 0 }

-- the parts of these that belong to each single bound
abbrev pub clone_of : {K : Type 0} → KeyMembers K → CloneOf K
clone_of key = record { is_clone = key.is_clone; is_infallible = key.is_infallible }

abbrev pub ord_of : {K : Type 0} → KeyMembers K → OrdOf K
ord_of key = record { cmp = key.cmp }

abbrev pub partial_eq_of : {K : Type 0} → KeyMembers K → PartialEqOf K
partial_eq_of key = record { eq = key.eq }

abbrev pub partial_ord_of : {K : Type 0} → KeyMembers K → PartialOrdOf K
partial_ord_of key = record { partial_cmp = key.partial_cmp }

abbrev pub argument_of : {A K : Type 0} → ArgumentMembers A K → ArgumentOf A K
argument_of argument = record { is_summary = argument.is_summary; needs_no_memory = argument.needs_no_memory }

abbrev pub argument_clone_of : {A K : Type 0} → ArgumentMembers A K → CloneOf A
argument_clone_of argument = record { is_clone = argument.is_clone; is_infallible = argument.is_infallible }

abbrev pub default_of : {A K : Type 0} → ArgumentMembers A K → DefaultOf A
default_of argument = record { is_default = argument.is_default }

-- the type of a tree over a store of nodes
abbrev pub tree_row : (S K V A : RattleType) → StoreOf S.Denot K.Denot V.Denot A.Denot → KeyMembers K.Denot → ArgumentMembers A.Denot K.Denot → RattleType
tree_row S K V A store key argument =
    the_row S K V A store (clone_of key) (ord_of key) (partial_eq_of key) (partial_ord_of key) (argument_of argument) (argument_clone_of argument) (default_of argument)

-- the tree behind m has the value that is written through r at a key, or is unchanged if r is
-- `None`
abbrev pub borrows_written : (S K V A : RattleType) (store : StoreOf S.Denot K.Denot V.Denot A.Denot) (key : KeyMembers K.Denot) (argument : ArgumentMembers A.Denot K.Denot)
    → MutBor (NodeTree S.Denot K.Denot V.Denot A.Denot) → K.Denot → Option (MutBor V.Denot) → Fml
borrows_written S K V A store key argument m k r =
    LendsIf (tree_row S K V A store key argument) V m r (tree_written key.cmp store.slots store.with_leaf m.now k) m.now

-- the tree behind m has the value that is written through r at an allowed index, or is unchanged if
-- r is an error
abbrev pub borrows_selected : {Q : Type 0} (S K V A : RattleType) (store : StoreOf S.Denot K.Denot V.Denot A.Denot) (key : KeyMembers K.Denot) (argument : ArgumentMembers A.Denot K.Denot)
    → MutBor (NodeTree S.Denot K.Denot V.Denot A.Denot) → (Q → List K.Denot → Option ℕ → Type 0) → Q → Result (MutBor V.Denot) SelectError → Fml
borrows_selected S K V A store key argument m selects query r =
    LendsSoOk (tree_row S K V A store key argument) V m r
    (λ n w. IfOk r (λ borrowed. WritesSelected selects store.slots store.with_leaf query m.now borrowed.now w n))
    (λ n. n ≡ m.now)
