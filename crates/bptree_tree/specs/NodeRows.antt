-- The types that a clause on a borrow of a tree's nodes names.
use Rattle.std.specs.Prelude.{◌≡◌, ℕ, List, Option, IfOk}
use Rattle.std.specs.Borrow.{LendsIf, LendsSoOk, Fml, MutBor, RattleType}
use Rattle.std.specs.declared.result.Result.{Result}
use Rattle.bptree_propagation.specs.Borrowing.{tree_written}
use Rattle.bptree_invariant.specs.NodeTree.{NodeTree}
use Rattle.bptree_invariant.specs.contracts.nodes.Nodes.{the_row}
use Rattle.bptree_stores.specs.declared.node_stores.NodeStore.{Ghosts as StoreOf}
use Rattle.bptree_tree.specs.Rows.{KeyMembers, ArgumentMembers, argument_clone_of, argument_of, clone_of, default_of, ord_of, partial_eq_of, partial_ord_of}
use Rattle.bptree_tree.specs.declared.SelectError.{SelectError}
use Rattle.bptree_tree.specs.Writing.{WritesSelected}

-- the type of a tree's nodes in a store
abbrev pub nodes_row : (S K V A : RattleType) → StoreOf S.Denot K.Denot V.Denot A.Denot → KeyMembers K.Denot → ArgumentMembers A.Denot K.Denot → RattleType
nodes_row S K V A store key argument =
    the_row S K V A store (clone_of key) (ord_of key) (partial_eq_of key) (partial_ord_of key) (argument_of argument) (argument_clone_of argument) (default_of argument)

-- the tree behind m has the value that is written through r at a key, or is unchanged if r is
-- `None`
abbrev pub borrows_written_node : (S K V A : RattleType) (store : StoreOf S.Denot K.Denot V.Denot A.Denot) (key : KeyMembers K.Denot) (argument : ArgumentMembers A.Denot K.Denot)
    → MutBor (NodeTree S.Denot K.Denot V.Denot A.Denot) → K.Denot → Option (MutBor V.Denot) → Fml
borrows_written_node S K V A store key argument m k r =
    LendsIf (nodes_row S K V A store key argument) V m r (tree_written key.cmp store.slots store.with_leaf m.now k) m.now

-- the tree behind m has the value that is written through r at an allowed index, or is unchanged if
-- r is an error
abbrev pub borrows_selected_node : {Q : Type 0} (S K V A : RattleType) (store : StoreOf S.Denot K.Denot V.Denot A.Denot) (key : KeyMembers K.Denot) (argument : ArgumentMembers A.Denot K.Denot)
    → MutBor (NodeTree S.Denot K.Denot V.Denot A.Denot) → (Q → List K.Denot → Option ℕ → Type 0) → Q → Result (MutBor V.Denot) SelectError → Fml
borrows_selected_node S K V A store key argument m selects query r =
    LendsSoOk (nodes_row S K V A store key argument) V m r
    (λ n w. IfOk r (λ borrowed. WritesSelected selects store.slots store.with_leaf query m.now borrowed.now w n))
    (λ n. n ≡ m.now)
