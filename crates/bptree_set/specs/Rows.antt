-- The type of a set, as clauses on borrows name it.
use Rattle.std.specs.Borrow.{RattleType}
use Rattle.bptree_set.specs.contracts.set.BPlusTreeSet.{the_row}
use Rattle.bptree_tree.specs.Rows.{KeyMembers, clone_of, ord_of, partial_eq_of, partial_ord_of}

-- a set of keys of a type, as a type
abbrev pub set_row : (K : RattleType) → KeyMembers K.Denot → RattleType
set_row K key = the_row K (record {}) (clone_of key) (ord_of key) (record {}) (partial_eq_of key) (partial_ord_of key)
